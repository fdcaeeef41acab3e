use Rattle.std.proofs.Common.{◌≡◌, refl, sym, ap, ◌∙◌, set, Some}
use Rattle.sd_base.specs.Memory.{changed, with_piece, has_room, file_in}
use Rattle.sd_base.proofs.FileLists.{file_in-at, file_in-none, set-position, changed-none, others-stay, with_piece-adds, with_piece-adds_part}
use Rattle.sd_base.proofs.files.append_in.Goals as goal

pub returns-in-Some : goal.returns-in-Some
returns-in-Some c =
    let files = c.args.files.now in let name = c.args.name.now in let piece = c.args.piece.now in let file = c.index-files-place in let place = c.in-Some.place in
    let is : set files place c.append.new.self ≡ changed (with_piece piece) name files = ap (set files place) (c.append.ensures.added ∙ ap (with_piece piece) (sym file.is)) ∙ set-position (with_piece piece) name files place file.result (sym c.in-Some.ensures) file.is in
    let all : c.append.result ≡ has_room piece (file_in files name) = c.append.ensures.fits ∙ ap (λ f. has_room piece (Some f)) (sym file.is) ∙ sym (ap (has_room piece) (file_in-at files name place file.result (sym c.in-Some.ensures) file.is)) in
    record {
      all = all;
      changed = is;
      added = with_piece-adds files _ name piece c.append.result all is;
      part = with_piece-adds_part files _ name piece is;
      stay = others-stay files _ name (with_piece piece) (λ f. refl) is;
    }

pub returns-in-None : goal.returns-in-None
returns-in-None c =
    let files = c.args.files.now in let name = c.args.name.now in let piece = c.args.piece.now in
    let none = file_in-none files name (sym c.in-None.ensures) in
    let is : files ≡ changed (with_piece piece) name files = sym (changed-none (with_piece piece) name files none) in
    record { all = rw none refl; changed = is; added = tt; part = with_piece-adds_part files _ name piece is; stay = others-stay files _ name (with_piece piece) (λ f. refl) is }
