use Rattle.std.proofs.Common.{◌≡◌, refl, sym, ap, ◌∙◌, set}
use Rattle.sd_base.specs.Memory.{changed, without_bytes}
use Rattle.sd_base.proofs.FileLists.{file_in-at, file_in-none, set-position, changed-none, others-stay, without_bytes-empties}
use Rattle.sd_base.proofs.files.clear_in.Goals as goal

pub returns-in-Some : goal.returns-in-Some
returns-in-Some c =
    let files = c.args.files.now in let name = c.args.name.now in let file = c.index-files-place in let place = c.in-Some.place in
    let is : set files place c.clear.new.self ≡ changed without_bytes name files = ap (set files place) (c.clear.ensures ∙ ap without_bytes (sym file.is)) ∙ set-position without_bytes name files place file.result (sym c.in-Some.ensures) file.is in
    record {
      found = rw (file_in-at files name place file.result (sym c.in-Some.ensures) file.is) refl;
      changed = is;
      emptied = without_bytes-empties files _ name is;
      stay = others-stay files _ name without_bytes (λ f. refl) is;
    }

pub returns-in-None : goal.returns-in-None
returns-in-None c =
    let files = c.args.files.now in let name = c.args.name.now in
    let none = file_in-none files name (sym c.in-None.ensures) in
    let is : files ≡ changed without_bytes name files = sym (changed-none without_bytes name files none) in
    record { found = rw none refl; changed = is; emptied = without_bytes-empties files _ name is; stay = others-stay files _ name without_bytes (λ f. refl) is }
