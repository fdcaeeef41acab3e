use Rattle.std.proofs.Common.{refl, sym}
use Rattle.sd_base.proofs.FileLists.{file_in-at, file_in-none, content_is}
use Rattle.sd_base.proofs.files.read_from.Goals as goal

pub returns-in-Some-clause-found : goal.returns-in-Some-clause-found
returns-in-Some-clause-found c =
    let h = file_in-at c.args.files.now c.args.name.now c.in-Some.place c.index-files-place.result (sym c.in-Some.ensures) c.index-files-place.is in
    rw h refl

pub returns-in-Some-clause-piece : goal.returns-in-Some-clause-piece
returns-in-Some-clause-piece c bytes told =
    let h = file_in-at c.args.files.now c.args.name.now c.in-Some.place c.index-files-place.result (sym c.in-Some.ensures) c.index-files-place.is in
    rw (sym (content_is c.args.files.now c.args.name.now c.index-files-place.result bytes h told)) (rw (sym c.bytes.ensures) c.copy_from.ensures.copied)

pub returns-in-Some-clause-count : goal.returns-in-Some-clause-count
returns-in-Some-clause-count c bytes told =
    let h = file_in-at c.args.files.now c.args.name.now c.in-Some.place c.index-files-place.result (sym c.in-Some.ensures) c.index-files-place.is in
    rw (sym (content_is c.args.files.now c.args.name.now c.index-files-place.result bytes h told)) (rw (sym c.bytes.ensures) c.copy_from.ensures.count)

pub returns-in-None-clause-found : goal.returns-in-None-clause-found
returns-in-None-clause-found c =
    let h = file_in-none c.args.files.now c.args.name.now (sym c.in-None.ensures) in rw h refl
