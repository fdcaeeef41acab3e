use Rattle.std.proofs.Common.{◌∙◌, sym}
use Rattle.std.specs.HashMap.{get}
use Rattle.sd_base.specs.Value.{same_text}
use Rattle.sd_extract.proofs.CodeNumbers.{put_found, put_new}
use Rattle.sd_extract.proofs.numbering.put_first.Goals as goal

pub returns-in-Some : goal.returns-in-Some
returns-in-Some c f =
    put_found (get same_text c.args.numbers.now) c.args.name.now f c.args.number c.in-Some.field-0 (sym c.get.ensures.value ∙ (sym c.copied.ensures ∙ c.in-Some.is))

pub returns-in_ok-insert-in-None : goal.returns-in_ok-insert-in-None
returns-in_ok-insert-in-None c f =
    put_new (get same_text c.args.numbers.now) c.args.name.now c.in_ok-clone_of-in-None.field-0 f c.args.number (get same_text c.insert.new.self f) (sym c.get.ensures.value ∙ (sym c.copied.ensures ∙ c.in-None.is)) c.in_ok-clone_of-in-None.ensures
    (c.in_ok-insert-in-None.ensures.updates.0 f)
