use Rattle.std.proofs.Common.{◌∙◌, sym, ap}
use Rattle.std.specs.Prelude.{◌&&◌, Some, if◌then◌else◌}
use Rattle.std.specs.Bool.{beq}
use Rattle.sd_base.specs.FirstPlaces.{place_of}
use Rattle.sd_base.specs.Value.{same_text}
use Rattle.sd_match.proofs.KeptLemmas.{put_kept}
use Rattle.sd_match.proofs.refusal.put_function.Goals as goal

pub returns-then-not-is_as : goal.returns-then-not-is_as
returns-then-not-is_as c = λ f. ap (λ b. if b && same_text f c.args.function.now.name then Some c.args.place else place_of c.args.places.now f) (sym (sym c.is_as.ensures ∙ c.if-not-is_as.true))

pub returns : goal.returns
returns c = λ f. put_kept (beq c.args.function.now.constant c.args.constant) c.args.function.now.name f c.args.place (place_of c.args.places.now f) (place_of c.enter.new.self f)
    (sym c.is_as.ensures ∙ c.if-not-is_as.false) (c.in_ok-enter.ensures f)
