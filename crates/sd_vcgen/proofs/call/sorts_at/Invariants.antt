use Rattle.std.proofs.Common.{◌≡◌, take, get_or}
use Rattle.std.specs.Prelude.{map}
use Rattle.sd_base.specs.declared.Sort.{Bool as BoolSort}
use Rattle.sd_vcgen.proofs.call.sorts_at.Given as goal

abbrev pub invariant-loop-place : goal.invariant-loop-place
invariant-loop-place l = l.chosen ≡ map (λ i. get_or l.sorts i BoolSort) (take l.place-index l.places)
