use Rattle.std.proofs.Common.{◌≡◌, take}
use Rattle.std.specs.Prelude.{map}
use Rattle.sd_core.specs.declared.Spot.TheVariants.{Global}
use Rattle.sd_vcgen.proofs.call.global_spots.Given as goal

abbrev pub invariant-loop-place : goal.invariant-loop-place
invariant-loop-place l = l.spots ≡ map Global (take l.place-index l.places)
