use Rattle.std.proofs.Common.{◌≡◌, map, take}
use Rattle.sd_core.specs.declared.CoreExpr.{At}
use Rattle.sd_core.specs.declared.Spot.TheVariants.{Global}
use Rattle.sd_extract.proofs.procedure.global_reads.Given as goal

abbrev pub invariant-loop-place : goal.invariant-loop-place
invariant-loop-place l = l.es ≡ map (λ i. At (Global i)) (take l.place-index l.places)
