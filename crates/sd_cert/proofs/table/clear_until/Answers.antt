-- One candidate more is dead.
use Rattle.std.proofs.Common.{◌<◌, ◌+◌, Bool, List, length, sym, ap, ◌∙◌, subst, arith}
use Rattle.std.proofs.Math.ListN.{length-set}
use Rattle.sd_cert.specs.Tables.{IsDecided}
use Rattle.sd_cert.proofs.Listing.{decide-dead}
use Rattle.sd_cert.proofs.table.clear_until.Goals as goal

pub loop-candidate-preserved : goal.loop-candidate-preserved
loop-candidate-preserved c =
    let within : c.loop-candidate.candidate < length c.loop-candidate.table = omega (arith, c.loop-candidate.invariant.0)
    in (
      ap length c.clear.ensures ∙ length-set _ _ _ ∙ c.loop-candidate.invariant.0,
      λ numbers d. subst (λ (t : List Bool). IsDecided t (c.loop-candidate.candidate + 1) numbers) (sym c.clear.ensures)
          (decide-dead c.loop-candidate.table c.loop-candidate.candidate numbers within (c.loop-candidate.invariant.1 numbers d)),
    )
