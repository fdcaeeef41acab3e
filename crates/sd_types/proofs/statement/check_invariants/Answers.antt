use Rattle.sd_types.proofs.AnswerLemmas.{walks-stop}
use Rattle.sd_types.proofs.statement.check_invariants.Goals as goal

pub returns-in_err-expect_truth : goal.returns-in_err-expect_truth
returns-in_err-expect_truth c =
    rw (← c.as_slice-invariant-items.ensures) (walks-stop _ _ _ c.invariant-item.result c.loop-invariant-test.true c.invariant-item.is c.loop-invariant.invariant c.in_err-expect_truth.ensures c.from_residual.ensures.1)
