use Rattle.sd_types.proofs.AnswerLemmas.{gathers-stop}
use Rattle.sd_types.proofs.assigned.sorts_of_lefts.Goals as goal

pub returns-in_err-sort : goal.returns-in_err-sort
returns-in_err-sort c =
    rw (← c.as_slice-left-items.ensures) (gathers-stop _ _ _ c.left-item.result c.loop-left-test.true c.left-item.is _ c.loop-left.invariant c.in_err-sort.ensures c.from_residual.ensures.1)
