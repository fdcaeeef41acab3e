use Rattle.std.proofs.Common.{ap}
use Rattle.std.proofs.Common.{Ok}
use Rattle.sd_base.proofs.SortLemmas.{map_is}
use Rattle.sd_types.proofs.AnswerLemmas.{is_stopped, is_next}
use Rattle.sd_types.proofs.phrase.select.Goals as goal

pub returns-in_err-expect_sort-in-Map : goal.returns-in_err-expect_sort-in-Map
returns-in_err-expect_sort-in-Map c =
    rw (c.in-Map.is, map_is) (is_stopped _ (rw c.get.ensures at c.in_err-expect_sort-in-Map.ensures) c.from_residual.ensures.1)

pub returns-in-Map : goal.returns-in-Map
returns-in-Map c =
    rw (c.in-Map.is, map_is) (is_next _ (rw c.get.ensures at c.in_ok-expect_sort-in-Map.ensures) (ap Ok c.into_inner.ensures))
