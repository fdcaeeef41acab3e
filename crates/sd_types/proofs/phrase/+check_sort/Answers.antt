use Rattle.sd_base.proofs.SortLemmas.{map_is}
use Rattle.sd_types.proofs.AnswerLemmas.{goes_on, next}
use Rattle.sd_types.proofs.phrase.+check_sort.Goals as goal

pub returns-in_err-check_sort-in-Map : goal.returns-in_err-check_sort-in-Map
returns-in_err-check_sort-in-Map t c =
    rw (c.in-Map.is, map_is) (goes_on _ (rw c.get.ensures at c.in_err-check_sort-in-Map.ensures) c.from_residual.ensures.1)

pub returns-in_err-check_sort-in-Map-2 : goal.returns-in_err-check_sort-in-Map-2
returns-in_err-check_sort-in-Map-2 t c =
    rw (c.in-Map.is, map_is) (next _ (rw c.get.ensures at c.in_ok-check_sort-in-Map.ensures)
    (goes_on _ (rw c.get-in-Map.ensures at c.in_err-check_sort-in-Map-2.ensures) c.from_residual-in_err-check_sort-in-Map-2.ensures.1))

pub returns-in_ok-check_sort-in-Map-2 : goal.returns-in_ok-check_sort-in-Map-2
returns-in_ok-check_sort-in-Map-2 t c =
    rw (c.in-Map.is, map_is) (next _ (rw c.get.ensures at c.in_ok-check_sort-in-Map.ensures)
    (next _ (rw c.get-in-Map.ensures at c.in_ok-check_sort-in-Map-2.ensures) (rw c.get-in-Map-2.ensures at c.check_index.ensures)))
