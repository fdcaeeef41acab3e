use Rattle.sd_types.proofs.GivenLemmas.{fits, fits_not}
use Rattle.sd_types.proofs.phrase.expect_sort.Goals as goal

pub returns-then-is_same_sort : goal.returns-then-is_same_sort
returns-then-is_same_sort c = fits _ _ _ _ c.is_same_sort.ensures c.if-is_same_sort.true

pub returns-else-is_same_sort : goal.returns-else-is_same_sort
returns-else-is_same_sort c = fits_not _ _ _ _ c.is_same_sort.ensures c.if-is_same_sort.false
