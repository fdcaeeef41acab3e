use Rattle.sd_kernel.proofs.SortTests.{same_sort-test}
use Rattle.sd_kernel.proofs.term.is_one_sort.Goals as goal

pub returns : goal.returns
returns c = same_sort-test c.args.first.now c.args.second.now c.is_same_sort.result c.is_same_sort.ensures
