use Rattle.std.proofs.Common.{◌≡◌, ◌++◌, length}
use Rattle.sd_kernel.specs.Proof.{State}
use Rattle.sd_search.specs.Reading.{Reads, others, IsClosing}
use Rattle.sd_search.proofs.leaf.do_all.Given as goal

abbrev pub invariant-closing : goal.invariant-closing
invariant-closing l =
    IsClosing l.initial.walk.0 (others l.initial.walk) l.walk l.closing
    × (l.steps ++ l.closing ≡ l.initial.steps ++ l.initial.closing)
    × ((s : State) → Reads s l.initial.steps l.initial.walk → Reads s l.steps l.walk)

abbrev pub decreases-closing : goal.decreases-closing
decreases-closing l = length l.closing
