use Rattle.std.proofs.Common.{◌≡◌, take, false}
use Rattle.sd_term.specs.Bank.{tree_at}
use Rattle.sd_kernel.specs.Known.{has_fact}
use Rattle.sd_kernel.specs.Facts.{trail_of}
use Rattle.sd_kernel.proofs.known.has_value.Given as goal

abbrev pub invariant-loop-i : goal.invariant-loop-i
invariant-loop-i l = has_fact (take l.i (trail_of l.terms l.trail)) (tree_at l.terms l.id) l.value ≡ false
