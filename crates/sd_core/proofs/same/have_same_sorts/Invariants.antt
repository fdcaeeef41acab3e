use Rattle.std.proofs.Common.{◌≡◌, drop, length}
use Rattle.std.specs.Prelude.{◌↔◌}
use Rattle.sd_core.specs.Formed.{sorts_of}
use Rattle.sd_core.proofs.same.have_same_sorts.Given as goal

abbrev pub invariant-loop-x : goal.invariant-loop-x
invariant-loop-x l = (sorts_of l.a ≡ sorts_of l.b) ↔ (sorts_of (drop (length l.yielded) l.a) ≡ sorts_of (drop (length l.yielded) l.b))
