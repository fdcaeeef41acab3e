use Rattle.std.proofs.Common.{◌≡◌, drop, length}
use Rattle.std.specs.Prelude.{◌↔◌}
use Rattle.sd_core.specs.Formed.{names_of}
use Rattle.sd_core.proofs.same.have_same_names.Given as goal

abbrev pub invariant-loop-x : goal.invariant-loop-x
invariant-loop-x l = (names_of l.a ≡ names_of l.b) ↔ (names_of (drop (length l.yielded) l.a) ≡ names_of (drop (length l.yielded) l.b))
