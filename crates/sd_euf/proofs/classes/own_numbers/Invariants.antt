use Rattle.std.proofs.Common.{◌≡◌, ℕ, ◌<◌, length}
use Rattle.sd_euf.specs.Links.{class_at}
use Rattle.sd_euf.proofs.classes.own_numbers.Given as goal

abbrev pub invariant-loop-i : goal.invariant-loop-i
invariant-loop-i l = record { long : length l.classes ≡ l.i; own : (k : ℕ) → k < l.i → class_at l.classes k ≡ k }
