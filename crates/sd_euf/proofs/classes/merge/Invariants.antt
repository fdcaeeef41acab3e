use Rattle.std.proofs.Common.{◌≡◌, ℕ, ◌<◌, ◌≤◌, length}
use Rattle.sd_euf.specs.Links.{class_at, moved}
use Rattle.sd_euf.proofs.classes.merge.Given as goal

abbrev pub invariant-loop-i : goal.invariant-loop-i
invariant-loop-i l =
    record {
      long : length l.classes ≡ length l.initial.classes;
      done : (k : ℕ) → k < l.i → class_at l.classes k ≡ moved l.from l.to (class_at l.initial.classes k);
      left : (k : ℕ) → l.i ≤ k → class_at l.classes k ≡ class_at l.initial.classes k;
    }
