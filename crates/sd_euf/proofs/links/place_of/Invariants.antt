use Rattle.std.proofs.Common.{◌≡◌, ℕ, ◌<◌}
use Rattle.sd_term.specs.Bank.{tree_at}
use Rattle.sd_euf.specs.Links.{reached_at}
use Rattle.sd_euf.proofs.links.place_of.Given as goal

abbrev pub invariant-loop-i : goal.invariant-loop-i
invariant-loop-i l = (k : ℕ) → k < l.i → reached_at l.terms l.links k ≡ tree_at l.terms l.term → ⊥
