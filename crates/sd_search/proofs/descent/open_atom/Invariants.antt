use Rattle.std.proofs.Common.{◌≡◌, ◌≢◌, ℕ, ◌<◌, None, true}
use Rattle.sd_term.specs.Bank.{tree_at}
use Rattle.sd_kernel.specs.Known.{known_at}
use Rattle.sd_cube.specs.Atoms.{is_atom}
use Rattle.sd_search.proofs.descent.open_atom.Given as goal

abbrev pub invariant-loop-i : goal.invariant-loop-i
invariant-loop-i l = (n : ℕ) → n < l.i → is_atom (tree_at l.terms n) ≡ true → known_at l.values n ≢ None
