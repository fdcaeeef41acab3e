use Rattle.std.proofs.Common.{◌≡◌, ℕ, ◌<◌, None, true}
use Rattle.sd_term.specs.Bank.{tree_at}
use Rattle.sd_forms.specs.FactRows.{is_comparison}
use Rattle.sd_kernel.specs.Known.{known_at}
use Rattle.sd_arith.proofs.rows.compares.Given as goal

abbrev pub invariant-loop-n : goal.invariant-loop-n
invariant-loop-n l = (n : ℕ) → n < l.n → is_comparison (tree_at l.terms n) ≡ true → known_at l.values n ≡ None
