use Rattle.std.proofs.Common.{◌≡◌, ℕ, ◌<◌, ◌≤◌, false}
use Rattle.std.specs.Prelude.{Some, slice_get}
use Rattle.sd_rounds.proofs.settle.any_live.Given as goal

abbrev pub invariant-numbers : goal.invariant-numbers
invariant-numbers l = (c : ℕ) → l.first ≤ c → c < l.candidate → slice_get l.table c ≡ Some false
