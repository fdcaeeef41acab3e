use Rattle.std.proofs.Common.{◌≡◌, ◌<◌, ℕ}
use Rattle.std.specs.Prelude.{Some, slice_get}
use Rattle.sd_base.specs.declared.Var.{Var}
use Rattle.sd_core.specs.Formed.{names_of}
use Rattle.sd_base.specs.Names.{place_from}
use Rattle.sd_match.proofs.spots.are_distinct.Given as goal

abbrev pub invariant-vars : goal.invariant-vars
invariant-vars l = (k : ℕ) (x : Var) → k < l.place → slice_get l.vars k ≡ Some x → place_from 0 (names_of l.vars) x.name ≡ Some k
