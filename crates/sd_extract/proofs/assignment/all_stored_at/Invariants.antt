use Rattle.std.proofs.Common.{◌≡◌, ◌-◌, ◌++◌, ◌≤◌, length, drop}
use Rattle.sd_extract.specs.Extract.{all_stored}
use Rattle.sd_extract.specs.Scopes.{names_in}
use Rattle.sd_extract.proofs.assignment.all_stored_at.Given as goal

abbrev pub invariant-sides : goal.invariant-sides
invariant-sides l = record {
  within : l.place ≤ length l.lefts;
  list : l.list ++ all_stored (names_in l.scope) (drop l.place l.lefts) (drop l.place l.rights) ≡ all_stored (names_in l.scope) l.lefts l.rights;
}

abbrev pub decreases-sides : goal.decreases-sides
decreases-sides l = length l.lefts - l.place
