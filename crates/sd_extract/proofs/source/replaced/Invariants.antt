use Rattle.std.proofs.Common.{◌≡◌, ◌-◌, ◌≤◌, length, drop}
use Rattle.sd_core.specs.Store.{set_all}
use Rattle.sd_extract.proofs.source.replaced.Given as goal

abbrev pub invariant-places : goal.invariant-places
invariant-places l = record {
  within : l.next ≤ length l.places;
  list : set_all l.list.items (drop l.next l.places) (drop l.next l.new) ≡ set_all l.spots l.places l.new;
}

abbrev pub decreases-places : goal.decreases-places
decreases-places l = length l.places - l.next
