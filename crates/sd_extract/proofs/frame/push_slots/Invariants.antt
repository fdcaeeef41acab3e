use Rattle.std.proofs.Common.{◌≡◌, ◌+◌, ◌++◌}
use Rattle.sd_extract.specs.Scopes.{slots_upto}
use Rattle.sd_extract.proofs.frame.push_slots.Given as goal

abbrev pub invariant-slots : goal.invariant-slots
invariant-slots l = record {
  spots : l.spots ++ slots_upto l.next l.left ≡ l.initial.spots ++ slots_upto l.first l.count;
  next : l.next + l.left ≡ l.first + l.count;
}

abbrev pub decreases-slots : goal.decreases-slots
decreases-slots l = l.left
