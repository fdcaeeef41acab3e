use Rattle.std.proofs.Common.{◌≡◌, ◌<◌, ◌+◌, ◌++◌, map, length}
use Rattle.std.specs.List.{AllByRecursion}
use Rattle.sd_cert.specs.Accepts.{entry_from}
use Rattle.sd_cert.proofs.writing.entries_of.Given as goal

-- the entries and the rest are the proofs, and the entries are below the end
abbrev pub invariant-proofs : goal.invariant-proofs
invariant-proofs l = record {
  all : map (entry_from l.first) l.entries ++ l.left ≡ l.initial.proofs;
  below : AllByRecursion (λ e. l.first + e.candidate < l.end) l.entries;
}

abbrev pub decreases-proofs : goal.decreases-proofs
decreases-proofs l = length l.left
