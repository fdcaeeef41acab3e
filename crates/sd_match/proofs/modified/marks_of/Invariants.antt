use Rattle.std.proofs.Common.{◌≡◌, ◌<◌, ℕ, false, length, drop, get_or}
use Rattle.std.specs.Prelude.{◌||◌}
use Rattle.sd_match.specs.Pairs.{is_among}
use Rattle.sd_match.proofs.modified.marks_of.Given as goal

abbrev pub invariant-places : goal.invariant-places
invariant-places l = record {
  counted : length l.marks.items ≡ l.count;
  known : (i : ℕ) → i < l.count → (get_or l.marks.items i false || is_among i (drop l.index l.places)) ≡ is_among i l.places;
}
