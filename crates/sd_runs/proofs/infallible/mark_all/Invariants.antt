use Rattle.std.proofs.Common.{◌≡◌, drop}
use Rattle.sd_runs.specs.Marks.{all_marked}
use Rattle.sd_runs.proofs.infallible.mark_all.Given as goal

abbrev pub invariant-loop-at : goal.invariant-loop-at
invariant-loop-at l = all_marked (drop l.at-index l.places) (l.infallible.items, l.waiting.items) ≡ all_marked l.places (l.initial.infallible.items, l.initial.waiting.items)
