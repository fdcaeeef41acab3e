use Rattle.std.proofs.Common.{◌≡◌, ◌≤◌, ◌<◌, MatchBool, length}
use Rattle.sd_rounds.specs.Sweep.{AreDead, GoesOn, SweepsOn}
use Rattle.sd_rounds.proofs.settle.sweep_pair.Given as goal

abbrev pub invariant-candidates : goal.invariant-candidates
invariant-candidates l = record {
  dead : AreDead l.leaves l.work l.settled.table l.settled.deaths.items;
  sweeps : l.settled.sweeps ≡ l.initial.settled.sweeps;
  grown : length l.initial.settled.deaths.items ≤ length l.settled.deaths.items;
  dropped : MatchBool l.dropped (length l.initial.settled.deaths.items < length l.settled.deaths.items) (GoesOn l.work l.first l.candidate l.initial.settled.table l.settled.table l.initial.settled.deaths.items l.settled.deaths.items l.initial.settled.proofs.items l.settled.proofs.items);
  swept : SweepsOn l.work l.first l.candidate l.initial.settled.table l.settled.table l.initial.settled.deaths.items l.settled.deaths.items;
}
