use Rattle.std.proofs.Common.{◌≡◌, ◌≤◌, ◌<◌, MatchBool, false, length}
use Rattle.sd_product.specs.Bodies.{count_before}
use Rattle.sd_rounds.specs.Sweep.{AreDead, AreProvedBelow, SweepsOn}
use Rattle.sd_rounds.proofs.settle.sweep.Given as goal

abbrev pub invariant-each : goal.invariant-each
invariant-each l = record {
  dead : AreDead l.leaves l.work l.settled.table l.settled.deaths.items;
  sweeps : l.settled.sweeps ≡ l.initial.settled.sweeps;
  grown : length l.initial.settled.deaths.items ≤ length l.settled.deaths.items;
  still : l.dropped ≡ false → length l.settled.deaths.items ≡ length l.initial.settled.deaths.items;
  dropped : MatchBool l.dropped (length l.initial.settled.deaths.items < length l.settled.deaths.items) (AreProvedBelow l.work (count_before l.work l.pair) l.settled.table l.settled.proofs.items);
  swept : SweepsOn l.work 0 (count_before l.work l.pair) l.initial.settled.table l.settled.table l.initial.settled.deaths.items l.settled.deaths.items;
}
