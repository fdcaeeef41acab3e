use Rattle.std.proofs.Common.{length}
use Rattle.sd_rounds.specs.Table.{live_from}
use Rattle.sd_rounds.specs.Settled.{AreSweeps}
use Rattle.sd_rounds.specs.Sweep.{AreDead, HaveLed}
use Rattle.sd_rounds.proofs.settle.settle_one.Given as goal

abbrev pub invariant-sweeps : goal.invariant-sweeps
invariant-sweeps l = record {
  dead : AreDead l.leaves l.work l.settled.table l.settled.deaths.items;
  sweeps : AreSweeps l.settled.sweeps (length l.settled.deaths.items);
  led : HaveLed l.work l.settled.sweeps l.settled.deaths.items l.settled.table;
}

abbrev pub decreases-sweeps : goal.decreases-sweeps
decreases-sweeps l = length (live_from 0 l.settled.table)
