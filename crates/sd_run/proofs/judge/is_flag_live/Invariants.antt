use Rattle.std.proofs.Common.{◌≡◌, ◌+◌, ◌≤◌, length, drop}
use Rattle.sd_run.specs.Verdicts.{flag_live}
use Rattle.sd_run.proofs.judge.is_flag_live.Given as goal

abbrev pub invariant-loop-candidate : goal.invariant-loop-candidate
invariant-loop-candidate l = record {
  within : l.number + length (drop l.candidate-index l.candidates) ≤ length l.table;
  left : flag_live l.candidates (drop l.first l.table) ≡ flag_live (drop l.candidate-index l.candidates) (drop l.number l.table);
}
