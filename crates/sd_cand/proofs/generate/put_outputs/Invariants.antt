use Rattle.std.proofs.Common.{◌≡◌, ◌++◌, ◌≤◌, length, drop}
use Rattle.sd_cand.specs.Candidates.{output_candidates}
use Rattle.sd_cand.proofs.generate.put_outputs.Given as goal

abbrev pub invariant-outputs : goal.invariant-outputs
invariant-outputs l = record {
  reached : l.place ≤ length l.outputs;
  left : l.list ++ output_candidates l.when l.place (drop l.place l.outputs) ≡ l.initial.list ++ output_candidates l.when 0 l.outputs;
}
