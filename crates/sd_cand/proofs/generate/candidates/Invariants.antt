use Rattle.std.proofs.Common.{◌≡◌, ◌≤◌, length, take}
use Rattle.sd_cand.specs.Candidates.{all_candidates}
use Rattle.sd_cand.proofs.generate.candidates.Given as goal

abbrev pub invariant-pairs : goal.invariant-pairs
invariant-pairs l = record {
  reached : l.i ≤ length l.pairs;
  made : l.all.items ≡ all_candidates (take l.i l.pairs);
}
