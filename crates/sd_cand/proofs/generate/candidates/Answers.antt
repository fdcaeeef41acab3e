use Rattle.std.proofs.Common.{arith}
use Rattle.sd_cand.specs.Candidates.{candidates_of}
use Rattle.sd_cand.proofs.CandidateLemmas.{front_more}
use Rattle.sd_cand.proofs.generate.candidates.Goals as goal

pub pairs-preserved : goal.pairs-preserved
pairs-preserved c = record {
  reached = omega arith;
  made = front_more candidates_of c.args.pairs.now c.pairs.i c.pair.result.now c.pairs.all.items c.push.new.self.items c.in_ok-candidates_of.field-0 (omega arith) c.pair.ensures c.in_ok-push.ensures.items c.in_ok-candidates_of.ensures c.pairs.invariant.made;
}
