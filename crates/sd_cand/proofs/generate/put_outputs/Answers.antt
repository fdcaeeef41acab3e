use Rattle.std.proofs.Common.{◌++◌, ◌∙◌, refl, arith}
use Rattle.sd_term.specs.declared.build.Kind.TheVariants.{Eq}
use Rattle.sd_cand.specs.declared.candidate.Claim.TheVariants.{Output}
use Rattle.sd_cand.specs.Candidates.{output_candidates}
use Rattle.sd_cand.proofs.CandidateLemmas.{one_more}
use Rattle.sd_cand.proofs.generate.put_outputs.Goals as goal

pub outputs-preserved : goal.outputs-preserved
outputs-preserved c = record {
  reached = omega arith;
  left = one_more (output_candidates c.args.when.now) (λ n. record { when = c.args.when.now; claim = Output (record { place = n; kind = Eq }) }) (λ _ _ _. refl) c.args.outputs.now c.outputs.place c.outputs.list c.push.new.self (c.args.list.now ++ output_candidates c.args.when.now 0 c.args.outputs.now) _ (omega arith) c.in_ok-push.ensures.ok
      (λ i. record { when = (c.in_ok-from_slice.ensures ∙ c.as_slice.ensures) i; claim = Output (c.equal_at.ensures i) }) c.outputs.invariant.left;
}
