use Rattle.std.proofs.Common.{◌∙◌, ap, get_or, arith}
use Rattle.std.specs.Prelude.{None, ◌==◌, if◌then◌else◌}
use Rattle.std.specs.List.{filter}
use Rattle.sd_runs.specs.Calls.{callees_of}
use Rattle.sd_match.specs.Pairs.{least}
use Rattle.sd_match.specs.Tables.{calls_lacking, lacks, lower}
use Rattle.sd_match.proofs.LeastLemmas.{lacking-step}
use Rattle.sd_match.proofs.unmatched.first_lacking.Goals as goal

pub procs-preserved : goal.procs-preserved
procs-preserved c = record {
  count = omega arith;
  known = λ i within.
      let old = get_or c.procs.entries.items i None in
      lacking-step c.args.partners.now c.args.procs.now i c.procs.place c.index-procs-place.result old (get_or c.put_lower.new.entries.items i None) c.in_ok-callee.callee (least (calls_lacking c.args.partners.now i 0 c.args.procs.now)) c.procs-test.true c.index-procs-place.is
      (c.in_ok-callee.ensures ∙ ap (λ b. least (filter (lacks c.args.partners.now) (callees_of b))) c.as_slice.ensures)
      (c.put_lower.ensures.entries i (omega arith) ∙ ap (λ o. if o == i then lower old c.in_ok-callee.callee else old) c.owner.ensures)
      (c.procs.invariant.known i within);
}
