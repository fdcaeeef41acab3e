use Rattle.std.proofs.Common.{◌∙◌}
use Rattle.sd_run.proofs.Reports.{report_joined}
use Rattle.sd_run.proofs.report.report_of.Goals as goal

pub returns : goal.returns
returns c =
    report_joined _ c.args.old.now c.args.new.now _ _ _ _ _ _ _ _ _ (c.in_ok-olds.ensures ∙ c.as_slice.ensures) (c.in_ok-news.ensures ∙ c.as_slice-2.ensures) c.len.ensures c.len-2.ensures c.new-out.ensures.items c.in_ok-push_verdicts.ensures c.in_ok-push_all_only.ensures c.in_ok-push_all_only-2.ensures c.in_ok-push_summary.ensures
