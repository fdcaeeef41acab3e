use Rattle.std.proofs.Common.{append_assoc}
use Rattle.sd_run.proofs.report.push_summary.Goals as goal

pub returns : goal.returns
returns c = rw (c.in_ok-extend_from_slice.ensures.items, c.in_ok-push_count-6.ensures, c.in_ok-push_count-5.ensures, c.in_ok-push_count-4.ensures, c.in_ok-push_count-3.ensures, c.in_ok-push_count-2.ensures, c.in_ok-push_count.ensures, c.count_safe.ensures, c.count_unknown.ensures, c.count_refused.ensures) (simp append_assoc)
