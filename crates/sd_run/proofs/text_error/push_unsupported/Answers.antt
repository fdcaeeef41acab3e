use Rattle.std.proofs.Common.{append_assoc}
use Rattle.sd_run.proofs.text_error.push_unsupported.Goals as goal

pub returns : goal.returns
returns c = rw (c.in_ok-push_number.ensures, c.in_ok-push-2.ensures, c.in_ok-push.ensures, c.as_bytes.ensures) (simp append_assoc)
