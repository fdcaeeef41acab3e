use Rattle.std.proofs.Common.{refl}
use Rattle.sd_run.proofs.Texts.{accepted_is, accepted_same, refusal_whole, fault_refused}
use Rattle.sd_run.proofs.text.read_text.Goals as goal

pub returns-clause-content : goal.returns-clause-content
returns-clause-content g c bytes known =
    accepted_is 16777216 bytes c.in-Ok.bytes.items c.as_slice.result.now refl (c.in-Ok.ensures.front bytes known) c.as_slice.ensures.value c.in-Ok-accept.program c.in-Ok-accept.ensures.accepted

pub returns-clause-accepted : goal.returns-clause-accepted
returns-clause-accepted g c =
    accepted_same c.in-Ok.bytes.items c.as_slice.result.now c.in-Ok-accept.program c.as_slice.ensures.value c.in-Ok-accept.ensures.accepted

pub returns-in-Err-clause-refused : goal.returns-in-Err-clause-refused
returns-in-Err-clause-refused g c r is bytes known =
    refusal_whole 16777216 bytes c.in-Ok.bytes.items c.as_slice.result.now refl (c.in-Ok.ensures.front bytes known) c.as_slice.ensures.value r (fault_refused c.as_slice.result.now c.in-Err.fault r is c.in-Err.ensures.refused)
