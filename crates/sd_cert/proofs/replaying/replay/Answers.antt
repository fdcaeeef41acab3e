-- What was read and checked is accepted, and what is refused is not.
use Rattle.std.proofs.Common.{◌≡◌, ◌≢◌, Bool, List, ◌∙◌, sym, ap, subst}
use Rattle.std.proofs.lemmas.Result.{IfErr-weaker}
use Rattle.sd_cert.specs.declared.header.PairHeader.{PairHeader}
use Rattle.sd_cert.specs.declared.fault.CertError.{CertError}
use Rattle.sd_cert.specs.declared.fault.CertError.TheVariants.{NoMemory}
use Rattle.sd_cert.specs.Accepts.{Accepts}
use Rattle.sd_cert.specs.Headers.{headers_of}
use Rattle.sd_cert.specs.Refusals.{first_fault}
use Rattle.sd_cert.specs.ReplayFaults.{IsCertificateFault, IsReplayFault}
use Rattle.sd_cert.proofs.AcceptLemmas.{no_fault, read-of, read-fault}
use Rattle.sd_cert.proofs.ReplayLemmas.{check-only}
use Rattle.sd_cert.proofs.ReplayFaultLemmas.{certificate-fault, reading-fault}
use Rattle.sd_cert.proofs.replaying.replay.Goals as goal

pub returns-in-Ok-clause-refused_only : goal.returns-in-Ok-clause-refused_only
returns-in-Ok-clause-refused_only c =
    let text = c.args.certificate.now in
    let read = read-of text c.in_ok-lines.lines c.as_slice-lines.result.now c.in_ok-lines.rest.now c.in-Ok.read c.in_ok-lines.ensures c.as_slice-lines.ensures c.in-Ok.ensures.found in
    IfErr-weaker c.check.result (IsCertificateFault c.args.work.now c.args.digests.now c.in-Ok.read)
    (λ e. e ≢ NoMemory → (t : List Bool) → Accepts c.args.work.now c.args.digests.now text t → ⊥)
    (λ e h. check-only c.args.work.now c.args.digests.now text c.in-Ok.read e read.0 read.1 h)
    c.check.ensures.fault

pub returns-in-Ok-clause-refused : goal.returns-in-Ok-clause-refused
returns-in-Ok-clause-refused c =
    let text = c.args.certificate.now in
    let read = read-of text c.in_ok-lines.lines c.as_slice-lines.result.now c.in_ok-lines.rest.now c.in-Ok.read c.in_ok-lines.ensures c.as_slice-lines.ensures c.in-Ok.ensures.found in
    IfErr-weaker c.check.result (IsCertificateFault c.args.work.now c.args.digests.now c.in-Ok.read) (IsReplayFault c.args.work.now c.args.digests.now text)
    (λ e h. certificate-fault c.args.work.now c.args.digests.now text c.in-Ok.read e read.0 read.1 h)
    c.check.ensures.fault

pub returns-clause-refused_only : goal.returns-clause-refused_only
returns-clause-refused_only c = λ other t a.
    let text = c.args.certificate.now in
    let fault = read-fault text c.in_ok-lines.lines c.as_slice-lines.result.now c.in_ok-lines.rest.now c.in-Err.fault c.in_ok-lines.ensures c.as_slice-lines.ensures c.in-Err.ensures.fault in
    let memory = no_fault text a.certificate c.in-Err.fault a.form a.text fault in
    other (c.first_fault.ensures ∙ ap (first_fault c.as_slice-headers.result.now c.args.digests.now c.as_slice-lines.result.now) memory)

pub returns-clause-refused : goal.returns-clause-refused
returns-clause-refused c =
    let text = c.args.certificate.now in
    let own : c.as_slice-headers.result.now ≡ headers_of c.args.work.now = c.as_slice-headers.ensures.value ∙ c.in_ok-headers.ensures.headers in
    let same =
    c.first_fault.ensures ∙ ap (λ (ss : List PairHeader). first_fault ss c.args.digests.now c.as_slice-lines.result.now c.in-Err.fault) own
    ∙ ap (λ ls. first_fault (headers_of c.args.work.now) c.args.digests.now ls c.in-Err.fault) c.as_slice-lines.ensures in
    let fault = read-fault text c.in_ok-lines.lines c.as_slice-lines.result.now c.in_ok-lines.rest.now c.in-Err.fault c.in_ok-lines.ensures c.as_slice-lines.ensures c.in-Err.ensures.fault in
    subst (λ (e : CertError). IsReplayFault c.args.work.now c.args.digests.now text e) (sym same)
    (reading-fault c.args.work.now c.args.digests.now text c.in_ok-lines.lines c.in_ok-lines.rest.now c.in_ok-lines.ensures c.in-Err.fault fault)
