-- Where no line is refused the certificate fits.
use Rattle.std.proofs.Common.{◌≡◌, List, ap, sym, ◌∙◌, inl, inr}
use Rattle.std.specs.Prelude.{Some, ◌⊎◌}
use Rattle.std.proofs.lemmas.Result.{IfErr-weaker}
use Rattle.sd_cert.specs.declared.header.PairHeader.{PairHeader}
use Rattle.sd_cert.specs.declared.fault.CertError.TheVariants.{NoMemory}
use Rattle.sd_cert.specs.BadSteps.{step_fault}
use Rattle.sd_cert.specs.Certificates.{certificate_lines}
use Rattle.sd_cert.specs.Refusals.{first_position, first_refusal}
use Rattle.sd_cert.specs.ReplayFaults.{IsCertificateFault}
use Rattle.sd_cert.proofs.ReplayLemmas.{any-ok, accept-fault, passes-fits}
use Rattle.sd_cert.proofs.replaying.check.Goals as goal

pub returns-in-Some-clause-fault : goal.returns-in-Some-clause-fault
returns-in-Some-clause-fault c =
    inr
    (inl
    (ap (λ (ss : List PairHeader). first_refusal ss c.args.digests.now first_position (certificate_lines c.args.certificate.now)) (sym c.requires.headers)
    ∙ ap (first_refusal c.args.headers.now c.args.digests.now first_position) (sym c.requires.lines) ∙ sym c.in-Some.ensures))

pub accept-requires : goal.accept-requires
accept-requires c = (passes-fits c.args.work.now c.args.digests.now c.args.certificate.now c.args.headers.now c.args.lines.now c.requires.headers c.requires.lines c.in-None.ensures).1

pub returns-in-None-clause-digests : goal.returns-in-None-clause-digests
returns-in-None-clause-digests c =
    any-ok c.accept.result (passes-fits c.args.work.now c.args.digests.now c.args.certificate.now c.args.headers.now c.args.lines.now c.requires.headers c.requires.lines c.in-None.ensures).0

pub returns-in-None-clause-fits : goal.returns-in-None-clause-fits
returns-in-None-clause-fits c =
    any-ok c.accept.result (passes-fits c.args.work.now c.args.digests.now c.args.certificate.now c.args.headers.now c.args.lines.now c.requires.headers c.requires.lines c.in-None.ensures).1

pub returns-in-None-clause-fault : goal.returns-in-None-clause-fault
returns-in-None-clause-fault c =
    let fits = passes-fits c.args.work.now c.args.digests.now c.args.certificate.now c.args.headers.now c.args.lines.now c.requires.headers c.requires.lines c.in-None.ensures in
    IfErr-weaker c.accept.result (λ e. (e ≡ NoMemory) ⊎ (step_fault c.args.work.now c.args.certificate.now.pairs ≡ Some e)) (IsCertificateFault c.args.work.now c.args.digests.now c.args.certificate.now)
    (λ e h. accept-fault c.args.work.now c.args.digests.now c.args.certificate.now e fits.0 fits.1 h) c.accept.ensures.fault
