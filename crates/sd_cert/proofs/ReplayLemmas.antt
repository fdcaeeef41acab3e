-- What a certificate that was read says of the bytes.
use Rattle.std.proofs.Common.{◌≡◌, ◌≢◌, ℕ, Bool, List, sym, ap, ◌∙◌, inl, inr}
use Rattle.std.specs.Prelude.{Some, None, Result, Ok, Err, IfOk, ◌⊎◌}
use Rattle.sd_product.specs.Work.{PairedPrograms}
use Rattle.sd_cert.specs.declared.header.PairHeader.{PairHeader}
use Rattle.sd_cert.specs.declared.digest.Digests.{Digests}
use Rattle.sd_cert.specs.declared.certificate.Certificate.{Certificate}
use Rattle.sd_cert.specs.declared.fault.CertError.{CertError}
use Rattle.sd_cert.specs.declared.fault.CertError.TheVariants.{NoMemory}
use Rattle.sd_cert.specs.declared.line.Line.{Line}
use Rattle.sd_cert.specs.Certificates.{certificate_lines, certificate_text, IsCertificate}
use Rattle.sd_cert.specs.Accepts.{FitsPairs, Accepts}
use Rattle.sd_cert.specs.Refusals.{first_position, first_refusal}
use Rattle.sd_cert.specs.BadSteps.{step_fault}
use Rattle.sd_cert.specs.ReplayFaults.{IsCertificateFault}
use Rattle.sd_cert.specs.Headers.{headers_of}
use Rattle.sd_cert.proofs.OneCertificate.{one_certificate}
use Rattle.sd_cert.proofs.RefusalLemmas.{certificate-fits, certificate-passes}
use Rattle.sd_cert.proofs.TableLemmas.{accepted-passes}

-- ---- what is refused is not accepted

module _ (h : PairedPrograms) (d : Digests) (text : List ℕ) where
  pub check-only : (c : Certificate) (e : CertError) → IsCertificate c → text ≡ certificate_text c → IsCertificateFault h d c e → e ≢ NoMemory → (t : List Bool) → Accepts h d text t → ⊥
  check-only c e f w fault other t a = go fault
    where
      same : a.certificate ≡ c
      same = one_certificate a.certificate c a.form f (sym a.text ∙ w)

      go : IsCertificateFault h d c e → ⊥
      go (inl m) = other m
      go (inr (inl r)) =
          absurd (let k = certificate-passes (headers_of h) d a.certificate a.same_digests a.fits in let j = ap (λ (x : Certificate). first_refusal (headers_of h) d first_position (certificate_lines x)) same in cc)
      go (inr (inr r)) =
          absurd (let k = accepted-passes h d text t a in let j = ap (λ (x : Certificate). step_fault h x.pairs) same in let i = r.2 in cc)

-- ---- results

pub any-ok : {A E P : Type 0} (r : Result A E) → P → IfOk r (λ x. P)
any-ok (Ok x) p = p
any-ok (Err e) p = tt

pub accept-fault : (h : PairedPrograms) (d : Digests) (c : Certificate) (e : CertError) → c.digests ≡ d → FitsPairs (headers_of h) c.pairs → (e ≡ NoMemory) ⊎ (step_fault h c.pairs ≡ Some e) → IsCertificateFault h d c e
accept-fault h d c e same fits (inl m) = inl m
accept-fault h d c e same fits (inr s) = inr (inr (same, fits, s))

pub passes-fits : (h : PairedPrograms) (d : Digests) (c : Certificate) (headers : List PairHeader) (lines : List Line) → headers ≡ headers_of h → lines ≡ certificate_lines c → None ≡ first_refusal headers d first_position lines → (c.digests ≡ d) × FitsPairs (headers_of h) c.pairs
passes-fits h d c headers lines own are none =
    certificate-fits (headers_of h) d c (ap (first_refusal (headers_of h) d first_position) (sym are) ∙ ap (λ (hs : List PairHeader). first_refusal hs d first_position lines) (sym own) ∙ sym none)
