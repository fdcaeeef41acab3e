-- The certificate of live candidates and their proofs.
use Rattle.std.specs.Prelude.{◌≡◌, ℕ, Bool, List, length}
use Rattle.sd_kernel.specs.declared.Proved.{Proved}
use Rattle.sd_cert.specs.declared.header.PairHeader.{PairHeader}
use Rattle.sd_cert.specs.declared.digest.Digests.{Digests}
use Rattle.sd_cert.specs.declared.certificate.Certificate.{Certificate}
use Rattle.sd_product.specs.Work.{PairedPrograms, claims_in}
use Rattle.sd_product.specs.Inductive.{IsInductive}
use Rattle.sd_cert.specs.Accepts.{FitsPairs, proofs_from, Accepts}
use Rattle.sd_cert.specs.Certificates.{certificate_text, IsCertificate}
use Rattle.sd_cert.specs.Headers.{headers_of}

-- The certificate has these digests and the pair lines of pairs with these headers, and its entries are these proofs.
pub record IsCertificateOf (headers : List PairHeader) (digests : Digests) (proofs : List Proved) (c : Certificate)
    : Type 0 where
  pub same_digests : c.digests ≡ digests
  pub fits : FitsPairs headers c.pairs
  pub entries : proofs_from 0 headers c.pairs ≡ proofs

-- the bytes are the text of that of two programs
pub record IsWritten (work : PairedPrograms) (digests : Digests) (proofs : List Proved) (bytes : List ℕ) : Type 0 where
  pub certificate : Certificate
  pub form : IsCertificate certificate
  pub text : bytes ≡ certificate_text certificate
  pub «of» : IsCertificateOf (headers_of work) digests proofs certificate

-- The bytes that are written of the proofs of a table are accepted with this table.
abbrev pub WrittenIsAccepted : Type 0
WrittenIsAccepted =
    (work : PairedPrograms) (digests : Digests) (proofs : List Proved) (bytes : List ℕ) (table : List Bool) →
    IsWritten work digests proofs bytes → length table ≡ length (claims_in work) →
    IsInductive work table proofs → Accepts work digests bytes table
