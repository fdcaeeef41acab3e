-- Which bytes are accepted as a certificate of two programs, and with which table.
use Rattle.std.specs.Prelude.{◌≡◌, ℕ, ◌+◌, ◌<◌, ◌≤◌, Bool, List, [], ◌∷◌, ◌++◌, map, length}
use Rattle.sd_kernel.specs.declared.Proved.{Proved}
use Rattle.sd_product.specs.Work.{PairedPrograms, claims_in}
use Rattle.sd_product.specs.Inductive.{proved_of, IsInductive}
use Rattle.sd_cert.specs.declared.digest.Digests.{Digests}
use Rattle.sd_cert.specs.declared.certificate.CertPair.{CertPair}
use Rattle.sd_cert.specs.declared.certificate.Certificate.{Certificate}
use Rattle.sd_cert.specs.declared.header.PairHeader.{PairHeader}
use Rattle.sd_cert.specs.Certificates.{certificate_text, IsCertificate}
use Rattle.sd_cert.specs.Headers.{headers_of}

-- the numbers ascend, from a least one on, and stay below a bound
abbrev pub Ascend : ℕ → ℕ → List ℕ → Type 0
Ascend least bound [] = Unit {0}
Ascend least bound (k ∷ ks) = (least ≤ k) × (k < bound) × Ascend (k + 1) bound ks

-- what a certificate says of a pair has the pair's state, and candidates that the pair has
pub record FitsPair (s : PairHeader) (p : CertPair) : Type 0 where
  pub state : p.state ≡ s.state
  pub numbers : Ascend 0 s.candidates (proved_of p.proved)

abbrev pub FitsPairs : List PairHeader → List CertPair → Type 0
FitsPairs [] [] = Unit {0}
FitsPairs (s ∷ ss) (p ∷ ps) = FitsPair s p × FitsPairs ss ps
FitsPairs _ _ = ⊥

-- an entry of a pair, whose candidates are numbered from this number on
abbrev pub entry_from : ℕ → Proved → Proved
entry_from n p = record p { candidate = n + p.candidate }

-- the entries of all pairs, whose candidates are numbered through from this number on
abbrev pub proofs_from : ℕ → List PairHeader → List CertPair → List Proved
proofs_from n (s ∷ ss) (p ∷ ps) = map (entry_from n) p.proved ++ proofs_from (n + s.candidates) ss ps
proofs_from n _ _ = []

-- The bytes spell a certificate with these digests and the pair lines of these programs, whose entries are proofs of
-- the live candidates of the table, under the table itself.
pub record Accepts (work : PairedPrograms) (digests : Digests) (bytes : List ℕ) (table : List Bool) : Type 0 where
  pub certificate : Certificate
  pub form : IsCertificate certificate
  pub text : bytes ≡ certificate_text certificate
  pub same_digests : certificate.digests ≡ digests
  pub fits : FitsPairs (headers_of work) certificate.pairs
  pub size : length table ≡ length (claims_in work)
  pub inductive : IsInductive work table (proofs_from 0 (headers_of work) certificate.pairs)
