-- The first bad step of a certificate.
use Rattle.std.specs.Prelude.{◌≡◌, ℕ, ◌+◌, List, [], ◌∷◌, length, slice_index_or, Option, Some, None, Result, Ok, Err}
use Rattle.std.specs.Prelude.{◌⊎◌}
use Rattle.std.specs.List.{flat_map}
use Rattle.sd_term.specs.Tree.{Tree}
use Rattle.sd_kernel.specs.Proof.{verdict}
use Rattle.sd_kernel.specs.declared.step.Verdict.{Verdict}
use Rattle.sd_kernel.specs.declared.step.Verdict.TheVariants.{Accepted, Rejected}
use Rattle.sd_kernel.specs.declared.How.{How}
use Rattle.sd_kernel.specs.declared.How.TheVariants.{Steps}
use Rattle.sd_kernel.specs.declared.Proved.{Proved}
use Rattle.sd_product.specs.Work.{PairedPrograms, queries_of}
use Rattle.sd_cert.specs.declared.header.PairHeader.{PairHeader}
use Rattle.sd_cert.specs.declared.certificate.CertPair.{CertPair}
use Rattle.sd_cert.specs.declared.fault.CertError.{CertError}
use Rattle.sd_cert.specs.declared.fault.CertError.TheVariants.{NoMemory, Step as BadStep}
use Rattle.sd_cert.specs.Certificates.{proved_lines}
use Rattle.sd_cert.specs.Refusals.{or_next}
use Rattle.sd_cert.specs.Headers.{headers_of}
use Rattle.sd_cert.specs.Tables.{table_of}

-- what is said of steps from this line on
abbrev pub verdict_fault : ℕ → Verdict → Option CertError
verdict_fault line Accepted = None
verdict_fault line (Rejected n cause) = Some (BadStep (line + n) cause)

abbrev pub how_fault : ℕ → List Tree → How → Option CertError
how_fault line facts (Steps proof) = verdict_fault line (verdict facts proof.steps)

-- the first bad step of an entry whose candidate stands at this line, of a pair whose candidates are numbered from
-- `first` on
abbrev pub entry_fault : List (List Tree) → (first line : ℕ) → Proved → Option CertError
entry_fault queries first line p = how_fault (line + 1) (slice_index_or queries (first + p.candidate) []) p.how

-- the first bad step of the entries of such a pair from this line on
abbrev pub entries_fault : List (List Tree) → (first line : ℕ) → List Proved → Option CertError
entries_fault queries first line [] = None
entries_fault queries first line (p ∷ ps) =
    or_next (entry_fault queries first line p) (entries_fault queries first (line + length (proved_lines p)) ps)

-- the first bad step of the pairs from this line on, whose candidates are numbered from `first` on
abbrev pub pairs_fault : List (List Tree) → (first line : ℕ) → List PairHeader → List CertPair → Option CertError
pairs_fault queries first line (s ∷ ss) (p ∷ ps) =
    or_next (entries_fault queries first (line + 1) p.proved)
    (pairs_fault queries (first + s.candidates) (line + 1 + length (flat_map proved_lines p.proved)) ss ps)
pairs_fault queries first line _ _ = None

-- The first bad step of a certificate with these pairs, under its own table. The first pair stands at line 6.
abbrev pub step_fault : PairedPrograms → List CertPair → Option CertError
step_fault work pairs = pairs_fault (queries_of work (table_of (headers_of work) pairs)) 0 6 (headers_of work) pairs

-- the result names the fault, if there is one, but for out of memory
abbrev pub HasFault : {A : Type 0} → Option CertError → Result A CertError → Type 0
HasFault fault (Ok x) = fault ≡ None
HasFault fault (Err e) = (e ≡ NoMemory) ⊎ (fault ≡ Some e)
