-- Tables of live candidates.
use Rattle.std.specs.Prelude.{◌≡◌, ℕ, zero, suc, ◌==◌, ◌≤◌, true, Bool, List, [], ◌∷◌, take, slice_index_or}
use Rattle.std.specs.List.{list_any}
use Rattle.sd_product.specs.Inductive.{live_from, proved_of}
use Rattle.sd_cert.specs.declared.header.PairHeader.{PairHeader}
use Rattle.sd_cert.specs.declared.certificate.CertPair.{CertPair}
use Rattle.sd_cert.specs.Accepts.{proofs_from}
use Rattle.sd_cert.specs.Headers.{count_of}

-- ---- the table of a certificate

abbrev pub is_listed : List ℕ → ℕ → Bool
is_listed numbers n = list_any (λ k. k == n) numbers

-- the table from this number on, of so many candidates, in which just the listed ones are live
abbrev pub table_from : ℕ → ℕ → List ℕ → List Bool
table_from n zero numbers = []
table_from n (suc count) numbers = is_listed numbers n ∷ table_from (suc n) count numbers

-- the table of pairs with these headers, in which just the candidates of the entries are live
abbrev pub table_of : List PairHeader → List CertPair → List Bool
table_of headers pairs = table_from 0 (count_of headers) (proved_of (proofs_from 0 headers pairs))

-- ---- a table that is made in ascending order

-- Below the number just these candidates are live, and from there on all are.
pub record IsDecided (table : List Bool) (n : ℕ) (numbers : List ℕ) : Type 0 where
  pub below : live_from 0 (take n table) ≡ numbers
  pub above : (k : ℕ) → n ≤ k → slice_index_or table k true ≡ true
