-- The table of a certificate is the one that has just its candidates live.
use Rattle.std.proofs.Common.{◌≡◌, ℕ, zero, suc, ◌<◌, Bool, true, false, List, [], ◌∷◌, length, refl, sym, ap, ◌∙◌, arith, eq-eqb, inl, inr}
use Rattle.std.specs.Prelude.{Some, None, ◌||◌, ◌⊎◌}
use Rattle.std.proofs.lemmas.Bool.{ne_eqb}
use Rattle.sd_product.specs.Work.{PairedPrograms, claims_in, queries_of}
use Rattle.sd_product.specs.Inductive.{proved_of, live_from, IsInductive}
use Rattle.sd_cert.specs.declared.header.PairHeader.{PairHeader}
use Rattle.sd_cert.specs.declared.digest.Digests.{Digests}
use Rattle.sd_cert.specs.declared.certificate.CertPair.{CertPair}
use Rattle.sd_cert.specs.declared.fault.CertError.{CertError}
use Rattle.sd_cert.specs.declared.fault.CertError.TheVariants.{NoMemory}
use Rattle.sd_cert.specs.Accepts.{FitsPairs, proofs_from, Accepts}
use Rattle.sd_cert.specs.BadSteps.{pairs_fault, step_fault}
use Rattle.sd_cert.specs.Headers.{headers_of, count_of}
use Rattle.sd_cert.specs.Tables.{is_listed, table_from, table_of}
use Rattle.sd_cert.proofs.HeaderLemmas.{count-in, count-queries}
use Rattle.sd_cert.proofs.JudgeLemmas.{pairs-exact}

-- ---- numbers of a table

-- a lower number makes no difference to the table from a number on
lower-listed : (k n count : ℕ) (numbers : List ℕ) → k < n → table_from n count (k ∷ numbers) ≡ table_from n count numbers
lower-listed k n zero numbers h = refl
lower-listed k n (suc count) numbers h =
    ap (λ b. (b || is_listed numbers n) ∷ table_from (suc n) count (k ∷ numbers)) (ne_eqb k n (λ e. omega arith))
    ∙ ap (λ bs. is_listed numbers n ∷ bs) (lower-listed k (suc n) count numbers (omega arith))

not-listed : (n m : ℕ) (bs : List Bool) → n < m → is_listed (live_from m bs) n ≡ false
not-listed n m [] h = refl
not-listed n m (true ∷ bs) h = ap (λ b. b || is_listed (live_from (suc m) bs) n) (ne_eqb m n (λ e. omega arith)) ∙ not-listed n (suc m) bs (omega arith)
not-listed n m (false ∷ bs) h = not-listed n (suc m) bs (omega arith)

-- a table is that of its live candidates
live-table : (n : ℕ) (bs : List Bool) → table_from n (length bs) (live_from n bs) ≡ bs
live-table n [] = refl
live-table n (true ∷ bs) =
    ap (λ b. (b || is_listed (live_from (suc n) bs) n) ∷ table_from (suc n) (length bs) (n ∷ live_from (suc n) bs)) (eq-eqb n n refl)
    ∙ ap (λ t. true ∷ t) (lower-listed n (suc n) (length bs) (live_from (suc n) bs) (omega arith) ∙ live-table (suc n) bs)
live-table n (false ∷ bs) =
    ap (λ b. b ∷ table_from (suc n) (length bs) (live_from (suc n) bs)) (not-listed n (suc n) bs (omega arith))
    ∙ ap (λ t. false ∷ t) (live-table (suc n) bs)

pub listed-table : (headers : List PairHeader) (claims : List CertPair) (table : List Bool) → length table ≡ count_of headers → proved_of (proofs_from 0 headers claims) ≡ live_from 0 table → table ≡ table_of headers claims
listed-table headers claims table size live =
    sym (live-table 0 table) ∙ ap (λ n. table_from 0 n (live_from 0 table)) size ∙ ap (table_from 0 (count_of headers)) (sym live)

-- ---- the table under which entries are judged

module _ (h : PairedPrograms) (d : Digests) (text : List ℕ) (table : List Bool) (a : Accepts h d text table) where
  pub accepted-table : table ≡ table_of (headers_of h) a.certificate.pairs
  accepted-table = listed-table (headers_of h) a.certificate.pairs table (a.size ∙ sym (count-in h)) a.inductive.numbers

  -- what is accepted has no bad step
  pub accepted-passes : step_fault h a.certificate.pairs ≡ None
  accepted-passes =
      ap (λ (t : List Bool). pairs_fault (queries_of h t) 0 6 (headers_of h) a.certificate.pairs) (sym accepted-table)
      ∙ (pairs-exact (queries_of h table) 0 6 (headers_of h) a.certificate.pairs (count-queries h table) a.fits).1 a.inductive.proved

module _ (h : PairedPrograms) (claims : List CertPair) (table : List Bool) (size : length table ≡ length (claims_in h)) (live : proved_of (proofs_from 0 (headers_of h) claims) ≡ live_from 0 table) where
  -- entries without a bad step are proofs
  pub passes-inductive : FitsPairs (headers_of h) claims → pairs_fault (queries_of h table) 0 6 (headers_of h) claims ≡ None → IsInductive h table (proofs_from 0 (headers_of h) claims)
  passes-inductive fits none = record { numbers = live; proved = (pairs-exact (queries_of h table) 0 6 (headers_of h) claims (count-queries h table) fits).0 none }

  -- the first bad step under this table is that of the certificate
  pub own-fault : (e : CertError) → (e ≡ NoMemory) ⊎ (pairs_fault (queries_of h table) 0 6 (headers_of h) claims ≡ Some e) → (e ≡ NoMemory) ⊎ (step_fault h claims ≡ Some e)
  own-fault e (inl m) = inl m
  own-fault e (inr f) =
      inr (ap (λ (t : List Bool). pairs_fault (queries_of h t) 0 6 (headers_of h) claims) (sym (listed-table (headers_of h) claims table (size ∙ sym (count-in h)) live)) ∙ f)
