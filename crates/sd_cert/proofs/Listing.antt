-- A table that is decided number by number lists the entries.
use Rattle.std.proofs.Common.{◌≡◌, ℕ, zero, suc, ◌+◌, ◌-◌, ◌<◌, ◌≤◌, Bool, true, false, List, [], ◌∷◌, ◌++◌, map, length, get_or, set, take, drop, refl, sym, ap, ◌∙◌, subst, arith, append_assoc, inl, inr}
use Rattle.sd_product.proofs.JudgedLemmas.{live_from-true, live_from-false}
use Rattle.std.specs.Prelude.{Option, Some, None, ◌⊎◌}
use Rattle.std.specs.List.{AllByRecursion, flat_map}
use Rattle.std.proofs.lemmas.List.{map-append, append-nil, length-map, take_more, take_more_set, drop_more, take_all, drop_all, get_or-set_other, length-take-le}
use Rattle.sd_base.proofs.Lists.{drop-at, take-at}
use Rattle.sd_term.specs.Tree.{Tree}
use Rattle.sd_kernel.specs.declared.Proved.{Proved}
use Rattle.sd_cert.specs.declared.header.PairHeader.{PairHeader}
use Rattle.sd_product.specs.Bodies.{count_before}
use Rattle.sd_product.specs.Inductive.{proved_of, live_from}
use Rattle.sd_product.specs.Work.{PairedPrograms, pairs_in}
use Rattle.sd_cert.specs.declared.line.CertState.TheVariants.{Open}
use Rattle.sd_cert.specs.declared.certificate.CertPair.{CertPair}
use Rattle.sd_cert.specs.declared.fault.CertError.{CertError}
use Rattle.sd_cert.specs.declared.fault.CertError.TheVariants.{NoMemory}
use Rattle.sd_cert.specs.Accepts.{Ascend, FitsPair, FitsPairs, entry_from, proofs_from}
use Rattle.sd_cert.specs.BadSteps.{entries_fault, pairs_fault}
use Rattle.sd_cert.specs.Certificates.{proved_lines}
use Rattle.sd_cert.specs.Headers.{header_of, headers_of, count_of}
use Rattle.sd_cert.specs.Refusals.{or_next}
use Rattle.sd_cert.specs.Tables.{IsDecided}
use Rattle.sd_cert.proofs.HeaderLemmas.{before-count}

-- ---- decided numbers

pub decide-dead : (table : List Bool) (n : ℕ) (numbers : List ℕ) → n < length table → IsDecided table n numbers → IsDecided (set table n false) (n + 1) numbers
decide-dead table n numbers within d = record {
  below = ap (live_from 0) (take_more_set table n false within) ∙ live_from-false 0 (take n table) ∙ d.below;
  above = λ k h. get_or-set_other table n k false true (λ e. absurd (omega arith)) ∙ d.above k (omega arith);
}

pub decide-live : (table : List Bool) (n : ℕ) (numbers : List ℕ) → n < length table → IsDecided table n numbers → IsDecided table (n + 1) (numbers ++ n ∷ [])
decide-live table n numbers within d =
    let count : 0 + length (take n table) ≡ n = omega (arith, length-take-le n table (omega arith))
    in record {
      below =
          ap (live_from 0) (take_more table n true within ∙ ap (λ b. take n table ++ b ∷ []) (d.above n (omega arith)))
          ∙ live_from-true 0 (take n table) ∙ ap (λ k. live_from 0 (take n table) ++ k ∷ []) count ∙ ap (λ ks. ks ++ n ∷ []) d.below;
      above = λ k h. d.above k (omega arith);
    }

pub decide-all : (table : List Bool) (n : ℕ) (numbers : List ℕ) → length table ≡ n → IsDecided table n numbers → live_from 0 table ≡ numbers
decide-all table n numbers size d = ap (live_from 0) (sym (take_all n table (omega arith))) ∙ d.below

-- ---- the entries of a pair

pub ascend-all : (P : ℕ → Type 0) (first least bound : ℕ) (ps : List Proved) → Ascend least bound (proved_of ps) → ((n : ℕ) → first ≤ n → n < first + bound → P n) → AllByRecursion (λ p. P (first + p.candidate)) ps
ascend-all P first least bound [] a own = tt
ascend-all P first least bound (p ∷ ps) a own =
    (own (first + p.candidate) (omega arith) (omega (arith, a.1)), ascend-all P first (p.candidate + 1) bound ps a.2 own)

module _ (entries : List Proved) (i : ℕ) (e : Proved) (within : i < length entries) (is : e ≡ get_or entries i e) where
  pub ascend-step : (least bound : ℕ) → Ascend least bound (proved_of (drop i entries)) → (least ≤ e.candidate) × (e.candidate < bound) × Ascend (e.candidate + 1) bound (proved_of (drop (i + 1) entries))
  ascend-step least bound a = subst (λ (ps : List Proved). Ascend least bound (proved_of ps)) (drop-at entries i e within is) a

  pub listed-more : (numbers : List ℕ) (first : ℕ) → (numbers ++ map (λ k. first + k) (proved_of (take i entries))) ++ (first + e.candidate) ∷ [] ≡ numbers ++ map (λ k. first + k) (proved_of (take (i + 1) entries))
  listed-more numbers first =
      append_assoc numbers (map (λ k. first + k) (proved_of (take i entries))) ((first + e.candidate) ∷ [])
      ∙ ap (λ t. numbers ++ t)
      (sym
      (ap (λ ps. map (λ k. first + k) (proved_of ps)) (take-at entries i e within is)
      ∙ ap (λ ks. map (λ k. first + k) ks) (map-append (λ (p : Proved). p.candidate) (take i entries) (e ∷ []))
      ∙ map-append (λ k. first + k) (proved_of (take i entries)) (e.candidate ∷ [])))

pub listed-all : (entries : List Proved) (i first : ℕ) (numbers : List ℕ) → length entries ≤ i → numbers ++ map (λ k. first + k) (proved_of (take i entries)) ≡ numbers ++ map (λ k. first + k) (proved_of entries)
listed-all entries i first numbers h = ap (λ ps. numbers ++ map (λ k. first + k) (proved_of ps)) (take_all i entries h)

-- ---- the pairs

numbers-from : (n : ℕ) (ps : List Proved) → proved_of (map (entry_from n) ps) ≡ map (λ k. n + k) (proved_of ps)
numbers-from n [] = refl
numbers-from n (p ∷ ps) = ap (λ ks. (n + p.candidate) ∷ ks) (numbers-from n ps)

pub fits-length : (ss : List PairHeader) (ps : List CertPair) → FitsPairs ss ps → length ss ≡ length ps
fits-length [] [] f = refl
fits-length (s ∷ ss) (p ∷ ps) f = ap suc (fits-length ss ps f.1)
fits-length [] (p ∷ ps) f = absurd f
fits-length (s ∷ ss) [] f = absurd f

fits-at : (d s : PairHeader) (ss : List PairHeader) (ps : List CertPair) (i : ℕ) (p : CertPair) → FitsPairs ss ps → i < length ss → s ≡ get_or ss i d → p ≡ get_or ps i p → FitsPair s p
fits-at d s [] ps i p f h k e = absurd (omega arith)
fits-at d s (t ∷ ss) [] i p f h k e = absurd f
fits-at d s (t ∷ ss) (q ∷ ps) zero p f h k e = rw (k, e) f.0
fits-at d s (t ∷ ss) (q ∷ ps) (suc i) p f h k e = fits-at d s ss ps i p f.1 (omega arith) k e

none : PairHeader
none = record { state = Open; candidates = 0 }

module _ (h : PairedPrograms) (claims : List CertPair) (fits : FitsPairs (headers_of h) claims) where
  pub claims-count : length (pairs_in h) ≡ length claims
  claims-count = sym (length-map (pairs_in h) (header_of h)) ∙ fits-length (headers_of h) claims fits

  module _ (i : ℕ) (p : CertPair) (within : i < length (pairs_in h)) (claim : p ≡ get_or claims i p) where
    own : PairHeader
    own = get_or (headers_of h) i none

    inside : i < length (headers_of h)
    inside = omega (arith, length-map (pairs_in h) (header_of h))

    headers-here : drop i (headers_of h) ≡ own ∷ drop (i + 1) (headers_of h)
    unfolding own
    headers-here = drop_more (headers_of h) i none inside

    claims-here : drop i claims ≡ p ∷ drop (i + 1) claims
    claims-here = drop-at claims i p (omega (arith, claims-count)) claim

    next : count_before h i + own.candidates ≡ count_before h (i + 1)
    next = omega (arith, before-count h (pairs_in h) i, before-count h (pairs_in h) (i + 1), ap count_of headers-here)

    pub ascend-own : Ascend 0 (count_before h (i + 1) - count_before h i) (proved_of p.proved)
    unfolding own
    ascend-own =
        let size : own.candidates ≡ count_before h (i + 1) - count_before h i = omega (arith, next) in
        subst (λ (n : ℕ). Ascend 0 n (proved_of p.proved)) size (fits-at none own (headers_of h) claims i p fits inside refl claim).numbers

    pub numbers-step : (numbers all : List ℕ) (first : ℕ) → first ≡ count_before h i → numbers ++ proved_of (proofs_from (count_before h i) (drop i (headers_of h)) (drop i claims)) ≡ all
        → (numbers ++ map (λ k. first + k) (proved_of p.proved)) ++ proved_of (proofs_from (count_before h (i + 1)) (drop (i + 1) (headers_of h)) (drop (i + 1) claims)) ≡ all
    numbers-step numbers all first begins e =
        let others = proofs_from (count_before h (i + 1)) (drop (i + 1) (headers_of h)) (drop (i + 1) claims) in
        append_assoc numbers (map (λ k. first + k) (proved_of p.proved)) (proved_of others)
        ∙ ap (λ t. numbers ++ t)
        (sym
        (ap (λ ss. proved_of (proofs_from (count_before h i) ss (drop i claims))) headers-here
        ∙ ap (λ cs. proved_of (proofs_from (count_before h i) (own ∷ drop (i + 1) (headers_of h)) cs)) claims-here
        ∙ ap (λ n. proved_of (map (entry_from (count_before h i)) p.proved ++ proofs_from n (drop (i + 1) (headers_of h)) (drop (i + 1) claims))) next
        ∙ map-append (λ (q : Proved). q.candidate) (map (entry_from (count_before h i)) p.proved) others
        ∙ ap (λ ks. ks ++ proved_of others) (numbers-from (count_before h i) p.proved ∙ ap (λ n. map (λ k. n + k) (proved_of p.proved)) (sym begins))))
        ∙ e

    -- ---- the first bad step of the pairs from this one on

    module _ (queries : List (List Tree)) (all : Option CertError) (line : ℕ) (proved : List Proved) (are : proved ≡ p.proved) (left : all ≡ pairs_fault queries (count_before h i) line (drop i (headers_of h)) (drop i claims)) where
      others : Option CertError
      others = pairs_fault queries (count_before h (i + 1)) (line + 1 + length (flat_map proved_lines proved)) (drop (i + 1) (headers_of h)) (drop (i + 1) claims)

      fault-step : all ≡ or_next (entries_fault queries (count_before h i) (line + 1) proved) others
      unfolding others
      fault-step =
          left ∙ ap (λ ss. pairs_fault queries (count_before h i) line ss (drop i claims)) headers-here
          ∙ ap (λ cs. pairs_fault queries (count_before h i) line (own ∷ drop (i + 1) (headers_of h)) cs) claims-here
          ∙ ap (λ n. or_next (entries_fault queries (count_before h i) (line + 1) p.proved) (pairs_fault queries n (line + 1 + length (flat_map proved_lines p.proved)) (drop (i + 1) (headers_of h)) (drop (i + 1) claims))) next
          ∙ ap (λ ps. or_next (entries_fault queries (count_before h i) (line + 1) ps) (pairs_fault queries (count_before h (i + 1)) (line + 1 + length (flat_map proved_lines ps)) (drop (i + 1) (headers_of h)) (drop (i + 1) claims))) (sym are)

      pub fault-here : (e : CertError) → (e ≡ NoMemory) ⊎ (entries_fault queries (count_before h i) (line + 1) proved ≡ Some e) → (e ≡ NoMemory) ⊎ (all ≡ Some e)
      fault-here e (inl m) = inl m
      fault-here e (inr f) = inr (fault-step ∙ ap (λ o. or_next o others) f)

      pub fault-later : (below : ℕ) → entries_fault queries (count_before h i) (line + 1) proved ≡ None → below ≡ line + 1 + length (flat_map proved_lines proved) → all ≡ pairs_fault queries (count_before h (i + 1)) below (drop (i + 1) (headers_of h)) (drop (i + 1) claims)
      unfolding others
      fault-later below f is =
          fault-step ∙ ap (λ o. or_next o others) f ∙ ap (λ n. pairs_fault queries (count_before h (i + 1)) n (drop (i + 1) (headers_of h)) (drop (i + 1) claims)) (sym is)

  numbers-left : (n : ℕ) (ss : List PairHeader) → proofs_from n ss [] ≡ []
  numbers-left n [] = refl
  numbers-left n (s ∷ ss) = refl

  pub numbers-all : (i first : ℕ) (numbers all : List ℕ) → length (pairs_in h) ≤ i → numbers ++ proved_of (proofs_from first (drop i (headers_of h)) (drop i claims)) ≡ all → all ≡ numbers
  numbers-all i first numbers all past e =
      sym e ∙ ap (λ cs. numbers ++ proved_of (proofs_from first (drop i (headers_of h)) cs)) (drop_all i claims (omega (arith, claims-count)))
      ∙ ap (λ ps. numbers ++ proved_of ps) (numbers-left first (drop i (headers_of h))) ∙ append-nil numbers

  fault-left : (queries : List (List Tree)) (first line : ℕ) (ss : List PairHeader) → pairs_fault queries first line ss [] ≡ None
  fault-left queries first line [] = refl
  fault-left queries first line (s ∷ ss) = refl
