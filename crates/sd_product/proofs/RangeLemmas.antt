-- The numbers of the candidates of one pair.
use Rattle.std.proofs.Common.{◌≡◌, ◌∙◌, sym, ap, refl, ℕ, zero, suc, ◌+◌, ◌-◌, ◌<◌, ◌≤◌, List, [], ◌∷◌, ◌++◌, length, take, map, arith}
use Rattle.std.specs.Prelude.{Option, Some, None, slice_get}
use Rattle.std.proofs.lemmas.List.{length-map}
use Rattle.std.proofs.lemmas.Option.{same_Some}
use Rattle.sd_base.proofs.Lists.{slice_get-append_right}
use Rattle.sd_match.specs.declared.pair.Pair.{Pair}
use Rattle.sd_cand.specs.declared.candidate.Candidate.{Candidate}
use Rattle.sd_product.specs.Query.{Claimed}
use Rattle.sd_product.specs.Work.{PairedPrograms, candidates_in_pair, candidate_lists, claims_of, claims_in, pairs_in}
use Rattle.sd_product.specs.Bodies.{IsAbout, count_before}
use Rattle.sd_product.proofs.FirstLemmas.{one_pair}

abbrev claim : Pair → Candidate → Claimed
claim pair c = record { pair = pair; candidate = c }

-- ---- how many there are

count_more : (h : PairedPrograms) (ps : List Pair) (i : ℕ) (p : Pair) → slice_get ps i ≡ Some p → length (claims_of h (take (suc i) ps)) ≡ length (claims_of h (take i ps)) + length (candidates_in_pair h p)
count_more h [] i p e = absurd (let bad : ◌≡◌ {A = Option Pair} None (Some p) = e in cc)
count_more h (q ∷ ps) zero p e =
    let same : length (candidates_in_pair h q) ≡ length (candidates_in_pair h p) = ap (λ (r : Pair). length (candidates_in_pair h r)) (same_Some q p e) in
    omega (arith, one_pair h q [], same)
count_more h (q ∷ ps) (suc i) p e = omega (arith, one_pair h q (take (suc i) ps), one_pair h q (take i ps), count_more h ps i p e)

count_within : (h : PairedPrograms) (i : ℕ) (ps : List Pair) → length (claims_of h (take i ps)) ≤ length (claims_of h ps)
count_within h zero ps = omega arith
count_within h (suc i) [] = omega arith
count_within h (suc i) (p ∷ ps) = omega (arith, one_pair h p (take i ps), one_pair h p ps, count_within h i ps)

-- ---- the claims at these numbers

here_in : (p : Pair) (cs : List Candidate) (rest : List Claimed) (n : ℕ) → n < length cs → (c : Candidate) × (slice_get (map (claim p) cs ++ rest) n ≡ Some (claim p c))
here_in p [] rest n lt = absurd (omega arith)
here_in p (c ∷ cs) rest zero lt = (c, refl)
here_in p (c ∷ cs) rest (suc n) lt = here_in p cs rest n (omega arith)

later_in : (p : Pair) (cs : List Candidate) (rest : List Claimed) (n : ℕ) → slice_get (map (claim p) cs ++ rest) (length cs + n) ≡ slice_get rest n
later_in p cs rest n = ap (λ (k : ℕ). slice_get (map (claim p) cs ++ rest) (k + n)) (sym (length-map cs (claim p))) ∙ slice_get-append_right (map (claim p) cs) rest n

own_at : (h : PairedPrograms) (ps : List Pair) (i n : ℕ) (p : Pair) → slice_get ps i ≡ Some p → length (claims_of h (take i ps)) ≤ n → n < length (claims_of h (take (suc i) ps)) → (c : Candidate) × (slice_get (claims_of h ps) n ≡ Some (claim p c))
own_at h [] i n p e lo hi = absurd (let bad : ◌≡◌ {A = Option Pair} None (Some p) = e in cc)
own_at h (q ∷ ps) zero n p e lo hi =
    let f = here_in q (candidates_in_pair h q) (claims_of h ps) n (omega (arith, one_pair h q [])) in
    (f.0, f.1 ∙ ap (λ (r : Pair). Some (claim r f.0)) (same_Some q p e))
own_at h (q ∷ ps) (suc i) n p e lo hi =
    let count = length (candidates_in_pair h q) in
    let back : n ≡ count + (n - count) = omega (arith, one_pair h q (take i ps)) in
    let f = own_at h ps i (n - count) p e (omega (arith, one_pair h q (take i ps))) (omega (arith, one_pair h q (take (suc i) ps), one_pair h q (take i ps))) in
    let same : slice_get (claims_of h (q ∷ ps)) n ≡ slice_get (claims_of h ps) (n - count) = ap (slice_get (claims_of h (q ∷ ps))) back ∙ later_in q (candidates_in_pair h q) (claims_of h ps) (n - count) in
    (f.0, same ∙ f.1)

pair_with : (h : PairedPrograms) (ps : List Pair) (i : ℕ) (list : List Candidate) → slice_get (candidate_lists h ps) i ≡ Some list → (p : Pair) × (slice_get ps i ≡ Some p) × (candidates_in_pair h p ≡ list)
pair_with h [] i list e = absurd (let bad : ◌≡◌ {A = Option (List Candidate)} None (Some list) = e in cc)
pair_with h (p ∷ ps) zero list e = (p, refl, same_Some (candidates_in_pair h p) list e)
pair_with h (p ∷ ps) (suc i) list e = pair_with h ps i list e

-- the numbers from the first one on, and before the end
pub record AreNumbers (h : PairedPrograms) (i first end : ℕ) : Type 0 where
  pub last : end ≡ count_before h (i + 1)
  pub within : end ≤ length (claims_in h)
  pub own : (n : ℕ) → first ≤ n → n < end → IsAbout h n i

pub are_numbers : (h : PairedPrograms) (i first end : ℕ) (list : List Candidate) → slice_get (candidate_lists h (pairs_in h)) i ≡ Some list → first ≡ count_before h i → end ≡ first + length list → AreNumbers h i first end
are_numbers h i first end list e begins ends =
    let f = pair_with h (pairs_in h) i list e in
    let next : suc i ≡ i + 1 = omega arith in
    let more : count_before h (suc i) ≡ count_before h i + length list = count_more h (pairs_in h) i f.0 f.1 ∙ ap (λ (cs : List Candidate). count_before h i + length cs) f.2 in
    let last : end ≡ count_before h (suc i) = omega (arith, begins, ends, more) in
    record {
      last = last ∙ ap (count_before h) next;
      within = omega (arith, last, count_within h (suc i) (pairs_in h));
      own = λ n lo hi.
          let own = own_at h (pairs_in h) i n f.0 f.1 (omega (arith, lo, begins)) (omega (arith, hi, last)) in
          record { claimed = claim f.0 own.0; claim_is = own.1; pair_is = f.1 };
    }
