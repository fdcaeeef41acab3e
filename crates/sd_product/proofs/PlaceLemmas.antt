-- Each number of a candidate leads to its place.
use Rattle.std.proofs.Common.{◌≡◌, ◌∙◌, sym, ap, refl, ℕ, zero, suc, ◌+◌, ◌<◌, List, [], ◌∷◌, ◌++◌, length, get_or, drop, arith, append_assoc}
use Rattle.std.specs.Prelude.{Option, Some, None, slice_get}
use Rattle.std.proofs.Math.Seq.{drop-cons}
use Rattle.std.proofs.lemmas.Option.{get_or_from_slice_get, same_Some}
use Rattle.sd_base.proofs.Lists.{slice_get-map_some}
use Rattle.sd_match.specs.declared.pair.Pair.{Pair}
use Rattle.sd_cand.specs.declared.candidate.Candidate.{Candidate}
use Rattle.sd_product.specs.Query.{Claimed}
use Rattle.sd_product.specs.Work.{PairedPrograms, candidates_in_pair, candidate_lists, claims_of, claims_in, pairs_in, IsAt}
use Rattle.sd_product.specs.Claims.{claimed}
use Rattle.sd_product.specs.Numbering.{firsts_from, places_in, places_from}

-- ---- the tables are made list by list

pub one_first : (lists : List (List Candidate)) (place : ℕ) (list : List Candidate) (number next : ℕ) (was now all : List ℕ) → place < length lists → list ≡ get_or lists place list → next ≡ number + length list → now ≡ was ++ number ∷ []
    → was ++ firsts_from number (drop place lists) ≡ all → now ++ firsts_from next (drop (place + 1) lists) ≡ all
one_first lists place list number next was now all within is after pushed before =
    let step : suc place ≡ place + 1 = omega arith in
    let here : drop place lists ≡ list ∷ drop (suc place) lists = drop-cons lists place list within ∙ ap (λ xs. xs ∷ drop (suc place) lists) (sym is) in
    let rest : firsts_from number (drop place lists) ≡ number ∷ firsts_from next (drop (place + 1) lists) = ap (firsts_from number) here ∙ (λ i. number ∷ firsts_from (sym after i) (drop (step i) lists)) in
    ap (λ ns. ns ++ firsts_from next (drop (place + 1) lists)) pushed ∙ append_assoc was (number ∷ []) (firsts_from next (drop (place + 1) lists)) ∙ ap (λ ns. was ++ ns) (sym rest) ∙ before

pub one_list : (lists : List (List Candidate)) (place : ℕ) (list : List Candidate) (was now all : List (ℕ × ℕ)) → place < length lists → list ≡ get_or lists place list → now ≡ was ++ places_in place 0 list
    → was ++ places_from place (drop place lists) ≡ all → now ++ places_from (place + 1) (drop (place + 1) lists) ≡ all
one_list lists place list was now all within is put before =
    let step : suc place ≡ place + 1 = omega arith in
    let here : drop place lists ≡ list ∷ drop (suc place) lists = drop-cons lists place list within ∙ ap (λ xs. xs ∷ drop (suc place) lists) (sym is) in
    let rest : places_from place (drop place lists) ≡ places_in place 0 list ++ places_from (place + 1) (drop (place + 1) lists) = ap (places_from place) here ∙ (λ i. places_in place 0 list ++ places_from (step i) (drop (step i) lists)) in
    ap (λ ls. ls ++ places_from (place + 1) (drop (place + 1) lists)) put ∙ append_assoc was (places_in place 0 list) (places_from (place + 1) (drop (place + 1) lists)) ∙ ap (λ ls. was ++ ls) (sym rest) ∙ before

-- ---- candidates and their places, one by one

record Stands (h : PairedPrograms) (pairs : List Pair) (x : Claimed) (place : ℕ × ℕ) : Type 0 where
  pair_is : slice_get pairs place.0 ≡ Some x.pair
  candidate_is : slice_get (candidates_in_pair h x.pair) place.1 ≡ Some x.candidate

abbrev EachStands : PairedPrograms → List Pair → List Claimed → List (ℕ × ℕ) → Type 0
EachStands h pairs [] [] = Unit {0}
EachStands h pairs (x ∷ xs) (l ∷ ls) = Stands h pairs x l × EachStands h pairs xs ls
EachStands h pairs _ _ = ⊥

each-append : (h : PairedPrograms) (pairs : List Pair) (xs ys : List Claimed) (ls ms : List (ℕ × ℕ)) → EachStands h pairs xs ls → EachStands h pairs ys ms → EachStands h pairs (xs ++ ys) (ls ++ ms)
each-append h pairs [] ys [] ms r k = k
each-append h pairs [] ys (l ∷ ls) ms r k = absurd r
each-append h pairs (x ∷ xs) ys [] ms r k = absurd r
each-append h pairs (x ∷ xs) ys (l ∷ ls) ms r k = (r.0, each-append h pairs xs ys ls ms r.1 k)

each-length : (h : PairedPrograms) (pairs : List Pair) (xs : List Claimed) (ls : List (ℕ × ℕ)) → EachStands h pairs xs ls → length ls ≡ length xs
each-length h pairs [] [] r = refl
each-length h pairs [] (l ∷ ls) r = absurd r
each-length h pairs (x ∷ xs) [] r = absurd r
each-length h pairs (x ∷ xs) (l ∷ ls) r = omega (arith, each-length h pairs xs ls r.1)

record Found (h : PairedPrograms) (pairs : List Pair) (xs : List Claimed) (n : ℕ) (place : ℕ × ℕ) : Type 0 where
  claimed : Claimed
  claim_is : slice_get xs n ≡ Some claimed
  stands : Stands h pairs claimed place

each-at : (h : PairedPrograms) (pairs : List Pair) (xs : List Claimed) (ls : List (ℕ × ℕ)) (n : ℕ) (l : ℕ × ℕ) → EachStands h pairs xs ls → slice_get ls n ≡ Some l → Found h pairs xs n l
each-at h pairs [] [] n l r e = absurd (let bad : ◌≡◌ {A = Option (ℕ × ℕ)} None (Some l) = e in cc)
each-at h pairs [] (m ∷ ls) n l r e = absurd r
each-at h pairs (x ∷ xs) [] n l r e = absurd r
each-at h pairs (x ∷ xs) (m ∷ ls) zero l r e =
    let is = same_Some m l e in
    record { claimed = x; claim_is = refl; stands = record { pair_is = ap (λ (p : ℕ × ℕ). slice_get pairs p.0) (sym is) ∙ r.0.pair_is; candidate_is = ap (λ (p : ℕ × ℕ). slice_get (candidates_in_pair h x.pair) p.1) (sym is) ∙ r.0.candidate_is } }
each-at h pairs (x ∷ xs) (m ∷ ls) (suc n) l r e =
    let f = each-at h pairs xs ls n l r.1 e in
    record { claimed = f.claimed; claim_is = f.claim_is; stands = f.stands }

each_in : (h : PairedPrograms) (pairs : List Pair) (pair : Pair) (i k : ℕ) (cs : List Candidate) → slice_get pairs i ≡ Some pair → ((j : ℕ) (c : Candidate) → slice_get cs j ≡ Some c → slice_get (candidates_in_pair h pair) (k + j) ≡ Some c) → EachStands h pairs (claimed pair cs) (places_in i k cs)
each_in h pairs pair i k [] here at = tt
each_in h pairs pair i k (c ∷ cs) here at =
    let none : k ≡ k + 0 = omega arith in (
      record { pair_is = here; candidate_is = ap (slice_get (candidates_in_pair h pair)) none ∙ at 0 c refl },
      each_in h pairs pair i (suc k) cs here (λ j d e. let next : suc k + j ≡ k + suc j = omega arith in ap (slice_get (candidates_in_pair h pair)) next ∙ at (suc j) d e),
    )

each_from : (h : PairedPrograms) (pairs : List Pair) (i : ℕ) (ps : List Pair) → ((j : ℕ) (p : Pair) → slice_get ps j ≡ Some p → slice_get pairs (i + j) ≡ Some p) → EachStands h pairs (claims_of h ps) (places_from i (candidate_lists h ps))
each_from h pairs i [] at = tt
each_from h pairs i (p ∷ ps) at =
    let none : i ≡ i + 0 = omega arith in
    each-append h pairs (claimed p (candidates_in_pair h p)) (claims_of h ps) (places_in i 0 (candidates_in_pair h p)) (places_from (suc i) (candidate_lists h ps))
    (each_in h pairs p i 0 (candidates_in_pair h p) (ap (slice_get pairs) none ∙ at 0 p refl) (λ j c e. let whole : 0 + j ≡ j = omega arith in ap (slice_get (candidates_in_pair h p)) whole ∙ e))
    (each_from h pairs (suc i) ps (λ j q e. let next : suc i + j ≡ i + suc j = omega arith in ap (slice_get pairs) next ∙ at (suc j) q e))

each_of : (h : PairedPrograms) (pairs : List Pair) → EachStands h pairs (claims_of h pairs) (places_from 0 (candidate_lists h pairs))
each_of h pairs = each_from h pairs 0 pairs (λ j p e. let whole : 0 + j ≡ j = omega arith in ap (slice_get pairs) whole ∙ e)

-- ---- what the table tells

pub count_is : (h : PairedPrograms) (pairs : List Pair) → length (places_from 0 (candidate_lists h pairs)) ≡ length (claims_of h pairs)
count_is h pairs = each-length h pairs (claims_of h pairs) (places_from 0 (candidate_lists h pairs)) (each_of h pairs)

pub is_at : (h : PairedPrograms) (n : ℕ) (place : ℕ × ℕ) → slice_get (places_from 0 (candidate_lists h (pairs_in h))) n ≡ Some place → IsAt h n place.0 place.1
is_at h n place e =
    let f = each-at h (pairs_in h) (claims_of h (pairs_in h)) (places_from 0 (candidate_lists h (pairs_in h))) n place (each_of h (pairs_in h)) e in
    record { pair = f.claimed.pair; candidate = f.claimed.candidate; pair_is = f.stands.pair_is; candidate_is = f.stands.candidate_is; claim_is = f.claim_is }

-- ---- the candidate at a place

-- what is read there is the candidate of this number, with its pair
pub claim_at : (h : PairedPrograms) (n : ℕ) (place : ℕ × ℕ) (pairs : List Pair) (pair : Pair) (list : List Candidate) (c : Candidate) → IsAt h n place.0 place.1 → pairs ≡ pairs_in h → slice_get pairs place.0 ≡ Some pair
    → slice_get (candidate_lists h (pairs_in h)) place.0 ≡ Some list → c ≡ get_or list place.1 c → slice_get (claims_in h) n ≡ Some (record { pair = pair; candidate = c })
claim_at h n place pairs pair list c f are here listed is =
    let one : f.pair ≡ pair = same_Some f.pair pair (sym f.pair_is ∙ ap (λ (ps : List Pair). slice_get ps place.0) (sym are) ∙ here) in
    let own : candidates_in_pair h f.pair ≡ list = same_Some (candidates_in_pair h f.pair) list (sym (slice_get-map_some (candidates_in_pair h) (pairs_in h) place.0 f.pair f.pair_is) ∙ listed) in
    let read : f.candidate ≡ c = sym (get_or_from_slice_get list place.1 f.candidate c (ap (λ (l : List Candidate). slice_get l place.1) (sym own) ∙ f.candidate_is)) ∙ sym is in
    f.claim_is ∙ ap Some (λ i. record { pair = one i; candidate = read i })
