-- What the fields of a work tell of its value.
use Rattle.std.proofs.Common.{◌≡◌, ◌∙◌, sym, ap, ℕ, ◌+◌, ◌<◌, ◌^◌, List, length, get_or, arith, subst}
use Rattle.std.specs.Prelude.{Some, slice_get}
use Rattle.std.proofs.lemmas.List.{length-map}
use Rattle.std.proofs.lemmas.Option.{slice_get-get_or, slice_get_within, get_or_from_slice_get}
use Rattle.sd_cand.specs.declared.candidate.Candidate.{Candidate}
use Rattle.sd_product.specs.Work.{PairedPrograms, AreWellFormed, candidates_in_pair, candidate_lists, claims_in, pairs_in, IsAt}
use Rattle.sd_product.specs.WorkInvariant.{programs_in, IsWork}
use Rattle.sd_product.specs.Bodies.{count_before}
use Rattle.sd_product.specs.Numbering.{firsts_from, places_from}
use Rattle.sd_product.specs.declared.work.Work.TheInside.{Inside}
use Rattle.sd_product.proofs.FirstLemmas.{firsts_at}
use Rattle.sd_product.proofs.PlaceLemmas.{count_is, is_at}
use Rattle.sd_product.proofs.RangeLemmas.{AreNumbers, are_numbers}

module _ (w : Inside) (i : IsWork w) (h : PairedPrograms) (view : programs_in w ≡ h) where
  pub well_formed : AreWellFormed h
  well_formed = subst AreWellFormed view i.formed

  pub own_pairs : w.pairs ≡ pairs_in h
  own_pairs = i.are_pairs ∙ ap pairs_in view

  pub lists_by : w.candidates.items ≡ candidate_lists h w.pairs
  lists_by = i.are_candidates ∙ (λ j. candidate_lists (view j) w.pairs)

  own_lists : w.candidates.items ≡ candidate_lists h (pairs_in h)
  own_lists = lists_by ∙ ap (candidate_lists h) own_pairs

  own_places : w.places.items ≡ places_from 0 (candidate_lists h (pairs_in h))
  own_places = i.are_places ∙ ap (places_from 0) own_lists

  pub claim_count : length w.places.items ≡ length (claims_in h)
  claim_count = ap length own_places ∙ count_is h (pairs_in h)

  pub place_within : (n : ℕ) → n < length (claims_in h) → n < length w.places.items
  place_within n lt = omega (arith, claim_count)

  pub place_at : (n : ℕ) (place : ℕ × ℕ) → n < length (claims_in h) → place ≡ get_or w.places.items n place → IsAt h n place.0 place.1
  place_at n place lt is = is_at h n place (ap (λ (ls : List (ℕ × ℕ)). slice_get ls n) (sym own_places) ∙ slice_get-get_or w.places.items n place (place_within n lt) ∙ ap Some (sym is))

  -- of one pair
  module _ (k : ℕ) (lt : k < length (pairs_in h)) where
    pub list_within : k < length w.candidates.items
    list_within = let long : length w.candidates.items ≡ length (pairs_in h) = ap length own_lists ∙ length-map (pairs_in h) (candidates_in_pair h) in omega arith

    pub list_at : (list : List Candidate) → list ≡ get_or w.candidates.items k list → slice_get (candidate_lists h (pairs_in h)) k ≡ Some list
    list_at list is = ap (λ (ls : List (List Candidate)). slice_get ls k) (sym own_lists) ∙ slice_get-get_or w.candidates.items k list list_within ∙ ap Some (sym is)

    first_is : slice_get w.first.items k ≡ Some (0 + count_before h k)
    first_is = ap (λ (ns : List ℕ). slice_get ns k) (i.are_firsts ∙ ap (firsts_from 0) own_lists) ∙ firsts_at h 0 k (pairs_in h) lt

    pub first_within : k < length w.first.items
    first_within = slice_get_within w.first.items k (0 + count_before h k) first_is

    pub first_at : (n : ℕ) → n ≡ get_or w.first.items k n → n ≡ count_before h k
    first_at n is = let e : get_or w.first.items k n ≡ 0 + count_before h k = get_or_from_slice_get w.first.items k (0 + count_before h k) n first_is in omega (arith, is, e)

    -- the numbers of its candidates
    pub numbers_at : (list : List Candidate) (first count : ℕ) → list ≡ get_or w.candidates.items k list → first ≡ get_or w.first.items k first → count ≡ length list → AreNumbers h k first (first + count)
    numbers_at list first count listed begins counted = are_numbers h k first (first + count) list (list_at list listed) (first_at first begins) (ap (λ (n : ℕ). first + n) counted)

    pub few_numbers : (first end : ℕ) → AreNumbers h k first end → end < 2 ^ 32
    few_numbers first end n = let within = n.within in omega (arith, within, i.few, claim_count)
