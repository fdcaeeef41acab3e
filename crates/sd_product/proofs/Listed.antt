-- The candidates of all pairs, listed by pair, and the tables by which they are found.
use Rattle.std.proofs.Common.{◌≡◌, ◌∙◌, sym, ap, refl, subst, ℕ, ◌+◌, ◌<◌, List, [], ◌∷◌, ◌++◌, length, take, arith}
use Rattle.std.specs.Prelude.{Option, Some, slice_get}
use Rattle.std.proofs.lemmas.List.{length-map, take-map}
use Rattle.sd_match.specs.declared.pair.Pair.{Pair}
use Rattle.sd_cand.specs.declared.candidate.Candidate.{Candidate}
use Rattle.sd_product.specs.Query.{Claimed}
use Rattle.sd_product.specs.Numbering.{FindsPairs, firsts_from}
use Rattle.sd_product.specs.Claims.{claimed, claims_in, NumbersFirst}
use Rattle.sd_product.specs.Work.{PairedPrograms, candidates_in_pair, candidate_lists, claims_of}
use Rattle.sd_product.proofs.FirstLemmas.{firsts_at}

pub claims-listed : (h : PairedPrograms) (pairs : List Pair) → claims_in pairs (candidate_lists h pairs) ≡ claims_of h pairs
claims-listed h [] = refl
claims-listed h (p ∷ ps) = ap (λ (l : List Claimed). claimed p (candidates_in_pair h p) ++ l) (claims-listed h ps)

-- The pairs are these, and the lists their candidates.
module _ (h : PairedPrograms) (own pairs : List Pair) (lists : List (List Candidate)) (are_pairs : pairs ≡ own) (are_lists : lists ≡ candidate_lists h own) where
  pub listed : claims_in pairs lists ≡ claims_of h own
  listed = (λ i. claims_in (are_pairs i) (are_lists i)) ∙ claims-listed h own

  pub as_long : length lists ≡ length pairs
  as_long = ap length are_lists ∙ length-map own (candidates_in_pair h) ∙ ap length (sym are_pairs)

  pub finds : (entries table : List (Option ℕ)) → entries ≡ table → FindsPairs table own → FindsPairs entries pairs
  finds entries table is f = subst (λ (es : List (Option ℕ)). FindsPairs es pairs) (sym is) (subst (λ (ps : List Pair). FindsPairs table ps) (sym are_pairs) f)

  listed-before : (i : ℕ) → claims_of h (take i own) ≡ claims_in (take i pairs) (take i lists)
  listed-before i = sym (claims-listed h (take i own)) ∙ ap (claims_in (take i own)) (sym (take-map (candidates_in_pair h) i own)) ∙ (λ j. claims_in (take i (sym are_pairs j)) (take i (sym are_lists j)))

  pub numbers : (first : List ℕ) → first ≡ firsts_from 0 (candidate_lists h own) → NumbersFirst pairs lists first
  numbers first is i lt =
      let within : i < length own = omega (arith, lt, ap length are_pairs) in
      let count : 0 + length (claims_of h (take i own)) ≡ length (claims_in (take i pairs) (take i lists)) = omega (arith, ap length (listed-before i)) in
      ap (λ (ns : List ℕ). slice_get ns i) is ∙ firsts_at h 0 i own within ∙ ap Some count
