-- The number of each pair's first candidate: how many candidates the pairs before it have.
use Rattle.std.proofs.Common.{◌≡◌, ◌∙◌, ap, ℕ, zero, suc, ◌+◌, ◌<◌, List, [], ◌∷◌, length, take, map, arith, length-append}
use Rattle.std.specs.Prelude.{Some, slice_get}
use Rattle.std.proofs.lemmas.List.{length-map}
use Rattle.sd_match.specs.declared.pair.Pair.{Pair}
use Rattle.sd_cand.specs.declared.candidate.Candidate.{Candidate}
use Rattle.sd_product.specs.Query.{Claimed}
use Rattle.sd_product.specs.Work.{PairedPrograms, candidates_in_pair, candidate_lists, claims_of}
use Rattle.sd_product.specs.Numbering.{firsts_from}

abbrev claim : Pair → Candidate → Claimed
claim pair c = record { pair = pair; candidate = c }

pub one_pair : (h : PairedPrograms) (p : Pair) (ps : List Pair) → length (claims_of h (p ∷ ps)) ≡ length (candidates_in_pair h p) + length (claims_of h ps)
one_pair h p ps = omega (arith, length-append (map (claim p) (candidates_in_pair h p)) (claims_of h ps), length-map (candidates_in_pair h p) (claim p))

pub firsts_at : (h : PairedPrograms) (n i : ℕ) (ps : List Pair) → i < length ps → slice_get (firsts_from n (candidate_lists h ps)) i ≡ Some (n + length (claims_of h (take i ps)))
firsts_at h n i [] lt = absurd (omega arith)
firsts_at h n zero (p ∷ ps) lt = let none : n ≡ n + 0 = omega arith in ap Some none
firsts_at h n (suc i) (p ∷ ps) lt =
    let total : (n + length (candidates_in_pair h p)) + length (claims_of h (take i ps)) ≡ n + length (claims_of h (take (suc i) (p ∷ ps))) = omega (arith, one_pair h p (take i ps)) in
    firsts_at h (n + length (candidates_in_pair h p)) i ps (omega arith) ∙ ap Some total
