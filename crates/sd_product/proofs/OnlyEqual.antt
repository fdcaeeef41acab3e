-- The candidates of two programs speak of equality alone.
use Rattle.std.proofs.Common.{◌≡◌, ℕ, suc, List, [], ◌∷◌, refl}
use Rattle.std.specs.Prelude.{map}
use Rattle.std.specs.List.{AllByRecursion}
use Rattle.sd_base.proofs.Lists.{all-append}
use Rattle.sd_term.specs.declared.build.Kind.TheVariants as kind
use Rattle.sd_match.specs.declared.pair.SpotPair.{SpotPair}
use Rattle.sd_match.specs.declared.pair.PairState.{PairState}
use Rattle.sd_match.specs.declared.pair.PairState.TheVariants.{Open, Signature, UnmatchedRecursion}
use Rattle.sd_match.specs.declared.pair.Pair.{Pair}
use Rattle.sd_cand.specs.declared.candidate.Relation.{Relation}
use Rattle.sd_cand.specs.declared.candidate.Claim.{Claim}
use Rattle.sd_cand.specs.declared.candidate.Claim.TheVariants.{Flag, Output}
use Rattle.sd_cand.specs.declared.candidate.Candidate.{Candidate}
use Rattle.sd_cand.specs.Candidates.{equal_from, equal_inputs, flag_candidates, output_candidates, candidates_in}
use Rattle.sd_product.specs.Query.{Claimed}
use Rattle.sd_product.specs.Work.{PairedPrograms, candidates_in_pair, claims_of}

abbrev pub IsEqual : Relation → Type 0
IsEqual r = r.kind ≡ kind.Eq

abbrev pub IsEqualClaim : Claim → Type 0
IsEqualClaim Flag = Unit {0}
IsEqualClaim (Output r) = IsEqual r

pub record IsOnlyEqual (c : Candidate) : Type 0 where
  pub when : AllByRecursion IsEqual c.when
  pub claim : IsEqualClaim c.claim

abbrev pub IsEqualClaimed : Claimed → Type 0
IsEqualClaimed x = IsOnlyEqual x.candidate

pub from-equal : (n : ℕ) (ss : List SpotPair) → AllByRecursion IsEqual (equal_from n ss)
from-equal n [] = tt
from-equal n (s ∷ ss) = (refl, from-equal (suc n) ss)

flags-equal : (rs : List Relation) → AllByRecursion IsEqual rs → AllByRecursion IsOnlyEqual (flag_candidates rs)
flags-equal [] h = (record { when = tt; claim = tt }, tt)
flags-equal (r ∷ rs) h = (record { when = tt; claim = tt }, (record { when = h; claim = tt }, tt))

outputs-equal : (when : List Relation) (n : ℕ) (ss : List SpotPair) → AllByRecursion IsEqual when → AllByRecursion IsOnlyEqual (output_candidates when n ss)
outputs-equal when n [] h = tt
outputs-equal when n (s ∷ ss) h = (record { when = h; claim = refl }, outputs-equal when (suc n) ss h)

candidates-equal : (state : PairState) (pair : Pair) → AllByRecursion IsOnlyEqual (candidates_in state pair)
candidates-equal Open pair =
    let inputs = from-equal 0 pair.inputs in
    all-append IsOnlyEqual (flag_candidates (equal_inputs pair)) (output_candidates (equal_inputs pair) 0 pair.outputs) (flags-equal (equal_inputs pair) inputs) (outputs-equal (equal_inputs pair) 0 pair.outputs inputs)
candidates-equal Signature pair = tt
candidates-equal (UnmatchedRecursion f) pair = tt

of-pair : (pair : Pair) (cs : List Candidate) → AllByRecursion IsOnlyEqual cs → AllByRecursion IsEqualClaimed (map (λ c. record { pair = pair; candidate = c }) cs)
of-pair pair [] h = tt
of-pair pair (c ∷ cs) h = (h.0, of-pair pair cs h.1)

pub claims-equal : (h : PairedPrograms) (pairs : List Pair) → AllByRecursion IsEqualClaimed (claims_of h pairs)
claims-equal h [] = tt
claims-equal h (pair ∷ pairs) =
    all-append IsEqualClaimed (map (λ c. record { pair = pair; candidate = c }) (candidates_in_pair h pair)) (claims_of h pairs) (of-pair pair (candidates_in_pair h pair) (candidates-equal pair.state pair)) (claims-equal h pairs)
