-- The candidates of a pair.
use Rattle.std.specs.Prelude.{ℕ, suc, List, [], ◌∷◌, ◌++◌, map}
use Rattle.sd_term.specs.declared.build.Kind.TheVariants.{Eq}
use Rattle.sd_match.specs.declared.pair.SpotPair.{SpotPair}
use Rattle.sd_match.specs.declared.pair.PairState.{PairState}
use Rattle.sd_match.specs.declared.pair.PairState.TheVariants.{Open}
use Rattle.sd_match.specs.declared.pair.Pair.{Pair}
use Rattle.sd_cand.specs.declared.candidate.Relation.{Relation}
use Rattle.sd_cand.specs.declared.candidate.Claim.TheVariants.{Flag, Output}
use Rattle.sd_cand.specs.declared.candidate.Candidate.{Candidate}

-- equality at each place from n on
abbrev pub equal_from : ℕ → List SpotPair → List Relation
equal_from n [] = []
equal_from n (s ∷ ss) = record { place = n; kind = Eq } ∷ equal_from (suc n) ss

-- equality at all inputs
abbrev pub equal_inputs : Pair → List Relation
equal_inputs pair = equal_from 0 pair.inputs

-- The new run fails only where the old one does: on all inputs, and on equal ones. Without inputs the two are one.
abbrev pub flag_candidates : List Relation → List Candidate
flag_candidates [] = record { when = []; claim = Flag } ∷ []
flag_candidates (r ∷ rs) = record { when = []; claim = Flag } ∷ record { when = r ∷ rs; claim = Flag } ∷ []

-- under this condition the outputs from n on are equal, one by one
abbrev pub output_candidates : List Relation → ℕ → List SpotPair → List Candidate
output_candidates when n [] = []
output_candidates when n (s ∷ ss) =
    record { when = when; claim = Output (record { place = n; kind = Eq }) } ∷ output_candidates when (suc n) ss

-- A refused pair has no candidates.
abbrev pub candidates_in : PairState → Pair → List Candidate
candidates_in Open pair = flag_candidates (equal_inputs pair) ++ output_candidates (equal_inputs pair) 0 pair.outputs
candidates_in _ pair = []

abbrev pub candidates_of : Pair → List Candidate
candidates_of pair = candidates_in pair.state pair

-- the lists of all pairs
abbrev pub all_candidates : List Pair → List (List Candidate)
all_candidates pairs = map candidates_of pairs
