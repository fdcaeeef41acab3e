-- The candidates of pairs, and the tables by which those of a pair are found.
use Rattle.std.specs.Prelude.{◌≡◌, ℕ, ◌<◌, ◌==◌, false, ◌&&◌, List, [], ◌∷◌, ◌++◌, map, length, take, Option, Some, None, slice_get}
use Rattle.sd_match.specs.declared.pair.Pair.{Pair}
use Rattle.sd_cand.specs.declared.candidate.Candidate.{Candidate}
use Rattle.sd_product.specs.Query.{Claimed}
use Rattle.sd_product.specs.Numbering.{FindsPairs}
use Rattle.sd_product.specs.declared.calls.Claims.{Claims}

-- candidates of one pair
abbrev pub claimed : Pair → List Candidate → List Claimed
claimed pair = map (λ c. record { pair = pair; candidate = c })

-- those of all pairs, one pair after another
abbrev pub claims_in : List Pair → List (List Candidate) → List Claimed
claims_in [] lists = []
claims_in (p ∷ ps) [] = []
claims_in (p ∷ ps) (cs ∷ lists) = claimed p cs ++ claims_in ps lists

abbrev pub claims_of : Claims → List Claimed
claims_of c = claims_in c.pairs.now c.candidates.now

-- how many candidates the pairs before pair i have
abbrev pub before : List Pair → List (List Candidate) → ℕ → ℕ
before pairs lists i = length (claims_in (take i pairs) (take i lists))

-- the entry of each pair is the number of its first candidate
abbrev pub NumbersFirst : List Pair → List (List Candidate) → List ℕ → Type 0
NumbersFirst pairs lists first = (i : ℕ) → i < length pairs → slice_get first i ≡ Some (before pairs lists i)

-- Each pair has a list of candidates, and the tables tell the place of a pair and the number of its first candidate.
pub record AreTables (c : Claims) : Type 0 where
  pub long : length c.candidates.now ≡ length c.pairs.now
  pub places : FindsPairs c.pair_of_old.now c.pairs.now
  pub firsts : NumbersFirst c.pairs.now c.candidates.now c.first.now

-- the place of the pair of these two procedures, or that there is none
abbrev pub IsPairOf : List Pair → (old new : ℕ) → Option ℕ → Type 0
IsPairOf pairs old new None = (i : ℕ) (p : Pair) → slice_get pairs i ≡ Some p → (p.old == old) && (p.new == new) ≡ false
IsPairOf pairs old new (Some i) = (p : Pair) × (slice_get pairs i ≡ Some p) × (p.old ≡ old) × (p.new ≡ new)
