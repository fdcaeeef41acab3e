-- How the candidates of pairs are numbered through, and found by old procedures.
use Rattle.std.specs.Prelude.{◌≡◌, ℕ, suc, ◌+◌, ◌<◌, List, [], ◌∷◌, ◌++◌, length, get_or, Option, Some, None, slice_get}
use Rattle.sd_match.specs.declared.pair.Pair.{Pair}
use Rattle.sd_cand.specs.declared.candidate.Candidate.{Candidate}

-- the number of the first candidate of each list, where numbers begin with n
abbrev pub firsts_from : ℕ → List (List Candidate) → List ℕ
firsts_from n [] = []
firsts_from n (list ∷ lists) = n ∷ firsts_from (n + length list) lists

-- the places of these candidates of list i, from place k on
abbrev pub places_in : ℕ → ℕ → List Candidate → List (ℕ × ℕ)
places_in i k [] = []
places_in i k (c ∷ cs) = (i, k) ∷ places_in i (suc k) cs

-- for each candidate the place of its list, and its own in it, where lists are counted from i on
abbrev pub places_from : ℕ → List (List Candidate) → List (ℕ × ℕ)
places_from i [] = []
places_from i (list ∷ lists) = places_in i 0 list ++ places_from (suc i) lists

-- The old procedures of these pairs are at ascending places before m.
pub record AreAscending (m : ℕ) (pairs : List Pair) : Type 0 where
  pub within : (i : ℕ) (p : Pair) → slice_get pairs i ≡ Some p → p.old < m
  pub ascending : (i j : ℕ) (p q : Pair) → i < j → slice_get pairs i ≡ Some p → slice_get pairs j ≡ Some q →
      p.old < q.old

-- the entry of each pair's old procedure is the place of the pair
abbrev pub FindsPairs : List (Option ℕ) → List Pair → Type 0
FindsPairs entries pairs = (i : ℕ) (p : Pair) → slice_get pairs i ≡ Some p → get_or entries p.old None ≡ Some i
