-- What two programs give to judge.
use Rattle.std.specs.Prelude.{◌≡◌, ℕ, Bool, List, [], ◌∷◌, ◌++◌, map, Some, slice_get}
use Rattle.sd_core.specs.declared.CoreProgram.{CoreProgram}
use Rattle.sd_core.specs.Formed.{WellFormed}
use Rattle.sd_runs.specs.Infallible.{infallible_of}
use Rattle.sd_term.specs.Tree.{Tree}
use Rattle.sd_match.specs.declared.pair.Pair.{Pair}
use Rattle.sd_match.specs.Pairs.{pairs_of}
use Rattle.sd_cand.specs.declared.candidate.Candidate.{Candidate}
use Rattle.sd_cand.specs.Candidates.{candidates_of}
use Rattle.sd_product.specs.Query.{Claimed, Work, Infallibles, query_of}

pub record PairedPrograms : Type 0 where
  pub old : CoreProgram
  pub new : CoreProgram

-- both are well formed
pub record AreWellFormed (work : PairedPrograms) : Type 0 where
  pub old_formed : WellFormed work.old
  pub new_formed : WellFormed work.new

-- ---- pairs and their candidates

-- the pairs in a work
abbrev pub pairs_in : PairedPrograms → List Pair
pairs_in work = pairs_of work.old work.new

-- the candidates of a pair of a work
abbrev pub candidates_in_pair : PairedPrograms → Pair → List Candidate
candidates_in_pair work pair = candidates_of pair

-- the candidates of each of these pairs
abbrev pub candidate_lists : PairedPrograms → List Pair → List (List Candidate)
candidate_lists work pairs = map (candidates_in_pair work) pairs

-- with their pairs, one pair after another
abbrev pub claims_of : PairedPrograms → List Pair → List Claimed
claims_of work [] = []
claims_of work (pair ∷ pairs) =
    map (λ c. record { pair = pair; candidate = c }) (candidates_in_pair work pair) ++ claims_of work pairs

-- the candidates of all pairs, numbered in order
abbrev pub claims_in : PairedPrograms → List Claimed
claims_in work = claims_of work (pairs_in work)

-- candidate n of all is candidate k of pair i
pub record IsAt (work : PairedPrograms) (n i k : ℕ) : Type 0 where
  pub pair : Pair
  pub candidate : Candidate
  pub pair_is : slice_get (pairs_in work) i ≡ Some pair
  pub candidate_is : slice_get (candidates_in_pair work pair) k ≡ Some candidate
  pub claim_is : slice_get (claims_in work) n ≡ Some (record { pair = pair; candidate = candidate })

-- ---- queries

abbrev pub work_of : PairedPrograms → Work
work_of work = record { old = work.old; new = work.new; claims = claims_in work }

abbrev pub infallibles_in : PairedPrograms → Infallibles
infallibles_in work = record { old = infallible_of work.old.procs; new = infallible_of work.new.procs }

-- the queries of all candidates under a table of live ones
abbrev pub queries_of : PairedPrograms → List Bool → List (List Tree)
queries_of work table = map (query_of (work_of work) (infallibles_in work) table) (claims_in work)
