-- What a settled table is: each candidate that isn't live died lawfully, and each live one is proved under this same
-- table.
use Rattle.std.specs.Prelude.{◌≡◌, ℕ, ◌+◌, ◌<◌, ◌≤◌, Bool, true, List, [], ◌∷◌, ◌++◌, Some, map, length, replicate, slice_get, Contains}
use Rattle.std.specs.List.{AllByRecursion, flat_map}
use Rattle.sd_term.specs.Tree.{Tree}
use Rattle.sd_cand.specs.Words.{words_of}
use Rattle.sd_term.specs.declared.cube.Cube.{Cube}
use Rattle.sd_cube.specs.OpenCube.{IsOpenCube}
use Rattle.sd_cube.specs.Spent.{IsSpent}
use Rattle.sd_kernel.specs.Proof.{Proves}
use Rattle.sd_kernel.specs.declared.Proof.{Proof}
use Rattle.sd_kernel.specs.declared.proved.Proved.{Proved}
use Rattle.sd_product.specs.Work.{PairedPrograms, claims_in, queries_of}
use Rattle.sd_rounds.specs.declared.settle.Cause.{Cause}
use Rattle.sd_rounds.specs.declared.settle.Cause.TheVariants.{Open, Spent}
use Rattle.sd_rounds.specs.declared.settle.Death.{Death}
pub use Rattle.sd_product.specs.Inductive.{proved_of, IsHow, IsProved, AreProved, IsInductive}
use Rattle.sd_rounds.specs.Table.{cleared, HoldsAllBut}

-- the candidates of deaths
abbrev pub dead_of : List Death → List ℕ
dead_of = map (λ d. d.candidate)

-- why the candidate with this query could die: it is open, or a search that may close so many cubes was spent
abbrev pub IsCause : ℕ → List Tree → Cause → Type 0
IsCause leaves facts (Open cube) = IsOpenCube facts cube
IsCause leaves facts (Spent n) = (n ≡ leaves) × ((cubes : List Cube) × IsSpent facts cubes leaves)

-- The candidate did not die before, and under the table that was seen its query isn't refuted. That table held all
-- that had not died.
pub record IsLegalDeath (leaves : ℕ) (work : PairedPrograms) (before : List ℕ) (d : Death) : Type 0 where
  pub seen : List Bool
  pub words : d.seen.items ≡ words_of seen
  pub held : HoldsAllBut (length (claims_in work)) before seen
  pub facts : List Tree
  pub query : slice_get (queries_of work seen) d.candidate ≡ Some facts
  pub once : Contains before d.candidate → ⊥
  pub cause : IsCause leaves facts d.cause

-- deaths in order, of which the first comes after these
abbrev pub AreLegal : ℕ → PairedPrograms → List ℕ → List Death → Type 0
AreLegal leaves work before [] = Unit {0}
AreLegal leaves work before (d ∷ ds) =
    IsLegalDeath leaves work before d × AreLegal leaves work (before ++ d.candidate ∷ []) ds

-- The table is the full one less the candidates of the deaths, which are legal, and each live candidate has a proof
-- of its query under this table.
pub record IsSettled (leaves : ℕ) (work : PairedPrograms) (table : List Bool) (deaths : List Death)
    (proofs : List Proved) : Type 0 where
  pub size : length table ≡ length (claims_in work)
  pub table_is : table ≡ cleared (replicate (length (claims_in work)) true) (dead_of deaths)
  pub legal : AreLegal leaves work [] deaths
  pub inductive : IsInductive work table proofs

-- how many sweeps there can be with so many deaths, where the last one drops nothing and each other one drops something
pub record AreSweeps (sweeps deaths : ℕ) : Type 0 where
  pub some : 1 ≤ sweeps
  pub few : sweeps ≤ deaths + 1
  -- a sweep that drops something isn't the last
  pub more : 1 ≤ deaths → 2 ≤ sweeps

-- ---- the sweeps, one after another

-- each number is greater than those before it
abbrev pub Ascend : List ℕ → Type 0
Ascend [] = Unit {0}
Ascend (c ∷ cs) = AllByRecursion (λ d. c < d) cs × Ascend cs

-- the table after the deaths of a sweep that began with this one
abbrev pub table_after : List Bool → List Death → List Bool
table_after table deaths = cleared table (dead_of deaths)

-- the query of candidate n under this table has a proof
pub record HasProof (work : PairedPrograms) (table : List Bool) (n : ℕ) : Type 0 where
  pub facts : List Tree
  pub query : slice_get (queries_of work table) n ≡ Some facts
  pub proof : Proof
  pub proves : Proves facts proof.steps

-- Candidate n was proved in a sweep that began with this table and had these deaths: under the table that the deaths
-- of the candidates before it had left.
pub record IsProvedIn (work : PairedPrograms) (table : List Bool) (deaths : List Death) (n : ℕ) : Type 0 where
  pub earlier : List Death
  pub later : List Death
  pub all : earlier ++ later ≡ deaths
  pub before : AllByRecursion (λ d. d.candidate < n) earlier
  pub after : AllByRecursion (λ d. n < d.candidate) later
  pub proof : HasProof work (table_after table earlier) n

-- A sweep judged the candidates in ascending order, and each one that it left live was proved in it.
pub record IsSweep (work : PairedPrograms) (table : List Bool) (deaths : List Death) : Type 0 where
  pub ascend : Ascend (dead_of deaths)
  pub proved : (n : ℕ) → slice_get (table_after table deaths) n ≡ Some true → IsProvedIn work table deaths n

-- Sweeps lead from one table to another: each begins with the table that the one before left, and drops a candidate.
abbrev pub Lead : PairedPrograms → List Bool → List (List Death) → List Bool → Type 0
Lead work table [] end = table ≡ end
Lead work table (deaths ∷ sweeps) end =
    IsSweep work table deaths × (1 ≤ length deaths) × Lead work (table_after table deaths) sweeps end

-- The deaths are those of so many sweeps from the full table on to this one, the last of which dropped nothing.
pub record AreAllSweeps (work : PairedPrograms) (number : ℕ) (deaths : List Death) (table : List Bool) : Type 0 where
  pub dropping : List (List Death)
  pub all : flat_map (λ deaths. deaths) dropping ≡ deaths
  pub number_is : number ≡ length dropping + 1
  pub lead : Lead work (replicate (length (claims_in work)) true) dropping table
  pub last : IsSweep work table []
