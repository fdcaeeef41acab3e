-- What holds while candidates are judged.
use Rattle.std.specs.Prelude.{◌≡◌, ℕ, ◌+◌, ◌<◌, Bool, true, List, [], ◌++◌, Some, length, replicate, slice_get, take}
use Rattle.std.specs.List.{AllByRecursion, flat_map}
use Rattle.sd_term.specs.Tree.{Tree}
use Rattle.sd_kernel.specs.declared.proved.How.TheVariants.{Steps}
use Rattle.sd_kernel.specs.declared.proved.Proved.{Proved}
use Rattle.sd_search.specs.declared.search.Outcome.{Outcome}
use Rattle.sd_search.specs.declared.search.Outcome.TheVariants.{Refuted, Open as OpenQuery, Spent as SpentQuery}
use Rattle.sd_rounds.specs.declared.settle.Finding.{Finding}
use Rattle.sd_rounds.specs.declared.settle.Finding.TheVariants.{Proved as IsProof, Dropped}
use Rattle.sd_rounds.specs.declared.settle.Cause.{Cause}
use Rattle.sd_rounds.specs.declared.settle.Cause.TheVariants.{Open, Spent}
use Rattle.sd_product.specs.Work.{PairedPrograms, claims_in, queries_of}
use Rattle.sd_rounds.specs.declared.settle.Death.{Death}
use Rattle.sd_rounds.specs.Table.{live_from, cleared}
use Rattle.sd_rounds.specs.Settled.{dead_of, IsCause, AreLegal, IsProved, AreProved, Ascend, table_after, IsProvedIn, IsSweep, Lead}

-- The query of candidate n isn't refuted, for this cause.
pub record IsCauseAt (leaves : ℕ) (queries : List (List Tree)) (n : ℕ) (cause : Cause) : Type 0 where
  pub facts : List Tree
  pub query : slice_get queries n ≡ Some facts
  pub is_cause : IsCause leaves facts cause

-- what a search with so many leaves tells
abbrev pub finding_of : ℕ → Outcome → Finding
finding_of leaves (Refuted proof) = IsProof proof
finding_of leaves (OpenQuery cube) = Dropped (Open cube)
finding_of leaves (SpentQuery cubes) = Dropped (Spent leaves)

-- a proof of the query of candidate n, or a cause why there is none
abbrev pub IsFinding : ℕ → List (List Tree) → ℕ → Finding → Type 0
IsFinding leaves queries n (IsProof proof) = IsProved queries (record { candidate = n; how = Steps proof })
IsFinding leaves queries n (Dropped cause) = IsCauseAt leaves queries n cause

-- The table is the full one less the candidates of the deaths, which are legal, and each candidate is live or died
-- once.
pub record AreDead (leaves : ℕ) (work : PairedPrograms) (table : List Bool) (deaths : List Death) : Type 0 where
  pub size : length table ≡ length (claims_in work)
  pub table_is : table ≡ cleared (replicate (length (claims_in work)) true) (dead_of deaths)
  pub legal : AreLegal leaves work [] deaths
  pub counted : length deaths + length (live_from 0 table) ≡ length (claims_in work)

-- each live candidate below n has a proof of its query under this table
abbrev pub AreProvedBelow : PairedPrograms → ℕ → List Bool → List Proved → Type 0
AreProvedBelow work n table proofs = AreProved (queries_of work table) (take n table) proofs

-- No candidate from n on and before m died, and the proofs of those below n are now those of those below m.
pub record GoesOn (work : PairedPrograms) (n m : ℕ) (table table' : List Bool) (deaths deaths' : List Death)
    (proofs proofs' : List Proved) : Type 0 where
  pub table_stays : table' ≡ table
  pub deaths_stay : deaths' ≡ deaths
  pub proved : AreProvedBelow work n table proofs → AreProvedBelow work m table proofs'

-- ---- a sweep that goes on

-- A sweep began with one table, judged the candidates below n, and has led to another one: each of those that is live
-- was proved in it.
pub record IsSweptTo (work : PairedPrograms) (start : List Bool) (n : ℕ) (deaths : List Death) (table : List Bool)
    : Type 0 where
  pub table_is : table ≡ table_after start deaths
  pub below : AllByRecursion (λ d. d.candidate < n) deaths
  pub ascend : Ascend (dead_of deaths)
  pub proved : (c : ℕ) → c < n → slice_get table c ≡ Some true → IsProvedIn work start deaths c

-- a sweep that has judged the candidates below n goes on to those below m, of which these died
pub record SweepsOn (work : PairedPrograms) (n m : ℕ) (table table' : List Bool) (deaths deaths' : List Death)
    : Type 0 where
  pub more : List Death
  pub added : deaths' ≡ deaths ++ more
  pub goes : (start : List Bool) (before : List Death) → IsSweptTo work start n before table
      → IsSweptTo work start m (before ++ more) table'

-- a whole sweep from one table to another
pub record IsWholeSweep (work : PairedPrograms) (table table' : List Bool) (deaths deaths' : List Death) : Type 0 where
  pub more : List Death
  pub added : deaths' ≡ deaths ++ more
  pub sweep : IsSweep work table more
  pub table_is : table' ≡ table_after table more

-- so many sweeps are over or under way, and those that are over led from the full table to this one
pub record HaveLed (work : PairedPrograms) (number : ℕ) (deaths : List Death) (table : List Bool) : Type 0 where
  pub dropping : List (List Death)
  pub all : flat_map (λ deaths. deaths) dropping ≡ deaths
  pub number_is : number ≡ length dropping + 1
  pub lead : Lead work (replicate (length (claims_in work)) true) dropping table
