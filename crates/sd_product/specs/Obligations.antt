-- What a query is about.
use Rattle.std.specs.Prelude.{◌≡◌, List, length, Option, slice_get}
use Rattle.std.specs.List.{AllByRecursion}
use Rattle.sd_core.specs.Formed.{WellFormed}
use Rattle.sd_term.specs.Tree.{Tree}
use Rattle.sd_vcgen.specs.Numbers.{context_of}
use Rattle.sd_product.specs.Query.{Claimed, Work, Infallibles}
use Rattle.sd_product.specs.Claims.{claims_of, AreTables}
use Rattle.sd_product.specs.Fits.{FitsPair}
use Rattle.sd_product.specs.Sides.{AreSides}
use Rattle.sd_product.specs.declared.sides.Sides.{Sides}
use Rattle.sd_product.specs.declared.facts.Obligation.{Obligation}

-- the two programs with the candidates of all their pairs
abbrev pub work_in : Obligation → Work
work_in q = record { old = q.old.program.now; new = q.new.program.now; claims = claims_of q.claims }

-- their infallible procedures
abbrev pub infallibles_in : Obligation → Infallibles
infallibles_in q = record { old = (context_of q.old).infallible; new = (context_of q.new).infallible }

-- the candidate, with its pair
abbrev pub candidate_in : Obligation → Claimed
candidate_in q = record { pair = q.pair.now; candidate = q.candidate.now }

-- Pairs are found by their tables, and the table of live candidates is of all of them.
pub record HasTables (q : Obligation) : Type 0 where
  pub tables : AreTables q.claims
  pub count : length q.table.now ≡ length (claims_of q.claims)

-- The programs are well formed, and the relations of all candidates are between values of their types.
pub record IsSorted (q : Obligation) : Type 0 where
  pub old : WellFormed q.old.program.now
  pub new : WellFormed q.new.program.now
  pub claims : AllByRecursion (FitsPair (work_in q)) (claims_of q.claims)
  pub own : FitsPair (work_in q) (candidate_in q)

-- the numbers of the bodies of its pair
abbrev pub AreSidesFor : Obligation → List Tree → Option Sides → Type 0
AreSidesFor q bank =
    AreSides (context_of q.old) (context_of q.new) bank (slice_get q.old.program.now.procs q.pair.now.old)
    (slice_get q.new.program.now.procs q.pair.now.new)
