-- What a judged candidate that claims the flag tells of its two procedures.
use Rattle.std.specs.Prelude.{◌≡◌, ℕ, Bool, true, List, Some, None, slice_get}
use Rattle.sd_core.specs.declared.CoreProc.{CoreProc}
use Rattle.sd_core.specs.Propositional.{IsPropositionalCore}
use Rattle.sd_core.specs.Failure.{NewFailureOf}
use Rattle.sd_term.specs.Tree.{Tree}
use Rattle.sd_term.specs.declared.Cube.{Cube}
use Rattle.sd_cube.specs.OpenCube.{IsOpenCube}
use Rattle.sd_kernel.specs.declared.proved.Proved.{Proved}
use Rattle.sd_cand.specs.declared.candidate.Claim.TheVariants.{Flag}
use Rattle.sd_cand.specs.Candidates.{equal_inputs}
use Rattle.sd_product.specs.Query.{Claimed}
use Rattle.sd_product.specs.Work.{PairedPrograms, AreWellFormed, claims_in, queries_of}
use Rattle.sd_product.specs.Inductive.{IsInductive}

-- candidate n of all claims the flag of a pair of procedures
pub record IsFlagAt (work : PairedPrograms) (n : ℕ) (x : Claimed) : Type 0 where
  pub at : slice_get (claims_in work) n ≡ Some x
  pub flag : x.candidate.claim ≡ Flag
  pub old : CoreProc
  pub found : slice_get work.old.procs x.pair.old ≡ Some old
  pub root : old.parent ≡ None

-- Where such a candidate is live in a table that stands on proofs, the new procedure has no failure that the old one
-- lacks.
abbrev pub LiveFlagsAreSafe : Type 0
LiveFlagsAreSafe =
    (work : PairedPrograms) (table : List Bool) (proofs : List Proved) (n : ℕ) (x : Claimed) →
    AreWellFormed work → IsInductive work table proofs →
    IsFlagAt work n x → slice_get table n ≡ Some true → NewFailureOf work.old work.new x.pair.old x.pair.new → ⊥

-- Where both programs are over truth values and call nothing, and the query of such a candidate that asks for equal
-- inputs has an open cube under some table, it has one.
abbrev pub OpenFlagsAreFailures : Type 0
OpenFlagsAreFailures =
    (work : PairedPrograms) (seen : List Bool) (n : ℕ) (x : Claimed) (facts : List Tree) (cube : Cube) →
    AreWellFormed work → IsPropositionalCore work.old → IsPropositionalCore work.new →
    IsFlagAt work n x → x.candidate.when ≡ equal_inputs x.pair → slice_get (queries_of work seen) n ≡ Some facts →
    IsOpenCube facts cube →
    NewFailureOf work.old work.new x.pair.old x.pair.new
