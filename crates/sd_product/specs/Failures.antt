-- What a valuation and an open cube of a query tell where both programs are over truth values and call nothing.
use Rattle.std.specs.Prelude.{◌≡◌, Bool, List}
use Rattle.sd_core.specs.Propositional.{IsPropositionalCore}
use Rattle.sd_core.specs.Failure.{NewFailureOf}
use Rattle.sd_term.specs.declared.Cube.{Cube}
use Rattle.sd_term.specs.Truth.{Valuation, MakesTrue}
use Rattle.sd_cube.specs.OpenCube.{IsOpenCube}
use Rattle.sd_cand.specs.declared.candidate.Claim.TheVariants.{Flag}
use Rattle.sd_cand.specs.Candidates.{equal_inputs}
use Rattle.sd_product.specs.Query.{Claimed, Work, Infallibles, query_of}
use Rattle.sd_product.specs.Summaries.{IsWork, IsRootPair}

-- the claim on the flag where all inputs are equal
pub record IsEqualFlagClaim (x : Claimed) : Type 0 where
  pub claim : x.candidate.claim ≡ Flag
  pub when : x.candidate.when ≡ equal_inputs x.pair

-- two programs over truth values that call nothing, and such a claim about two of their procedures
pub record IsPropositionalClaim (w : Work) (z : Infallibles) (x : Claimed) : Type 0 where
  pub work : IsWork w z
  pub old_propositional : IsPropositionalCore w.old
  pub new_propositional : IsPropositionalCore w.new
  pub claim : IsEqualFlagClaim x
  pub roots : IsRootPair w x

-- A valuation that makes the query of such a claim true, under any table, is a failure of the new procedure that the
-- old one lacks.
abbrev pub ValuationsAreFailures : Type 0
ValuationsAreFailures =
    (w : Work) (z : Infallibles) (table : List Bool) (x : Claimed) (v : Valuation) → IsPropositionalClaim w z x →
    MakesTrue v (query_of w z table x) → NewFailureOf w.old w.new x.pair.old x.pair.new

-- So is an open cube of the query.
abbrev pub OpenCubesAreFailures : Type 0
OpenCubesAreFailures =
    (w : Work) (z : Infallibles) (table : List Bool) (x : Claimed) (cube : Cube) → IsPropositionalClaim w z x →
    IsOpenCube (query_of w z table x) cube → NewFailureOf w.old w.new x.pair.old x.pair.new
