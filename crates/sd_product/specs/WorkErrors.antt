-- What a failed comparison of two programs tells.
use Rattle.std.specs.Prelude.{◌≢◌, Option}
use Rattle.sd_match.specs.Refusals.{Refusal, Answers}
use Rattle.sd_match.specs.declared.refusal.MatchError.{MatchError}
use Rattle.sd_match.specs.declared.refusal.MatchError.TheVariants as refused
use Rattle.sd_product.specs.declared.work.WorkError.{WorkError}
use Rattle.sd_product.specs.declared.work.WorkError.TheVariants.{Match, NoMemory}

-- the error of a call that tells this refusal, unless memory ran out
abbrev pub Tells : WorkError → Option Refusal → Type 0
Tells NoMemory refusal = Unit {0}
Tells (Match e) refusal = (e ≢ refused.NoMemory) × Answers e refusal

-- what is made of an error of the pairs
abbrev pub error_of : MatchError → WorkError
error_of refused.NoMemory = NoMemory
error_of e = Match e
