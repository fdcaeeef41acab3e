-- What a failed comparison tells.
use Rattle.std.proofs.Common.{◌≡◌, sym, subst}
use Rattle.std.specs.Prelude.{Option}
use Rattle.sd_match.specs.Refusals.{Refusal, Answers}
use Rattle.sd_match.specs.declared.refusal.MatchError.{MatchError}
use Rattle.sd_match.specs.declared.refusal.MatchError.TheVariants as refused
use Rattle.sd_product.specs.declared.work.WorkError.{WorkError}
use Rattle.sd_product.specs.declared.work.WorkError.TheVariants.{NoMemory}
use Rattle.sd_product.specs.WorkErrors.{Tells, error_of}

by_cases : (refusal : Option Refusal) (e : MatchError) → Answers e refusal → Tells (error_of e) refusal
by_cases refusal refused.NoMemory h = tt
by_cases refusal (refused.GlobalTypes x) h = (λ bad. cc, h)
by_cases refusal (refused.FunctionSignatures f) h = (λ bad. cc, h)

pub tells : (refusal : Option Refusal) (e : MatchError) (r : WorkError) → r ≡ error_of e → Answers e refusal → Tells r refusal
tells refusal e r is h = subst (λ (x : WorkError). Tells x refusal) (sym is) (by_cases refusal e h)

pub tells_nothing : (refusal : Option Refusal) (r : WorkError) → r ≡ NoMemory → Tells r refusal
tells_nothing refusal r is = subst (λ (x : WorkError). Tells x refusal) (sym is) tt
