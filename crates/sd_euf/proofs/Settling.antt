-- what closing answers, from how the rules stand
use Rattle.std.proofs.Common.{◌≡◌, List, [], ◌∷◌, length, sym, subst, Bool, Option, Result, IfOk}
use Rattle.std.proofs.lemmas.List.{length-map}
use Rattle.std.proofs.lemmas.Result.{IfOk-weaker}
use Rattle.sd_kernel.specs.declared.step.Step.{Step}
use Rattle.sd_kernel.specs.declared.step.Step.TheVariants.{Close}
use Rattle.sd_kernel.specs.declared.known.Fact.{Fact as NumberedFact}
use Rattle.sd_term.specs.Tree.{Tree}
use Rattle.sd_kernel.specs.Facts.{fact_of, trail_of}
use Rattle.sd_cube.specs.Spent.{ClosesBranch}
use Rattle.sd_euf.specs.declared.closing.Closed.{Closed}
use Rattle.sd_euf.specs.declared.closing.Closed.TheVariants.{Conflict}
use Rattle.sd_euf.specs.Closed.{IfConflict}
use Rattle.sd_euf.specs.Judged.{HasValues, Breaks}

pub conflict-closes_branch : {E : Type 0} (r : Result Closed E) (terms : List Tree) (facts : List NumberedFact) (values : List (Option Bool)) (step : Step) → HasValues terms (trail_of terms facts) values → Breaks terms values step
    → IfOk r (λ x. x ≡ Conflict (step ∷ Close (length facts) ∷ [])) → IfOk r (λ x. IfConflict x (λ steps. ClosesBranch terms (trail_of terms facts) steps))
conflict-closes_branch r terms facts values step v b h =
    let long : length (trail_of terms facts) ≡ length facts = length-map facts (λ f. fact_of terms f) in
    IfOk-weaker r (λ x. x ≡ Conflict (step ∷ Close (length facts) ∷ [])) (λ x. IfConflict x (λ steps. ClosesBranch terms (trail_of terms facts) steps))
    (λ x e. subst (λ y. IfConflict y (λ steps. ClosesBranch terms (trail_of terms facts) steps)) (sym e)
    (subst (λ n. ClosesBranch terms (trail_of terms facts) (step ∷ Close n ∷ [])) long (b (trail_of terms facts) v))) h
