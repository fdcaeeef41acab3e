-- the steps from which a step is made
use Rattle.std.proofs.Common.{◌≡◌, ℕ, refl, ap, ◌∙◌, true, ◌==◌}
use borrow.Author.Tests.{eq-eqb}
use Rattle.std.proofs.Math.Bool.{or-true}
use Rattle.sd_linear.specs.declared.step.RowStep.{RowStep}
use Rattle.sd_linear.specs.declared.step.RowStep.TheVariants.{Add, Cut}
use Rattle.sd_linear.specs.RowSteps.{names}

pub names-first : (s : RowStep) (a m b n : ℕ) → s ≡ Add a m b n → names s a ≡ true
names-first s a m b n e = ap (λ (t : RowStep). names t a) e ∙ (let f : (a == a) ≡ true = eq-eqb a a refl in rw f refl)

pub names-second : (s : RowStep) (a m b n : ℕ) → s ≡ Add a m b n → names s b ≡ true
names-second s a m b n e = ap (λ (t : RowStep). names t b) e ∙ (let f : (b == b) ≡ true = eq-eqb b b refl in rw f (or-true (a == b)))

pub names-cut : (s : RowStep) (a : ℕ) → s ≡ Cut a → names s a ≡ true
names-cut s a e = ap (λ (t : RowStep). names t a) e ∙ eq-eqb a a refl
