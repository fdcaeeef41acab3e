use Rattle.std.proofs.Common.{◌≡◌, drop, ap, arith}
use Rattle.std.proofs.lemmas.List.{drop_all}
use Rattle.sd_search.specs.Outcome.{closings}
use Rattle.sd_search.proofs.guessed.closes_at_most.Goals as goal

pub returns : goal.returns
returns c =
    let e : closings (drop c.loop-step.step-index c.args.steps.now) ≡ 0 = ap closings (drop_all c.loop-step.step-index c.args.steps.now c.loop-step-test.false) in
    λ _. omega (arith, e, c.loop-step.invariant)
