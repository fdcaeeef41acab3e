use Rattle.std.proofs.Common.{◌≡◌, sym, ◌∙◌, true, false}
use Rattle.sd_kernel.proofs.Refuted.{end-accepted}
use Rattle.sd_kernel.proofs.walk.judge.Goals as goal

pub returns : goal.returns
returns c =
    end-accepted c.loop-step.walk c.loop-step.line c.loop-step.step-index c.args.steps.now (λ n. let e : false ≡ true = sym c.if-is_open.false ∙ c.is_open.ensures.1 n in cc) c.loop-step-test.false
    ∙ c.loop-step.invariant
