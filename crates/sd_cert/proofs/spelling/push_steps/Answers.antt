use Rattle.sd_cert.specs.Certificates.{step_lines}
use Rattle.sd_cert.proofs.SpellLemmas.{item-pushed}
use Rattle.sd_cert.proofs.spelling.push_steps.Goals as goal

pub loop-step-preserved : goal.loop-step-preserved
loop-step-preserved c =
    item-pushed step_lines c.args.text.now.items c.loop-step.text.items c.push_step.new.text.items c.args.steps.now c.loop-step.step-index c.step-item.result c.loop-step-test.true c.step-item.is c.loop-step.invariant c.in_ok-push_step.ensures
