use Rattle.std.proofs.Common.{sym, ap, ◌∙◌}
use Rattle.std.specs.Option.{option_copied}
use Rattle.sd_cert.specs.Fields.{after_front}
use Rattle.sd_cert.specs.Keywords.{keywords}
use Rattle.sd_cert.proofs.LineLemmas.{keyword-step, keyword-found}
use Rattle.sd_cert.proofs.keyword.keyword_of.Goals as goal

pub loop-keyword-preserved : goal.loop-keyword-preserved
loop-keyword-preserved c =
    keyword-step keywords c.args.text.now c.loop-keyword.keyword-index _ _ c.loop-keyword-test.true
    (ap (λ f. after_front f c.args.text.now) (sym c.front.ensures) ∙ sym c.after.ensures ∙ ap option_copied c.in_default.is) c.loop-keyword.invariant

pub returns-in-Some : goal.returns-in-Some
returns-in-Some c =
    keyword-found keywords c.args.text.now c.in-Some.fields.now c.loop-keyword.keyword-index _ _ c.loop-keyword-test.true
    (ap (λ f. after_front f c.args.text.now) (sym c.front.ensures) ∙ sym c.after.ensures ∙ ap option_copied c.in-Some.is) c.loop-keyword.invariant
