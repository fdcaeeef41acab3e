use Rattle.std.proofs.Common.{map, ap, ◌∙◌, true}
use Rattle.std.proofs.lemmas.List.{take_all}
use Rattle.sd_kernel.proofs.Opened.{new-walk, new-trail}
use Rattle.sd_kernel.proofs.walk.Walk.new.Goals as goal

pub invariant_of-result : goal.invariant_of-result
invariant_of-result c =
    new-walk c.args.terms c.loop-term.trail.items c.new.result.items c.args.facts.now c.requires.facts c.requires.sorted
    (c.loop-term.invariant ∙ ap (map (λ f. record { term = f; value = true })) (take_all c.loop-term.term-index c.args.facts.now c.loop-term-test.false)) c.new.ensures.items

pub returns : goal.returns
returns c =
    new-trail c.args.terms c.loop-term.trail.items c.new.result.items c.args.facts.now
    (c.loop-term.invariant ∙ ap (map (λ f. record { term = f; value = true })) (take_all c.loop-term.term-index c.args.facts.now c.loop-term-test.false)) c.new.ensures.items
