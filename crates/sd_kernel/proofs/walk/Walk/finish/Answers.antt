use Rattle.std.proofs.Common.{refl, false}
use Rattle.sd_kernel.proofs.Opened.{close-more, close-walk}
use Rattle.sd_kernel.proofs.walk.Walk.finish.Goals as goal

pub invariant_of-self-2 : goal.invariant_of-self-2
invariant_of-self-2 c =
    close-walk c.self.inside.terms c.self.inside.trail.items c.self.inside.waiting.items c.self.invariant c.push.new.self.items c.truncate.new.self.items c.pop.new.self.items c.in-Some.second
    (record { term = c.in-Some.second.term; value = false }) c.in-Some.ensures.items c.truncate.ensures.items c.in_ok-push.ensures.items refl

pub returns : goal.returns
returns c =
    close-more c.self.inside.terms c.self.inside.trail.items c.self.inside.waiting.items c.self.invariant c.self.inside.has_open c.args.self.now c.self.view_is c.requires
    c.push.new.self.items c.truncate.new.self.items c.pop.new.self.items c.in-Some.second
    (record { term = c.in-Some.second.term; value = false }) c.in-Some.ensures.items c.truncate.ensures.items c.in_ok-push.ensures.items refl
