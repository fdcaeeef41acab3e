use Rattle.std.proofs.Common.{refl}
use Rattle.sd_kernel.proofs.Opened.{add-continues, add-walk}
use Rattle.sd_kernel.proofs.walk.Walk.add.Goals as goal

pub invariant_of-self-2 : goal.invariant_of-self-2
invariant_of-self-2 c =
    add-walk c.self.inside.terms c.self.inside.trail.items c.self.inside.waiting.items c.self.invariant c.self.inside.has_open c.args.self.now c.self.view_is c.requires.opened
    c.push.new.self.items (record { term = c.args.term; value = c.args.value }) c.in_ok-push.ensures.items c.requires.fits

pub returns : goal.returns
returns c =
    add-continues c.self.inside.terms c.self.inside.trail.items c.self.inside.waiting.items c.self.invariant c.self.inside.has_open c.args.self.now c.self.view_is c.requires.opened
    c.args.term c.args.value c.push.new.self.items (record { term = c.args.term; value = c.args.value }) c.in_ok-push.ensures.items refl
