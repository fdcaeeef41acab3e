use Rattle.std.proofs.Common.{refl, true, arith}
use Rattle.sd_kernel.proofs.Opened.{split-continues}
use Rattle.sd_kernel.proofs.walk.Walk.divide.Goals as goal

pub returns : goal.returns
returns c =
    split-continues c.self.inside.terms c.self.inside.trail.items c.self.inside.waiting.items c.self.invariant c.self.inside.has_open c.args.self.now c.self.view_is c.requires.opened
    c.args.term c.push-2.new.self.items c.push.new.self.items (record { term = c.args.term; value = true }) (record { length = c.len-length.result; term = c.args.term })
    c.in_ok-push-2.ensures.items c.in_ok-push.ensures.items refl (omega (arith, c.len-length.ensures)) refl
