use Rattle.std.proofs.Common.{◌≡◌, ap, ◌∙◌, subst, map, List, Bool, Option, IfOk}
use Rattle.sd_kernel.specs.Known.{known}
use Rattle.sd_kernel.specs.Facts.{trail_of}
use Rattle.sd_kernel.proofs.Opened.{values-front}
use Rattle.sd_kernel.proofs.walk.Walk.values.Goals as goal

pub returns : goal.returns
returns c =
    subst (λ (vs : List (Option Bool)). IfOk c.known_values.result (λ values. values ≡ vs))
    (ap (λ fs. map (λ t. known (trail_of c.self.inside.terms fs) t) c.self.inside.terms) c.deref.ensures.value
    ∙ values-front c.self.inside.terms c.self.inside.trail.items c.self.inside.waiting.items c.self.inside.has_open c.args.self.now c.self.view_is c.requires)
    c.known_values.ensures
