use Rattle.std.proofs.Common.{[], ◌∷◌, map, sym, ◌∙◌, subst}
use Rattle.sd_term.specs.declared.node.Head.TheVariants.{Op as Plain}
use Rattle.sd_term.specs.Tree.{tree}
use Rattle.sd_term.specs.Bank.{tree_at}
use Rattle.sd_term.proofs.Numbers.{lacks-at}
use Rattle.sd_kernel.specs.declared.effect.Effect.TheVariants.{Grows}
use Rattle.sd_kernel.specs.Effects.{IsEffectOn}
use Rattle.sd_kernel.proofs.Opened.{terms-is, grow-continues, grow-walk}
use Rattle.sd_kernel.proofs.walk.Walk.grow.Goals as goal

pub put_new-requires-clause-lacks : goal.put_new-requires-clause-lacks
put_new-requires-clause-lacks c = λ i lt e.
    let terms = c.self.inside.terms in
    let here : IsEffectOn terms (Grows c.args.op c.args.first c.args.second) =
    subst (λ ts. IsEffectOn ts (Grows c.args.op c.args.first c.args.second)) (sym (terms-is terms c.self.inside.trail.items c.self.inside.waiting.items c.self.inside.has_open c.args.self.now c.self.view_is)) c.requires.fits in
    lacks-at terms (tree (Plain c.args.op) (tree_at terms c.args.first ∷ tree_at terms c.args.second ∷ [])) here.2 i lt (e ∙ (λ u. tree (c.in_ok-node.ensures.head u) (map (λ n. tree_at terms n) (c.in_ok-node.ensures.parts u))))

pub invariant_of-self-2 : goal.invariant_of-self-2
invariant_of-self-2 c =
    grow-walk c.self.inside.terms c.self.inside.trail.items c.self.inside.waiting.items c.self.invariant c.self.inside.has_open c.args.self.now c.self.view_is
    c.args.op c.args.first c.args.second c.in_ok-node.node c.in_ok-node.ensures.head c.in_ok-node.ensures.parts c.put_new.new.self c.in_ok-put_new.ensures.ok c.requires.fits

pub returns : goal.returns
returns c =
    grow-continues c.self.inside.terms c.self.inside.trail.items c.self.inside.waiting.items c.self.invariant c.self.inside.has_open c.args.self.now c.self.view_is
    c.args.op c.args.first c.args.second c.in_ok-node.node c.in_ok-node.ensures.head c.in_ok-node.ensures.parts c.put_new.new.self c.in_ok-put_new.ensures.ok c.requires.opened
