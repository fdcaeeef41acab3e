use Rattle.std.proofs.Common.{◌≡◌, ◌⊎◌, arith, inl, inr, Some, false, map}
use Rattle.sd_term.specs.Heads.{Ite}
use Rattle.sd_kernel.specs.Known.{known_at}
use Rattle.sd_search.proofs.WaysDown.{open-part, no-value, read-none}
use Rattle.sd_search.proofs.descent.open_part.Goals as goal
use Rattle.sd_search.proofs.descent.open_part.Goals.{then-chooses_the_second, else-chooses_the_second}

pub returns-then-is_none : goal.returns-then-is_none
returns-then-is_none c =
    open-part c.args.terms.now c.args.id c.node-node.result.now c.requires.id c.requires.sorted c.node-node.ensures.tree c.requires.truth c.requires.judged c.node-node.ensures.parts
    c.args.values.now c.as_slice-parts.result.now c.loop-place.place c.index-parts-place.result c.as_slice-parts.ensures (omega arith) c.index-parts-place.is
    (read-none c.args.values.now c.index-parts-place.result c.number.result c.is_none.result c.number.ensures c.is_none.ensures c.if-is_none.true)

pub unreachable-requires : goal.unreachable-requires
unreachable-requires c =
    let where_from : (c.if-chooses_the_second.first ≡ 0) ⊎ ((c.if-chooses_the_second.first ≡ 2) × (c.node-node.result.now.head ≡ Ite) × (known_at (map (λ p. known_at c.args.values.now p) c.as_slice-parts.result.now) 0 ≡ Some false)) =
    elim c.if-chooses_the_second.branch [
      | then-chooses_the_second w ↦ inr (w.first-is, c.chooses_the_second.ensures.choice w.if-chooses_the_second.true, c.chooses_the_second.ensures.condition w.if-chooses_the_second.true)
      | else-chooses_the_second w ↦ inl w.first-is
    ] in
    no-value c.args.terms.now c.args.id c.node-node.result.now c.requires.id c.requires.sorted c.node-node.ensures.tree c.requires.truth c.requires.judged c.node-node.ensures.parts
    c.args.values.now c.as_slice-parts.result.now c.if-chooses_the_second.first c.requires.values c.as_slice-parts.ensures c.requires.unknown where_from
    (λ k from below. c.loop-place.invariant k from (omega (arith, from, below, c.loop-place-test.false)))
