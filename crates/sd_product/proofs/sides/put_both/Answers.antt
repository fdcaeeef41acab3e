use Rattle.std.proofs.Common.{◌≡◌, ◌∙◌, ℕ, ◌+◌, subst}
use Rattle.sd_vcgen.specs.Body.{count_all}
use Rattle.sd_vcgen.specs.Numbers.{context_of}
use Rattle.sd_product.specs.Query.{side_from, input_count}
use Rattle.sd_product.specs.Sides.{DenotesSide}
use Rattle.sd_product.proofs.SideLemmas.{side_later}
use Rattle.sd_product.proofs.sides.put_both.Goals as goal

pub returns-clause-old : goal.returns-clause-old
returns-clause-old c =
    let one = c.in_ok-old_count.ensures in
    let two = c.in_ok-new_count.ensures in
    let made = subst (λ (k : ℕ). DenotesSide c.put_side.new.bank c.in_ok-old_side.old_side (side_from (context_of c.args.old_context.now) c.args.old.now 0 k)) (λ i. one i + two i) c.in_ok-old_side.ensures.side in
    side_later c.put_side.new.bank c.put_side-2.new.bank c.in_ok-old_side.old_side _ c.in_ok-new_side.ensures.kept made

pub returns-clause-new : goal.returns-clause-new
returns-clause-new c =
    let old = c.args.old_context.now in
    let new = c.args.new_context.now in
    let one = c.in_ok-old_count.ensures in
    let two = c.in_ok-new_count.ensures in
    let calls : c.in_ok-old_side.old_side.body.next ≡ (input_count old.program.now c.args.old.now + input_count new.program.now c.args.new.now) + count_all (context_of old) c.args.old.now.body =
    c.in_ok-old_side.ensures.next ∙ (λ i. (one i + two i) + count_all (context_of old) c.args.old.now.body) in
    subst (DenotesSide c.put_side-2.new.bank c.in_ok-new_side.new_side) (λ i. side_from (context_of new) c.args.new.now (one i) (calls i)) c.in_ok-new_side.ensures.side
