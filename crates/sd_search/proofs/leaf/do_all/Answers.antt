use Rattle.std.proofs.Common.{sym, ap, ◌∙◌, subst, [], ◌∷◌, ◌++◌, append_assoc}
use Rattle.sd_search.specs.Reading.{Reads, others, IsClosing}
use Rattle.sd_search.proofs.Steps.{remove-first, closing-continues, closing-more, reads-more}
use Rattle.sd_search.proofs.leaf.do_all.Goals as goal

pub do_step-requires : goal.do_step-requires
do_step-requires c =
    let step = c.remove-step.result in
    let rest = c.remove-step.new.self in
    let first = remove-first c.closing.closing rest step c.remove-step.ensures.item c.remove-step.ensures.rest in
    closing-continues c.args.walk.now.0 (others c.args.walk.now) c.closing.walk step rest (subst (IsClosing c.args.walk.now.0 (others c.args.walk.now) c.closing.walk) first c.closing.invariant.0)

pub closing-preserved : goal.closing-preserved
closing-preserved c =
    let step = c.remove-step.result in
    let rest = c.remove-step.new.self in
    let first = remove-first c.closing.closing rest step c.remove-step.ensures.item c.remove-step.ensures.rest in
    let closes = subst (IsClosing c.args.walk.now.0 (others c.args.walk.now) c.closing.walk) first c.closing.invariant.0 in (
      closing-more c.args.walk.now.0 (others c.args.walk.now) c.closing.walk c.do_step.new.walk step rest closes c.in_ok-do_step.ensures.walk,
      ap (λ l. l ++ rest) c.in_ok-do_step.ensures.steps ∙ append_assoc c.closing.steps (step ∷ []) rest ∙ ap (λ l. c.closing.steps ++ l) (sym first) ∙ c.closing.invariant.1,
      λ s r. subst (λ l. Reads s l c.do_step.new.walk) (sym c.in_ok-do_step.ensures.steps) (reads-more s c.closing.walk c.do_step.new.walk c.closing.steps step (c.closing.invariant.2 s r) c.in_ok-do_step.ensures.walk),
    )
