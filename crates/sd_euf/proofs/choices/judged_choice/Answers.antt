use Rattle.std.proofs.Common.{get_or, None, Some, subst, sym, ap, ◌∙◌}
use Rattle.sd_euf.specs.Judged.{Asks, Breaks}
use Rattle.sd_euf.proofs.ChoiceLemmas.{choice-absent, choice-unknown, choice-true, choice-false}
use Rattle.sd_euf.proofs.choices.judged_choice.Goals as goal

pub returns-in-Absent : goal.returns-in-Absent
returns-in-Absent c =
    subst (Asks c.args.terms.now c.args.values.now) (sym c.eq_step.ensures) (choice-absent c.args.terms.now c.args.values.now c.args.id c.in-Some.choice c.in-Some-values.value c.chosen-part.result
    (record {
      below = c.requires.id;
      sorted = c.requires.sorted;
      parts = c.in-Some.ensures.some;
      condition = ap (λ n. get_or c.args.values.now n None) (sym c.number.ensures) ∙ c.in-Some-values.is;
      chosen = c.chosen-part.ensures;
    })
    c.in-Absent.ensures)

pub returns-in-Unknown : goal.returns-in-Unknown
returns-in-Unknown c =
    choice-unknown c.args.terms.now c.args.values.now c.args.id c.in-Some.choice c.in-Some-values.value c.chosen-part.result
    (record {
      below = c.requires.id;
      sorted = c.requires.sorted;
      parts = c.in-Some.ensures.some;
      condition = ap (λ n. get_or c.args.values.now n None) (sym c.number.ensures) ∙ c.in-Some-values.is;
      chosen = c.chosen-part.ensures;
    })
    c.in-Unknown.eq c.in-Unknown.ensures.0 c.in-Unknown.ensures.1 c.in-Unknown.ensures.2

pub returns-then-holds : goal.returns-then-holds
returns-then-holds c =
    choice-true c.args.terms.now c.args.values.now c.args.id c.in-Some.choice c.in-Some-values.value c.chosen-part.result
    (record {
      below = c.requires.id;
      sorted = c.requires.sorted;
      parts = c.in-Some.ensures.some;
      condition = ap (λ n. get_or c.args.values.now n None) (sym c.number.ensures) ∙ c.in-Some-values.is;
      chosen = c.chosen-part.ensures;
    })
    c.in-Known.eq c.in-Known.ensures.0 c.in-Known.ensures.1 (c.in-Known.ensures.2 ∙ ap Some c.if-holds.true)

pub returns-else-holds : goal.returns-else-holds
returns-else-holds c =
    subst (Breaks c.args.terms.now c.args.values.now) (sym c.ite_step.ensures) (choice-false c.args.terms.now c.args.values.now c.args.id c.in-Some.choice c.in-Some-values.value c.chosen-part.result
    (record {
      below = c.requires.id;
      sorted = c.requires.sorted;
      parts = c.in-Some.ensures.some;
      condition = ap (λ n. get_or c.args.values.now n None) (sym c.number.ensures) ∙ c.in-Some-values.is;
      chosen = c.chosen-part.ensures;
    })
    c.in-Known.eq c.in-Known.ensures.0 c.in-Known.ensures.1 (c.in-Known.ensures.2 ∙ ap Some c.if-holds.false))
