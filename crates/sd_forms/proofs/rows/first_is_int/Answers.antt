use Rattle.std.proofs.Common.{◌∙◌, ap, sym}
use Rattle.sd_term.specs.Bank.{tree_at}
use Rattle.sd_term.specs.Sorts.{sort_of}
use Rattle.sd_forms.specs.FactRows.{is_int_sort}
use Rattle.sd_forms.proofs.TwoParts.{part_at-some, part_at-none, other-sort}
use Rattle.sd_forms.proofs.rows.first_is_int.Goals as goal

pub returns-in-Int : goal.returns-in-Int
returns-in-Int c =
    ap is_int_sort (sym c.in-Int.is)
    ∙ ap is_int_sort c.sort.ensures
    ∙ ap (λ t. is_int_sort (sort_of t)) (sym (part_at-some c.args.terms.now c.node.result.now (tree_at c.args.terms.now c.args.id) 0 c.in-Some.part.now c.node.ensures.tree (sym c.in-Some.ensures.value)))

pub returns-in_default : goal.returns-in_default
returns-in_default c =
    other-sort c.sort.result.now c.in_default.not-Int
    ∙ ap is_int_sort c.sort.ensures
    ∙ ap (λ t. is_int_sort (sort_of t)) (sym (part_at-some c.args.terms.now c.node.result.now (tree_at c.args.terms.now c.args.id) 0 c.in-Some.part.now c.node.ensures.tree (sym c.in-Some.ensures.value)))

pub returns-in-None : goal.returns-in-None
returns-in-None c = ap (λ t. is_int_sort (sort_of t)) (sym (part_at-none c.args.terms.now c.node.result.now (tree_at c.args.terms.now c.args.id) 0 c.node.ensures.tree (sym c.in-None.ensures.value)))
