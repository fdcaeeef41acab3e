use Rattle.std.proofs.Common.{sym, ◌∙◌}
use Rattle.sd_types.proofs.ScopeLemmas.{not_as_many, have_sorts-step, have_sorts-stop}
use Rattle.sd_types.proofs.declaration.have_sorts.Goals as goal

pub returns-then-len : goal.returns-then-len
returns-then-len c = not_as_many c.args.sorts.now c.args.vars.now (λ e. c.if-len.true (c.len.ensures ∙ e ∙ sym c.len-2.ensures))

pub returns-then-not-is_same_sort : goal.returns-then-not-is_same_sort
returns-then-not-is_same_sort c =
    have_sorts-stop c.args.sorts.now c.args.vars.now c.loop-i.i c.index-as_slice-i.result c.var-item.result c.is_same_sort.result c.is_same_sort.ensures
    (sym c.len.ensures ∙ c.if-len.false ∙ c.len-2.ensures) (rw c.as_slice-var-items.ensures at c.loop-i-test.true) (rw c.as_slice-var-items.ensures at c.var-item.is)
    (rw c.as_slice.ensures at c.index-as_slice-i.is) c.loop-i.invariant c.if-not-is_same_sort.true

pub loop-i-preserved : goal.loop-i-preserved
loop-i-preserved c =
    have_sorts-step c.args.sorts.now c.args.vars.now c.loop-i.i c.index-as_slice-i.result c.var-item.result c.is_same_sort.result c.is_same_sort.ensures
    (sym c.len.ensures ∙ c.if-len.false ∙ c.len-2.ensures) (rw c.as_slice-var-items.ensures at c.loop-i-test.true) (rw c.as_slice-var-items.ensures at c.var-item.is)
    (rw c.as_slice.ensures at c.index-as_slice-i.is) c.loop-i.invariant c.if-not-is_same_sort.false
