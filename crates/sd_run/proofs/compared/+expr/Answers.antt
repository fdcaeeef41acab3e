use Rattle.std.proofs.Common.{◌∙◌}
use Rattle.sd_run.proofs.ComparedTrees.{and_last, and_first, at_Apply, at_Old, at_Unary, at_Binary, at_Select, at_Store}
use Rattle.sd_run.proofs.compared.+expr.Goals as goal
use Rattle.sd_run.proofs.compared.+expr.Goals.{has_no_product-then-is_no_product, has_no_product-else-is_no_product, has_no_product-then-child_has_no_product-3, has_no_product-else-child_has_no_product-3}

pub has_no_product-returns-in-Apply : goal.has_no_product-returns-in-Apply
has_no_product-returns-in-Apply t c = at_Apply _ _ c.in-Apply.is c.none_has_product.ensures

pub has_no_product-returns-in-Old : goal.has_no_product-returns-in-Old
has_no_product-returns-in-Old t c = at_Old _ c.in-Old.is c.child_has_no_product.ensures

pub has_no_product-returns-in-Unary : goal.has_no_product-returns-in-Unary
has_no_product-returns-in-Unary t c = at_Unary _ _ c.in-Unary.is c.child_has_no_product-in-Unary.ensures

pub has_no_product-returns-then-child_has_no_product :
    goal.has_no_product-returns-then-child_has_no_product
has_no_product-returns-then-child_has_no_product t c =
    at_Binary _ _ _ c.in-Binary.is (and_last _ c.if-is_no_product.value _ (elim c.if-is_no_product.branch [
      | has_no_product-then-is_no_product w ↦ w.value-is ∙ and_last _ _ _ c.is_no_product.ensures w.if-is_no_product.true w.child_has_no_product-then-is_no_product.ensures
      | has_no_product-else-is_no_product w ↦ w.value-is ∙ and_first _ _ c.is_no_product.ensures w.if-is_no_product.false
    ]) c.if-child_has_no_product.true c.child_has_no_product-then-child_has_no_product.ensures)

pub has_no_product-returns-else-child_has_no_product :
    goal.has_no_product-returns-else-child_has_no_product
has_no_product-returns-else-child_has_no_product t c =
    at_Binary _ _ _ c.in-Binary.is (and_first _ c.if-is_no_product.value (elim c.if-is_no_product.branch [
      | has_no_product-then-is_no_product w ↦ w.value-is ∙ and_last _ _ _ c.is_no_product.ensures w.if-is_no_product.true w.child_has_no_product-then-is_no_product.ensures
      | has_no_product-else-is_no_product w ↦ w.value-is ∙ and_first _ _ c.is_no_product.ensures w.if-is_no_product.false
    ]) c.if-child_has_no_product.false)

pub has_no_product-returns-then-child_has_no_product-2 :
    goal.has_no_product-returns-then-child_has_no_product-2
has_no_product-returns-then-child_has_no_product-2 t c =
    at_Select _ _ c.in-Select.is (and_last _ _ _ c.child_has_no_product-in-Select.ensures c.if-child_has_no_product-2.true c.child_has_no_product-then-child_has_no_product-2.ensures)

pub has_no_product-returns-else-child_has_no_product-2 :
    goal.has_no_product-returns-else-child_has_no_product-2
has_no_product-returns-else-child_has_no_product-2 t c =
    at_Select _ _ c.in-Select.is (and_first _ _ c.child_has_no_product-in-Select.ensures c.if-child_has_no_product-2.false)

pub has_no_product-returns-then-child_has_no_product-4 :
    goal.has_no_product-returns-then-child_has_no_product-4
has_no_product-returns-then-child_has_no_product-4 t c =
    at_Store _ _ _ c.in-Store.is (and_last _ c.if-child_has_no_product-3.value _ (elim c.if-child_has_no_product-3.branch [
      | has_no_product-then-child_has_no_product-3 w ↦ w.value-is ∙ and_last _ _ _ c.child_has_no_product-in-Store.ensures w.if-child_has_no_product-3.true w.child_has_no_product-then-child_has_no_product-3.ensures
      | has_no_product-else-child_has_no_product-3 w ↦ w.value-is ∙ and_first _ _ c.child_has_no_product-in-Store.ensures w.if-child_has_no_product-3.false
    ]) c.if-child_has_no_product-4.true c.child_has_no_product-then-child_has_no_product-4.ensures)

pub has_no_product-returns-else-child_has_no_product-4 :
    goal.has_no_product-returns-else-child_has_no_product-4
has_no_product-returns-else-child_has_no_product-4 t c =
    at_Store _ _ _ c.in-Store.is (and_first _ c.if-child_has_no_product-3.value (elim c.if-child_has_no_product-3.branch [
      | has_no_product-then-child_has_no_product-3 w ↦ w.value-is ∙ and_last _ _ _ c.child_has_no_product-in-Store.ensures w.if-child_has_no_product-3.true w.child_has_no_product-then-child_has_no_product-3.ensures
      | has_no_product-else-child_has_no_product-3 w ↦ w.value-is ∙ and_first _ _ c.child_has_no_product-in-Store.ensures w.if-child_has_no_product-3.false
    ]) c.if-child_has_no_product-4.false)
