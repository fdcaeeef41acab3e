use Rattle.std.proofs.Common.{◌∙◌}
use Rattle.sd_run.proofs.ComparedTrees.{and_last, and_first, at_If, at_While}
use Rattle.sd_run.proofs.compared.+stmt.Goals as goal
use Rattle.sd_run.proofs.compared.+stmt.Goals.{is_compared-then-has_no_product, is_compared-else-has_no_product, is_compared-then-has_no_product-2, is_compared-else-has_no_product-2}

pub is_compared-returns-then-are_compared : goal.is_compared-returns-then-are_compared
is_compared-returns-then-are_compared t c =
    at_If _ _ _ c.in-If.is (and_last _ c.if-has_no_product.value _ (elim c.if-has_no_product.branch [
      | is_compared-then-has_no_product w ↦ w.value-is ∙ and_last _ _ _ c.has_no_product-in-If.ensures w.if-has_no_product.true w.are_compared.ensures
      | is_compared-else-has_no_product w ↦ w.value-is ∙ and_first _ _ c.has_no_product-in-If.ensures w.if-has_no_product.false
    ]) c.if-are_compared.true c.are_compared-then-are_compared.ensures)

pub is_compared-returns-else-are_compared : goal.is_compared-returns-else-are_compared
is_compared-returns-else-are_compared t c =
    at_If _ _ _ c.in-If.is (and_first _ c.if-has_no_product.value (elim c.if-has_no_product.branch [
      | is_compared-then-has_no_product w ↦ w.value-is ∙ and_last _ _ _ c.has_no_product-in-If.ensures w.if-has_no_product.true w.are_compared.ensures
      | is_compared-else-has_no_product w ↦ w.value-is ∙ and_first _ _ c.has_no_product-in-If.ensures w.if-has_no_product.false
    ]) c.if-are_compared.false)

pub is_compared-returns-then-are_compared_invariants : goal.is_compared-returns-then-are_compared_invariants
is_compared-returns-then-are_compared_invariants t c =
    at_While _ _ _ c.in-While.is (and_last _ c.if-has_no_product-2.value _ (elim c.if-has_no_product-2.branch [
      | is_compared-then-has_no_product-2 w ↦ w.value-is ∙ and_last _ _ _ c.has_no_product-in-While.ensures w.if-has_no_product-2.true w.are_compared_invariants.ensures
      | is_compared-else-has_no_product-2 w ↦ w.value-is ∙ and_first _ _ c.has_no_product-in-While.ensures w.if-has_no_product-2.false
    ]) c.if-are_compared_invariants.true c.are_compared-then-are_compared_invariants.ensures)
