use Rattle.std.proofs.Common.{◌≡◌, drop}
use Rattle.sd_run.specs.Compared.{none_has_product}
use Rattle.sd_run.proofs.compared.+expr.Given as goal

abbrev pub invariant-none_has_product-loop-expr : goal.invariant-none_has_product-loop-expr
invariant-none_has_product-loop-expr l = none_has_product l.expr-items ≡ none_has_product (drop l.expr-index l.expr-items)
