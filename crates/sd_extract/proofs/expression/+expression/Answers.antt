use Rattle.std.proofs.Common.{◌≡◌, subst, IfOk}
use Rattle.sd_core.specs.declared.CoreExpr.{CoreExpr}
use Rattle.sd_extract.specs.Scopes.{names_in}
use Rattle.sd_extract.proofs.CodeExpressions.{core-Apply, core-Old, core-Unary, core-Binary, core-Select, core-Store}
use Rattle.sd_extract.proofs.expression.+expression.Goals as goal

pub expression-returns-in_ok-expressions-in-Apply :
    goal.expression-returns-in_ok-expressions-in-Apply
expression-returns-in_ok-expressions-in-Apply t c =
    core-Apply (names_in c.args.scope.now) c.args.e.now c.in-Apply.f _ c.in-Apply.args _ _ c.in-Apply.is c.in_ok-clone_of-in-Apply.ensures c.as_slice.ensures c.in_ok-expressions-in-Apply.ensures

pub expression-returns-in-Old : goal.expression-returns-in-Old
expression-returns-in-Old t c =
    subst (λ (u : CoreExpr). IfOk c.expression.result (λ core. core ≡ u)) (core-Old (names_in c.args.scope.now) c.args.e.now c.in-Old.a c.get.result.now c.in-Old.is c.get.ensures) c.expression.ensures

pub expression-returns-in_ok-a-in-Unary : goal.expression-returns-in_ok-a-in-Unary
expression-returns-in_ok-a-in-Unary t c =
    subst (λ (u : CoreExpr). IfOk c.unary.result (λ core. core ≡ u))
    (core-Unary (names_in c.args.scope.now) c.args.e.now c.in-Unary.op c.in-Unary.a c.get-in-Unary.result.now _ c.in-Unary.is c.get-in-Unary.ensures c.in_ok-a-in-Unary.ensures)
    c.unary.ensures

pub expression-returns-in_ok-b-in-Binary : goal.expression-returns-in_ok-b-in-Binary
expression-returns-in_ok-b-in-Binary t c =
    subst (λ (u : CoreExpr). IfOk c.binary.result (λ core. core ≡ u))
    (core-Binary (names_in c.args.scope.now) c.args.e.now c.in-Binary.op c.in-Binary.a c.in-Binary.b c.get-in-Binary.result.now c.get-in-Binary-2.result.now _ _ c.in-Binary.is c.get-in-Binary.ensures c.get-in-Binary-2.ensures
    c.in_ok-a-in-Binary.ensures c.in_ok-b-in-Binary.ensures)
    c.binary.ensures

pub expression-returns-in_ok-i-in-Select : goal.expression-returns-in_ok-i-in-Select
expression-returns-in_ok-i-in-Select t c =
    subst (λ (u : CoreExpr). IfOk c.two.result (λ core. core ≡ u))
    (core-Select (names_in c.args.scope.now) c.args.e.now c.in-Select.m c.in-Select.i c.get-in-Select.result.now c.get-in-Select-2.result.now _ _ c.in-Select.is c.get-in-Select.ensures c.get-in-Select-2.ensures
    c.in_ok-m-in-Select.ensures c.in_ok-i-in-Select.ensures)
    c.two.ensures

pub expression-returns-in_ok-v-in-Store : goal.expression-returns-in_ok-v-in-Store
expression-returns-in_ok-v-in-Store t c =
    subst (λ (u : CoreExpr). IfOk c.three.result (λ core. core ≡ u))
    (core-Store (names_in c.args.scope.now) c.args.e.now c.in-Store.m c.in-Store.i c.in-Store.v c.get-in-Store.result.now c.get-in-Store-2.result.now c.get-in-Store-3.result.now _ _ _ c.in-Store.is c.get-in-Store.ensures c.get-in-Store-2.ensures
    c.get-in-Store-3.ensures c.in_ok-m-in-Store.ensures c.in_ok-i-in-Store.ensures c.in_ok-v-in-Store.ensures)
    c.three.ensures
