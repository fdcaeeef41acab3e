use Rattle.sd_ast.proofs.TreeLemmas.{old_is, unary_is, binary_is, select_is, store_is}
use Rattle.sd_types.specs.Answer.{and_then}
use Rattle.sd_types.specs.Scopes.{context}
use Rattle.sd_types.specs.Phrases.{sort_of, unary_sort, binary_sort, selected, stored, at_place}
use Rattle.sd_types.proofs.AnswerLemmas.{goes_on, next, exact}
use Rattle.sd_types.proofs.GivenLemmas.{sort_of-Apply, next_given, stop_given, given-sort, old-allowed, old-refused}
use Rattle.sd_types.proofs.phrase.+sort.Goals as goal

pub expr_sort-returns-in_err-args-in-Apply : goal.expr_sort-returns-in_err-args-in-Apply
expr_sort-returns-in_err-args-in-Apply t c =
    rw (c.in-Apply.is, sort_of-Apply) (goes_on _ c.in_err-args-in-Apply.ensures c.from_residual.ensures.1)

pub expr_sort-returns-in_ok-args-in-Apply : goal.expr_sort-returns-in_ok-args-in-Apply
expr_sort-returns-in_ok-args-in-Apply t c =
    rw (c.in-Apply.is, sort_of-Apply) (next _ c.in_ok-args-in-Apply.ensures (rw (c.get.ensures, c.as_slice.ensures) at c.apply.ensures))

pub expr_sort-returns-in_err-part-in-Old : goal.expr_sort-returns-in_err-part-in-Old
expr_sort-returns-in_err-part-in-Old t c =
    rw (c.in-Old.is, old_is) (stop_given (context c.args.scope.now c.args.locals.now c.args.site) c.in-Old.part _ c.in_err-part-in-Old.ensures c.from_residual-in_err-part-in-Old.ensures.1)

pub expr_sort-returns-then-may_be_old : goal.expr_sort-returns-then-may_be_old
expr_sort-returns-then-may_be_old t c =
    rw (c.in-Old.is, old_is) (old-allowed _ (given-sort (context c.args.scope.now c.args.locals.now c.args.site) c.in-Old.part c.in_ok-part-in-Old.ensures) c.may_be_old.ensures c.if-may_be_old.true)

pub expr_sort-returns-else-may_be_old : goal.expr_sort-returns-else-may_be_old
expr_sort-returns-else-may_be_old t c =
    rw (c.in-Old.is, old_is) (old-refused _ (given-sort (context c.args.scope.now c.args.locals.now c.args.site) c.in-Old.part c.in_ok-part-in-Old.ensures) c.may_be_old.ensures c.if-may_be_old.false)

pub expr_sort-returns-in_err-part-in-Unary : goal.expr_sort-returns-in_err-part-in-Unary
expr_sort-returns-in_err-part-in-Unary t c =
    rw (c.in-Unary.is, unary_is) (stop_given (context c.args.scope.now c.args.locals.now c.args.site) c.in-Unary.part _ c.in_err-part-in-Unary.ensures c.from_residual-in_err-part-in-Unary.ensures.1)

pub expr_sort-returns-in_ok-part-in-Unary : goal.expr_sort-returns-in_ok-part-in-Unary
expr_sort-returns-in_ok-part-in-Unary t c =
    rw (c.in-Unary.is, unary_is) (next_given (context c.args.scope.now c.args.locals.now c.args.site) c.in-Unary.part (λ g. unary_sort c.in-Unary.op g) c.in_ok-part-in-Unary.ensures
    (exact c.check_unary.ensures))

pub expr_sort-returns-in_err-left-in-Binary : goal.expr_sort-returns-in_err-left-in-Binary
expr_sort-returns-in_err-left-in-Binary t c =
    rw (c.in-Binary.is, binary_is) (stop_given (context c.args.scope.now c.args.locals.now c.args.site) c.in-Binary.left _ c.in_err-left-in-Binary.ensures c.from_residual-in_err-left-in-Binary.ensures.1)

pub expr_sort-returns-in_err-right-in-Binary : goal.expr_sort-returns-in_err-right-in-Binary
expr_sort-returns-in_err-right-in-Binary t c =
    rw (c.in-Binary.is, binary_is) (next_given (context c.args.scope.now c.args.locals.now c.args.site) c.in-Binary.left (λ g. and_then (sort_of (context c.args.scope.now c.args.locals.now c.args.site) c.in-Binary.right.at c.in-Binary.right.kind) (λ s. binary_sort c.in-Binary.op g (at_place c.in-Binary.right.at s))) c.in_ok-left-in-Binary.ensures
    (stop_given (context c.args.scope.now c.args.locals.now c.args.site) c.in-Binary.right _ c.in_err-right-in-Binary.ensures c.from_residual-in_err-right-in-Binary.ensures.1))

pub expr_sort-returns-in_ok-right-in-Binary : goal.expr_sort-returns-in_ok-right-in-Binary
expr_sort-returns-in_ok-right-in-Binary t c =
    rw (c.in-Binary.is, binary_is) (next_given (context c.args.scope.now c.args.locals.now c.args.site) c.in-Binary.left (λ g. and_then (sort_of (context c.args.scope.now c.args.locals.now c.args.site) c.in-Binary.right.at c.in-Binary.right.kind) (λ s. binary_sort c.in-Binary.op g (at_place c.in-Binary.right.at s))) c.in_ok-left-in-Binary.ensures
    (next_given (context c.args.scope.now c.args.locals.now c.args.site) c.in-Binary.right (λ g. binary_sort c.in-Binary.op c.in_ok-left-in-Binary.left g) c.in_ok-right-in-Binary.ensures
    (exact c.check_binary.ensures)))

pub expr_sort-returns-in_err-map-in-Select : goal.expr_sort-returns-in_err-map-in-Select
expr_sort-returns-in_err-map-in-Select t c =
    rw (c.in-Select.is, select_is) (stop_given (context c.args.scope.now c.args.locals.now c.args.site) c.in-Select.map _ c.in_err-map-in-Select.ensures c.from_residual-in_err-map-in-Select.ensures.1)

pub expr_sort-returns-in_err-index-in-Select : goal.expr_sort-returns-in_err-index-in-Select
expr_sort-returns-in_err-index-in-Select t c =
    rw (c.in-Select.is, select_is) (next_given (context c.args.scope.now c.args.locals.now c.args.site) c.in-Select.map (λ g. and_then (sort_of (context c.args.scope.now c.args.locals.now c.args.site) c.in-Select.index.at c.in-Select.index.kind) (λ t. selected g.at g.sort (at_place c.in-Select.index.at t))) c.in_ok-map-in-Select.ensures
    (stop_given (context c.args.scope.now c.args.locals.now c.args.site) c.in-Select.index _ c.in_err-index-in-Select.ensures c.from_residual-in_err-index-in-Select.ensures.1))

pub expr_sort-returns-in_ok-index-in-Select : goal.expr_sort-returns-in_ok-index-in-Select
expr_sort-returns-in_ok-index-in-Select t c =
    rw (c.in-Select.is, select_is) (next_given (context c.args.scope.now c.args.locals.now c.args.site) c.in-Select.map (λ g. and_then (sort_of (context c.args.scope.now c.args.locals.now c.args.site) c.in-Select.index.at c.in-Select.index.kind) (λ t. selected g.at g.sort (at_place c.in-Select.index.at t))) c.in_ok-map-in-Select.ensures
    (next_given (context c.args.scope.now c.args.locals.now c.args.site) c.in-Select.index (λ g. selected c.in_ok-map-in-Select.map.at c.in_ok-map-in-Select.map.sort g) c.in_ok-index-in-Select.ensures
    (exact c.select.ensures)))

pub expr_sort-returns-in_err-map-in-Store : goal.expr_sort-returns-in_err-map-in-Store
expr_sort-returns-in_err-map-in-Store t c =
    rw (c.in-Store.is, store_is) (stop_given (context c.args.scope.now c.args.locals.now c.args.site) c.in-Store.map _ c.in_err-map-in-Store.ensures c.from_residual-in_err-map-in-Store.ensures.1)

pub expr_sort-returns-in_err-index-in-Store : goal.expr_sort-returns-in_err-index-in-Store
expr_sort-returns-in_err-index-in-Store t c =
    rw (c.in-Store.is, store_is) (next_given (context c.args.scope.now c.args.locals.now c.args.site) c.in-Store.map (λ g. and_then (sort_of (context c.args.scope.now c.args.locals.now c.args.site) c.in-Store.index.at c.in-Store.index.kind) (λ t. and_then (sort_of (context c.args.scope.now c.args.locals.now c.args.site) c.in-Store.value.at c.in-Store.value.kind) (λ w. stored g (at_place c.in-Store.index.at t) (at_place c.in-Store.value.at w)))) c.in_ok-map-in-Store.ensures
    (stop_given (context c.args.scope.now c.args.locals.now c.args.site) c.in-Store.index _ c.in_err-index-in-Store.ensures c.from_residual-in_err-index-in-Store.ensures.1))

pub expr_sort-returns-in_err-value-in-Store : goal.expr_sort-returns-in_err-value-in-Store
expr_sort-returns-in_err-value-in-Store t c =
    rw (c.in-Store.is, store_is) (next_given (context c.args.scope.now c.args.locals.now c.args.site) c.in-Store.map (λ g. and_then (sort_of (context c.args.scope.now c.args.locals.now c.args.site) c.in-Store.index.at c.in-Store.index.kind) (λ t. and_then (sort_of (context c.args.scope.now c.args.locals.now c.args.site) c.in-Store.value.at c.in-Store.value.kind) (λ w. stored g (at_place c.in-Store.index.at t) (at_place c.in-Store.value.at w)))) c.in_ok-map-in-Store.ensures
    (next_given (context c.args.scope.now c.args.locals.now c.args.site) c.in-Store.index (λ g. and_then (sort_of (context c.args.scope.now c.args.locals.now c.args.site) c.in-Store.value.at c.in-Store.value.kind) (λ w. stored c.in_ok-map-in-Store.map g (at_place c.in-Store.value.at w))) c.in_ok-index-in-Store.ensures
    (stop_given (context c.args.scope.now c.args.locals.now c.args.site) c.in-Store.value _ c.in_err-value-in-Store.ensures c.from_residual-in_err-value-in-Store.ensures.1)))

pub expr_sort-returns-in_ok-value-in-Store : goal.expr_sort-returns-in_ok-value-in-Store
expr_sort-returns-in_ok-value-in-Store t c =
    rw (c.in-Store.is, store_is) (next_given (context c.args.scope.now c.args.locals.now c.args.site) c.in-Store.map (λ g. and_then (sort_of (context c.args.scope.now c.args.locals.now c.args.site) c.in-Store.index.at c.in-Store.index.kind) (λ t. and_then (sort_of (context c.args.scope.now c.args.locals.now c.args.site) c.in-Store.value.at c.in-Store.value.kind) (λ w. stored g (at_place c.in-Store.index.at t) (at_place c.in-Store.value.at w)))) c.in_ok-map-in-Store.ensures
    (next_given (context c.args.scope.now c.args.locals.now c.args.site) c.in-Store.index (λ g. and_then (sort_of (context c.args.scope.now c.args.locals.now c.args.site) c.in-Store.value.at c.in-Store.value.kind) (λ w. stored c.in_ok-map-in-Store.map g (at_place c.in-Store.value.at w))) c.in_ok-index-in-Store.ensures
    (next_given (context c.args.scope.now c.args.locals.now c.args.site) c.in-Store.value (λ g. stored c.in_ok-map-in-Store.map c.in_ok-index-in-Store.index g) c.in_ok-value-in-Store.ensures
    (c.store.ensures))))
