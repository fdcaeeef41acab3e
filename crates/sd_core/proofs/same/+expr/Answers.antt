use Rattle.std.proofs.Common.{rules}
use Rattle.sd_core.proofs.Rows.{apply_becomes, op_becomes}
use Rattle.sd_core.proofs.same.+expr.Goals as goal

pub is_same_expr-returns-then-is : goal.is_same_expr-returns-then-is
is_same_expr-returns-then-is t c =
    apply_becomes _ _ _ c.in-Apply-Apply.es c.in-Apply-Apply.fs _ _ c.as_slice.ensures c.as_slice-then-is.ensures _ c.are_same_exprs.ensures c.in-Apply-Apply.f c.in-Apply-Apply.g c.in-Apply-Apply.is-0 c.in-Apply-Apply.is-1 (c.is-in-Apply-Apply.ensures.0 c.if-is.true)

pub is_same_expr-returns-then-eq : goal.is_same_expr-returns-then-eq
is_same_expr-returns-then-eq t c =
    op_becomes _ _ _ c.in-Op-Op.es c.in-Op-Op.fs _ _ c.as_slice-then-eq.ensures c.as_slice-then-eq-2.ensures _ c.are_same_exprs-then-eq.ensures c.in-Op-Op.o c.in-Op-Op.p c.in-Op-Op.is-0 c.in-Op-Op.is-1 (search rules)
