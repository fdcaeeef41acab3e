use Rattle.std.proofs.Common.{◌+◌, ◌==◌, sym, ap, ◌∙◌, subst, length, get_or, List}
use Rattle.sd_rows.specs.declared.row.Row.{Row}
use Rattle.sd_rows.specs.Rows.{AllComputable}
use Rattle.sd_kernel.specs.declared.step.RowLine.TheVariants.{Fact as FactLine}
use Rattle.sd_kernel.specs.Facts.{trail_of}
use Rattle.sd_kernel.specs.Steps.{row_of_line}
use Rattle.sd_kernel.specs.MadeRows.{made_of, IsProperRow}
use Rattle.sd_rows.proofs.Computable.{computable-push}
use Rattle.sd_kernel.proofs.RowSteps.{rest-fault, rest-next, within-row}
use Rattle.sd_kernel.proofs.rows.rows_effect.Goals as goal

pub returns-in-Some-clause-effect : goal.returns-in-Some-clause-effect
returns-in-Some-clause-effect c =
    c.loop-place.invariant.rest
    ∙ rest-fault c.args.terms.now (trail_of c.args.terms.now c.args.trail.now) c.args.lines.now c.loop-place.place (FactLine 0) c.loop-place.rows.items c.loop-place-test.true c.in-Row.row
    (ap (λ (rs : List Row). row_of_line c.args.terms.now (trail_of c.args.terms.now c.args.trail.now) rs (get_or c.args.lines.now c.loop-place.place (FactLine 0))) (sym c.deref.ensures.value)
    ∙ c.in_ok-cause.ensures.row ∙ ap made_of c.in-Row.is)
    c.in-Some.cause c.in-Some.ensures

pub loop-place-preserved : goal.loop-place-preserved
loop-place-preserved c = record {
  rest = c.loop-place.invariant.rest
      ∙ rest-next c.args.terms.now (trail_of c.args.terms.now c.args.trail.now) c.args.lines.now c.loop-place.place (FactLine 0) c.loop-place.rows.items c.loop-place-test.true c.in-Row.row
      (ap (λ (rs : List Row). row_of_line c.args.terms.now (trail_of c.args.terms.now c.args.trail.now) rs (get_or c.args.lines.now c.loop-place.place (FactLine 0))) (sym c.deref.ensures.value)
      ∙ c.in_ok-cause.ensures.row ∙ ap made_of c.in-Row.is)
      c.in_default.ensures c.push.new.self.items c.in_ok-push-in-Row.ensures.items;
  rows = subst AllComputable (sym c.in_ok-push-in-Row.ensures.items)
      (computable-push c.loop-place.rows.items c.in-Row.row c.loop-place.invariant.rows (subst IsProperRow c.in-Row.is c.in_ok-cause.ensures.proper)
      (within-row c.in-Row.row (c.loop-place.place + 1 == length c.args.lines.now) c.in_default.ensures));
}
