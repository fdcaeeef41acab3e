use Rattle.std.proofs.Common.{ap, sym, ◌∙◌, subst, List, All, length, map}
use Rattle.sd_kernel.specs.Facts.{trail_of}
use Rattle.sd_linear.specs.declared.step.RowStep.{RowStep}
use Rattle.sd_linear.specs.Answers.{Justified}
use Rattle.sd_arith.specs.Lines.{HasInput, line_of}
use Rattle.sd_arith.specs.Gathered.{rows_of_terms}
use Rattle.sd_arith.proofs.Closing.{takes-inputs, closes_branch, not-refuted}
use Rattle.sd_arith.proofs.rows.refuting_rows.Goals as goal

pub returns-then-not-compares-clause-none : goal.returns-then-not-compares-clause-none
returns-then-not-compares-clause-none c = not-refuted c.args.terms.now (trail_of c.args.terms.now c.args.trail.now) c.args.values.now c.requires.values (c.compares.ensures c.if-not-compares.true)

pub lines_of-requires : goal.lines_of-requires
lines_of-requires c =
    let terms = c.args.terms.now in
    let trail = trail_of terms c.args.trail.now in
    subst (λ (ss : List RowStep). All (HasInput (length c.as_slice-in-Refuted.result.now)) ss) (sym c.as_slice-in-Refuted-2.ensures)
    (takes-inputs terms trail (rows_of_terms terms trail terms) c.in_ok-gathered.gathered c.in_ok-gathered.ensures c.as_slice.result.now c.as_slice-in-Refuted.result.now c.in-Refuted.steps
    c.as_slice.ensures c.as_slice-in-Refuted.ensures (subst (Justified c.as_slice.result.now) c.in-Refuted.is c.in_ok-steps.ensures.justified))

pub returns-in-Refuted-clause-some : goal.returns-in-Refuted-clause-some
returns-in-Refuted-clause-some c =
    let terms = c.args.terms.now in
    let trail = trail_of terms c.args.trail.now in
    closes_branch terms trail (rows_of_terms terms trail terms) c.in_ok-gathered.gathered c.in_ok-gathered.ensures c.as_slice.result.now c.as_slice-in-Refuted.result.now c.in_ok-lines-in-Refuted.lines
    c.in-Refuted.steps c.as_slice.ensures c.as_slice-in-Refuted.ensures (subst (Justified c.as_slice.result.now) c.in-Refuted.is c.in_ok-steps.ensures.justified)
    (c.in_ok-lines-in-Refuted.ensures ∙ ap (λ (ss : List RowStep). map (line_of c.as_slice-in-Refuted.result.now) ss) c.as_slice-in-Refuted-2.ensures)
