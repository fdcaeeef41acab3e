use Rattle.std.proofs.Common.{rules, ◌≡◌, ◌∙◌, true, false, [], ◌∷◌, ◌+◌, pos, ◌<ℤ◌, ◌≤ℤ◌, List}
use Rattle.sd_rows.specs.declared.row.Row.{Row}
use Rattle.sd_linear.specs.Elimination.{combined, combined_with, come_in, all_come_in, is_positive, continues, Next}
use Rattle.sd_linear.specs.DerivedRows.{rows_of, IsDerivation, Extends}
use Rattle.sd_linear.specs.RowSteps.{rows_made}
use Rattle.sd_linear.proofs.Combining.{Continues, continues-all, continues-skip, all_come_in-one, IsDerivedRow-extended, AreDerivedRows-extends, IsDerivedRow-item, place-is, from_place, with-here, with-past, positive, not_positive}
use Rattle.sd_linear.proofs.combine.combine_all.Goals as goal
use Rattle.sd_linear.proofs.combine.combine_all.Goals.{then-factor_of-gt0+in_ok-combine, else-factor_of-gt0}

pub factor_of-requires : goal.factor_of-requires
factor_of-requires c =
    (IsDerivedRow-item (rows_made c.args.elimination.now.inputs.now c.args.steps.now) c.args.rows.now c.loop-s.s-index c.s-item.result c.loop-s-test.true c.s-item.is c.requires.rows).proper

pub combine-requires-clause-first : goal.combine-requires-clause-first
combine-requires-clause-first c = IsDerivedRow-extended c.args.elimination.now.inputs.now c.args.steps.now c.loop-s.steps c.args.r.now c.loop-s.invariant.extends c.requires.first

pub combine-requires-clause-second : goal.combine-requires-clause-second
combine-requires-clause-second c =
    IsDerivedRow-item (rows_made c.args.elimination.now.inputs.now c.loop-s.steps) c.args.rows.now c.loop-s.s-index c.s-item.result c.loop-s-test.true c.s-item.is
    (AreDerivedRows-extends c.args.elimination.now.inputs.now c.args.steps.now c.loop-s.steps c.args.rows.now c.loop-s.invariant.extends c.requires.rows)

pub loop-s-preserved : goal.loop-s-preserved
loop-s-preserved c =
    let k = c.args.elimination.now.column in
    let rest : List Row = from_place (c.loop-s.s-index + 1) c.args.rows.now in
    let whole : Next = all_come_in k (combined_with k c.args.r.now.row (rows_of c.args.rows.now)) (rows_of c.args.list.now) in
    let here : from_place c.loop-s.s-index c.args.rows.now ≡ c.s-item.result.row ∷ rest = place-is c.args.rows.now c.loop-s.s-index c.s-item.result c.loop-s-test.true c.s-item.is in
    elim c.if-factor_of-gt0.branch [
      | then-factor_of-gt0+in_ok-combine w ↦
          let z : pos 0 <ℤ c.factor_of.result = search rules in
          let p : is_positive k c.s-item.result.row ≡ true = positive k c.s-item.result.row c.factor_of.result c.factor_of.ensures z in
          let g : come_in k (combined k c.args.r.now.row c.s-item.result.row) (rows_of c.loop-s.list) ≡ continues (rows_of c.if-factor_of-gt0.list) = rw w.list-is w.in_ok-combine.ensures.continues in
          let d : IsDerivation c.args.elimination.now.inputs.now c.if-factor_of-gt0.steps c.if-factor_of-gt0.list = rw (w.steps-is, w.list-is) w.in_ok-combine.ensures.derived in
          let x : Extends c.loop-s.steps c.if-factor_of-gt0.steps = rw w.steps-is w.in_ok-combine.ensures.extends in
          continues-all c.args.elimination.now.inputs.now whole k (combined k c.args.r.now.row c.s-item.result.row ∷ []) (combined_with k c.args.r.now.row rest) (combined_with k c.args.r.now.row (from_place c.loop-s.s-index c.args.rows.now))
          c.loop-s.list c.if-factor_of-gt0.list c.args.steps.now c.loop-s.steps c.if-factor_of-gt0.steps
          (with-here k c.args.r.now.row c.s-item.result.row rest (from_place c.loop-s.s-index c.args.rows.now) here p)
          c.loop-s.invariant (all_come_in-one k (combined k c.args.r.now.row c.s-item.result.row) (rows_of c.loop-s.list) ∙ g) d x
      | else-factor_of-gt0 w ↦
          let z : c.factor_of.result ≤ℤ pos 0 = search rules in
          let p : is_positive k c.s-item.result.row ≡ false = not_positive k c.s-item.result.row c.factor_of.result c.factor_of.ensures z in
          let j : Continues c.args.elimination.now.inputs.now whole k (combined_with k c.args.r.now.row rest) c.loop-s.list c.args.steps.now c.loop-s.steps =
          continues-skip c.args.elimination.now.inputs.now whole k (combined_with k c.args.r.now.row rest) (combined_with k c.args.r.now.row (from_place c.loop-s.s-index c.args.rows.now)) c.loop-s.list c.args.steps.now c.loop-s.steps
          (with-past k c.args.r.now.row c.s-item.result.row rest (from_place c.loop-s.s-index c.args.rows.now) here p) c.loop-s.invariant in
          rw (w.list-is, w.steps-is) j
    ]
