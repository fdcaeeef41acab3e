use Rattle.std.proofs.Common.{rules, ◌≡◌, true, false, ◌∷◌, ◌+◌, pos, ◌<ℤ◌, ◌≤ℤ◌, List}
use Rattle.sd_rows.specs.declared.row.Row.{Row}
use Rattle.sd_linear.specs.Elimination.{combined_with, combinations, all_come_in, is_negative, continues, Next}
use Rattle.sd_linear.specs.DerivedRows.{rows_of, IsDerivation, Extends}
use Rattle.sd_linear.specs.Answers.{Stops}
use Rattle.sd_linear.specs.RowSteps.{rows_made}
use Rattle.sd_linear.proofs.Combining.{Continues, continues-all, continues-skip, stops-all, AreDerivedRows-extends, IsDerivedRow-item, place-is, from_place, combined_from, from-here, from-past, negative, not_negative}
use Rattle.sd_linear.proofs.combine.combine_rows.Goals as goal
use Rattle.sd_linear.proofs.combine.combine_rows.Goals.{then-factor_of-lt0+in_ok-combine_all, else-factor_of-lt0}

pub factor_of-requires : goal.factor_of-requires
factor_of-requires c =
    (IsDerivedRow-item (rows_made c.args.elimination.now.inputs.now c.args.steps.now) c.args.rows.now c.loop-r.r-index c.r-item.result c.loop-r-test.true c.r-item.is c.requires.rows).proper

pub combine_all-requires-clause-rows : goal.combine_all-requires-clause-rows
combine_all-requires-clause-rows c = AreDerivedRows-extends c.args.elimination.now.inputs.now c.args.steps.now c.loop-r.steps c.args.rows.now c.loop-r.invariant.extends c.requires.rows

pub combine_all-requires-clause-first : goal.combine_all-requires-clause-first
combine_all-requires-clause-first c =
    IsDerivedRow-item (rows_made c.args.elimination.now.inputs.now c.loop-r.steps) c.args.rows.now c.loop-r.r-index c.r-item.result c.loop-r-test.true c.r-item.is
    (AreDerivedRows-extends c.args.elimination.now.inputs.now c.args.steps.now c.loop-r.steps c.args.rows.now c.loop-r.invariant.extends c.requires.rows)

pub returns-in_err-combine_all-clause-stops : goal.returns-in_err-combine_all-clause-stops
returns-in_err-combine_all-clause-stops c =
    let k = c.args.elimination.now.column in
    let all : List Row = rows_of c.args.rows.now in
    let rest : List Row = from_place (c.loop-r.r-index + 1) c.args.rows.now in
    let here : from_place c.loop-r.r-index c.args.rows.now ≡ c.r-item.result.row ∷ rest = place-is c.args.rows.now c.loop-r.r-index c.r-item.result c.loop-r-test.true c.r-item.is in
    let z : c.factor_of.result <ℤ pos 0 = search rules in
    let p : is_negative k c.r-item.result.row ≡ true = negative k c.r-item.result.row c.factor_of.result c.factor_of.ensures z in
    let s : Stops c.args.elimination.now.inputs.now c.in_err-combine_all.field-0.0 (all_come_in k (combinations k all) (rows_of c.args.list.now)) =
    stops-all c.args.elimination.now.inputs.now (all_come_in k (combinations k all) (rows_of c.args.list.now)) k (combined_with k c.r-item.result.row all) (combined_from k all rest) (combined_from k all (from_place c.loop-r.r-index c.args.rows.now))
    c.loop-r.list c.args.steps.now c.loop-r.steps c.in_err-combine_all.field-0.0
    (from-here k all c.r-item.result.row rest (from_place c.loop-r.r-index c.args.rows.now) here p) c.loop-r.invariant c.in_err-combine_all.ensures.stops in
    search (rules, s)

pub loop-r-preserved : goal.loop-r-preserved
loop-r-preserved c =
    let k = c.args.elimination.now.column in
    let all : List Row = rows_of c.args.rows.now in
    let rest : List Row = from_place (c.loop-r.r-index + 1) c.args.rows.now in
    let whole : Next = all_come_in k (combinations k all) (rows_of c.args.list.now) in
    let here : from_place c.loop-r.r-index c.args.rows.now ≡ c.r-item.result.row ∷ rest = place-is c.args.rows.now c.loop-r.r-index c.r-item.result c.loop-r-test.true c.r-item.is in
    elim c.if-factor_of-lt0.branch [
      | then-factor_of-lt0+in_ok-combine_all w ↦
          let z : c.factor_of.result <ℤ pos 0 = search rules in
          let p : is_negative k c.r-item.result.row ≡ true = negative k c.r-item.result.row c.factor_of.result c.factor_of.ensures z in
          let g : all_come_in k (combined_with k c.r-item.result.row all) (rows_of c.loop-r.list) ≡ continues (rows_of c.if-factor_of-lt0.list) = rw w.list-is w.in_ok-combine_all.ensures.continues in
          let d : IsDerivation c.args.elimination.now.inputs.now c.if-factor_of-lt0.steps c.if-factor_of-lt0.list = rw (w.steps-is, w.list-is) w.in_ok-combine_all.ensures.derived in
          let x : Extends c.loop-r.steps c.if-factor_of-lt0.steps = rw w.steps-is w.in_ok-combine_all.ensures.extends in
          continues-all c.args.elimination.now.inputs.now whole k (combined_with k c.r-item.result.row all) (combined_from k all rest) (combined_from k all (from_place c.loop-r.r-index c.args.rows.now))
          c.loop-r.list c.if-factor_of-lt0.list c.args.steps.now c.loop-r.steps c.if-factor_of-lt0.steps
          (from-here k all c.r-item.result.row rest (from_place c.loop-r.r-index c.args.rows.now) here p) c.loop-r.invariant g d x
      | else-factor_of-lt0 w ↦
          let z : pos 0 ≤ℤ c.factor_of.result = search rules in
          let p : is_negative k c.r-item.result.row ≡ false = not_negative k c.r-item.result.row c.factor_of.result c.factor_of.ensures z in
          let j : Continues c.args.elimination.now.inputs.now whole k (combined_from k all rest) c.loop-r.list c.args.steps.now c.loop-r.steps =
          continues-skip c.args.elimination.now.inputs.now whole k (combined_from k all rest) (combined_from k all (from_place c.loop-r.r-index c.args.rows.now)) c.loop-r.list c.args.steps.now c.loop-r.steps
          (from-past k all c.r-item.result.row rest (from_place c.loop-r.r-index c.args.rows.now) here p) c.loop-r.invariant in
          rw (w.list-is, w.steps-is) j
    ]
