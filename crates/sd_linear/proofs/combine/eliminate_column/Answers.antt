use Rattle.std.proofs.Common.{rules, ◌≡◌, ◌∙◌, sym, ap, subst, filter}
use Rattle.sd_linear.specs.RowSteps.{rows_made}
use Rattle.sd_linear.specs.Elimination.{all_come_in, combinations, eliminated, is_free, Next}
use Rattle.sd_linear.specs.DerivedRows.{rows_of, AreDerivedRows, has_column}
use Rattle.sd_linear.specs.Answers.{Stops}
use Rattle.sd_linear.proofs.Combining.{AllComputable-derived, eliminated-is}
use Rattle.sd_linear.proofs.combine.eliminate_column.Goals as goal

pub partition-requires : goal.partition-requires
partition-requires c = AllComputable-derived (rows_made c.args.inputs.now c.args.steps.now) c.args.rows.now c.requires.derived.rows

pub combine_rows-requires-clause-rows : goal.combine_rows-requires-clause-rows
combine_rows-requires-clause-rows c =
    let h = c.in_ok-with.ensures.derived (rows_made c.args.inputs.now c.args.steps.now) c.requires.derived.rows in
    subst (AreDerivedRows (rows_made c.args.inputs.now c.args.steps.now)) (sym c.as_slice.ensures) h.0

pub combine_rows-requires-clause-derived : goal.combine_rows-requires-clause-derived
combine_rows-requires-clause-derived c = record {
  are_steps = c.requires.derived.are_steps;
  within = c.requires.derived.within;
  useful = c.requires.derived.useful;
  rows = (c.in_ok-with.ensures.derived (rows_made c.args.inputs.now c.args.steps.now) c.requires.derived.rows).1;
}

pub returns-in_err-combine_rows-clause-stops : goal.returns-in_err-combine_rows-clause-stops
returns-in_err-combine_rows-clause-stops c =
    let k = c.args.column in
    let w : rows_of c.as_slice.result.now ≡ filter (has_column k) (rows_of c.args.rows.now) = ap rows_of c.as_slice.ensures ∙ c.in_ok-with.ensures.with in
    let f : rows_of c.in_ok-with.list ≡ filter (is_free k) (rows_of c.args.rows.now) = c.in_ok-with.ensures.free in
    let s : Stops c.args.inputs.now c.in_err-combine_rows.field-0.0 (all_come_in k (combinations k (rows_of c.as_slice.result.now)) (rows_of c.in_ok-with.list)) = c.in_err-combine_rows.ensures.stops in
    let g : Stops c.args.inputs.now c.in_err-combine_rows.field-0.0 (eliminated k (rows_of c.args.rows.now)) =
    subst (λ (n : Next). Stops c.args.inputs.now c.in_err-combine_rows.field-0.0 n) (eliminated-is k (rows_of c.args.rows.now) (rows_of c.as_slice.result.now) (rows_of c.in_ok-with.list) w f) s in
    search (rules, g)

pub returns-clause-continues : goal.returns-clause-continues
returns-clause-continues c =
    let k = c.args.column in
    let w : rows_of c.as_slice.result.now ≡ filter (has_column k) (rows_of c.args.rows.now) = ap rows_of c.as_slice.ensures ∙ c.in_ok-with.ensures.with in
    let f : rows_of c.in_ok-with.list ≡ filter (is_free k) (rows_of c.args.rows.now) = c.in_ok-with.ensures.free in
    sym (eliminated-is k (rows_of c.args.rows.now) (rows_of c.as_slice.result.now) (rows_of c.in_ok-with.list) w f) ∙ c.in_ok-combine_rows.ensures.continues
