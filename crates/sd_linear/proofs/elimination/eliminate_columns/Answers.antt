use Rattle.std.proofs.Common.{rules, ◌≡◌, ◌∙◌, [], ◌∷◌, ◌++◌, List, subst, sym, ap, refl, filter}
use Rattle.std.specs.Prelude.{slice_index_or}
use Rattle.sd_linear.specs.declared.list.DerivedRow.{DerivedRow}
use Rattle.sd_linear.specs.Elimination.{eliminated, continues, solved}
use Rattle.sd_linear.specs.RowSteps.{rows_made}
use Rattle.sd_linear.specs.DerivedRows.{rows_of, has_column}
use Rattle.sd_linear.specs.Answers.{Stops, Fails}
use Rattle.sd_linear.proofs.Combining.{AllComputable-derived}
use Rattle.sd_linear.proofs.Solving.{Leads, leads-start, leads-on, fails-column}
use Rattle.sd_linear.proofs.elimination.eliminate_columns.Goals as goal

pub loop-column-init : goal.loop-column-init
loop-column-init c = record {
  leads = subst (λ (l : List (List DerivedRow)). Leads c.args.columns.now 0 (rows_of c.args.first) (rows_of c.args.first) l) (sym c.new-lists.ensures) (leads-start c.args.columns.now (rows_of c.args.first));
  derived = c.requires.derived;
}

pub returns-in_err-with-clause-fails : goal.returns-in_err-with-clause-fails
returns-in_err-with-clause-fails c =
    let n = c.loop-column.column-index in
    let k = slice_index_or c.args.columns.now n 0 in
    let s : Stops c.args.inputs.now c.in_err-with.field-0.0 (eliminated k (rows_of c.as_slice.result.now)) = c.in_err-with.ensures.stops in
    let t : Stops c.args.inputs.now c.in_err-with.field-0.0 (eliminated k (rows_of c.loop-column.rows)) =
    subst (λ (l : List DerivedRow). Stops c.args.inputs.now c.in_err-with.field-0.0 (eliminated k (rows_of l))) c.as_slice.ensures s in
    let f : Fails c.args.inputs.now c.in_err-with.field-0.0 (solved c.args.columns.now (rows_of c.args.first)) =
    fails-column c.args.inputs.now c.in_err-with.field-0.0 c.args.columns.now n k (rows_of c.args.first) (rows_of c.loop-column.rows) c.loop-column.lists c.loop-column.invariant.leads c.loop-column-test.true refl t in
    search (rules, f)

pub loop-column-preserved : goal.loop-column-preserved
loop-column-preserved c =
    let n = c.loop-column.column-index in
    let k = slice_index_or c.args.columns.now n 0 in
    let e : c.push.new.self ≡ c.loop-column.lists ++ c.in_ok-with.with ∷ [] = search rules in
    let g : eliminated k (rows_of c.loop-column.rows) ≡ continues (rows_of c.in_ok-with.later) = ap (λ (l : List DerivedRow). eliminated k (rows_of l)) (sym c.as_slice.ensures) ∙ c.in_ok-with.ensures.continues in
    let w : rows_of c.in_ok-with.with ≡ filter (has_column k) (rows_of c.loop-column.rows) = c.in_ok-with.ensures.with ∙ ap (λ (l : List DerivedRow). filter (has_column k) (rows_of l)) c.as_slice.ensures in
    record {
      leads = leads-on c.args.columns.now n k (rows_of c.args.first) (rows_of c.loop-column.rows) (rows_of c.in_ok-with.later) c.loop-column.lists c.push.new.self c.in_ok-with.with refl e g w
          (AllComputable-derived (rows_made c.args.inputs.now c.loop-column.steps) c.loop-column.rows c.loop-column.invariant.derived.rows) c.loop-column.invariant.leads;
      derived = c.in_ok-with.ensures.derived;
    }
