use Rattle.sd_linear.specs.DerivedRows.{rows_of, IsDerivation}
use Rattle.sd_linear.proofs.Solving.{Leads}
use Rattle.sd_linear.proofs.elimination.eliminate_columns.Given as goal

abbrev pub invariant-loop-column : goal.invariant-loop-column
invariant-loop-column l = record {
  leads : Leads l.columns l.column-index (rows_of l.fn.first) (rows_of l.rows) l.lists;
  derived : IsDerivation l.inputs l.steps l.rows;
}
