use Rattle.sd_linear.specs.Elimination.{all_come_in, combinations}
use Rattle.sd_linear.specs.DerivedRows.{rows_of}
use Rattle.sd_linear.proofs.Combining.{Continues, from_place, combined_from}
use Rattle.sd_linear.proofs.combine.combine_rows.Given as goal

abbrev pub invariant-loop-r : goal.invariant-loop-r
invariant-loop-r l =
    Continues l.elimination.inputs.now (all_come_in l.elimination.column (combinations l.elimination.column (rows_of l.rows)) (rows_of l.fn.list)) l.elimination.column
    (combined_from l.elimination.column (rows_of l.rows) (from_place l.r-index l.rows)) l.list l.fn.steps l.steps
