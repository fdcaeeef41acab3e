use Rattle.sd_linear.specs.Elimination.{all_come_in, combined_with}
use Rattle.sd_linear.specs.DerivedRows.{rows_of}
use Rattle.sd_linear.proofs.Combining.{Continues, from_place}
use Rattle.sd_linear.proofs.combine.combine_all.Given as goal

abbrev pub invariant-loop-s : goal.invariant-loop-s
invariant-loop-s l =
    Continues l.elimination.inputs.now (all_come_in l.elimination.column (combined_with l.elimination.column l.r.row (rows_of l.rows)) (rows_of l.fn.list)) l.elimination.column
    (combined_with l.elimination.column l.r.row (from_place l.s-index l.rows)) l.list l.fn.steps l.steps
