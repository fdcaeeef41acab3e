use Rattle.std.proofs.Common.{◌≡◌, drop}
use Rattle.sd_linear.specs.Elimination.{with_columns}
use Rattle.sd_linear.proofs.columns.add_columns.Given as goal

abbrev pub invariant-loop-p : goal.invariant-loop-p
invariant-loop-p l = with_columns l.parts l.fn.columns.items ≡ with_columns (drop l.p-index l.parts) l.columns.items
