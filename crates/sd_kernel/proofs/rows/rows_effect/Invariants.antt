use Rattle.std.proofs.Common.{◌≡◌, suc, drop, []}
use Rattle.sd_rows.specs.Rows.{AllComputable}
use Rattle.sd_kernel.specs.Facts.{trail_of}
use Rattle.sd_kernel.specs.Steps.{refuted_by}
use Rattle.sd_kernel.proofs.RowSteps.{rest_of}
use Rattle.sd_kernel.proofs.rows.rows_effect.Given as goal

abbrev pub invariant-loop-place : goal.invariant-loop-place
invariant-loop-place l = record {
  rest : refuted_by l.terms (trail_of l.terms l.trail) 1 [] l.lines ≡ rest_of l.terms (trail_of l.terms l.trail) (suc l.place) l.rows.items (drop l.place l.lines);
  rows : AllComputable l.rows.items;
}
