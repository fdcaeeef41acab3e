use Rattle.std.proofs.Common.{◌≡◌, ◌++◌, drop}
use Rattle.sd_rows.specs.Forms.{times_by}
use Rattle.sd_rows.proofs.form.multiples.Given as goal

abbrev pub invariant-loop-p : goal.invariant-loop-p
invariant-loop-p l = l.made ++ times_by l.number (drop l.p-index l.parts) ≡ times_by l.number l.parts
