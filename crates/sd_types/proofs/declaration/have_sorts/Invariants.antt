use Rattle.std.proofs.Common.{◌≡◌, drop}
use Rattle.sd_types.specs.Declarations.{have_sorts}
use Rattle.sd_types.proofs.declaration.have_sorts.Given as goal

abbrev pub invariant-loop-i : goal.invariant-loop-i
invariant-loop-i l = have_sorts l.sorts l.vars ≡ have_sorts (drop l.i l.sorts) (drop l.i l.vars)
