use Rattle.std.proofs.Common.{◌≡◌, drop}
use Rattle.sd_types.specs.declared.scope.Nature.TheVariants.{Global}
use Rattle.sd_types.specs.Tables.{with_entries}
use Rattle.sd_types.specs.Declarations.{variables_as}
use Rattle.sd_types.proofs.declare.declare_globals.Given as goal

abbrev pub invariant-loop-var : goal.invariant-loop-var
invariant-loop-var l = with_entries l.initial.globals (variables_as Global l.var-items) ≡ with_entries l.globals (variables_as Global (drop l.var-index l.var-items))
