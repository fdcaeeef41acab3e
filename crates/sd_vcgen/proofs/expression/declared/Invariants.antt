use Rattle.std.proofs.Common.{◌≡◌, drop}
use Rattle.sd_core.specs.Formed.{declared_as}
use Rattle.sd_vcgen.proofs.expression.declared.Given as goal

abbrev pub invariant-loop-function : goal.invariant-loop-function
invariant-loop-function l = declared_as l.constant (drop l.function-index l.functions) l.name ≡ declared_as l.constant l.functions l.name
