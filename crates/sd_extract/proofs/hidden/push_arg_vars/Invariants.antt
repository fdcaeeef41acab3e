use Rattle.std.proofs.Common.{◌≡◌, ◌++◌, drop}
use Rattle.sd_extract.specs.Extract.{arg_vars}
use Rattle.sd_extract.proofs.hidden.push_arg_vars.Given as goal

abbrev pub invariant-loop-var : goal.invariant-loop-var
invariant-loop-var l = l.out ++ arg_vars l.call l.place (drop l.var-index l.ins) ≡ l.initial.out ++ arg_vars l.call 1 l.ins
