use Rattle.std.proofs.Common.{◌≡◌, ◌++◌, drop}
use Rattle.sd_extract.specs.Programs.{functions_in}
use Rattle.sd_extract.proofs.declarations.functions_of.Given as goal

abbrev pub invariant-loop-decl : goal.invariant-loop-decl
invariant-loop-decl l = l.out ++ functions_in (drop l.decl-index l.decls) ≡ functions_in l.decls
