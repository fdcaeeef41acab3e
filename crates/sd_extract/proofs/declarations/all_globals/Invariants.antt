use Rattle.std.proofs.Common.{◌≡◌, ◌++◌, drop}
use Rattle.sd_meaning.specs.Inputs.{globals_in}
use Rattle.sd_extract.proofs.declarations.all_globals.Given as goal

abbrev pub invariant-loop-decl : goal.invariant-loop-decl
invariant-loop-decl l = l.out ++ globals_in (drop l.decl-index l.decls) ≡ globals_in l.decls
