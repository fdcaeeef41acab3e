use Rattle.std.proofs.Common.{◌≡◌, ◌++◌, drop}
use Rattle.sd_meaning.specs.Inputs.{uniques_in}
use Rattle.sd_extract.proofs.declarations.uniques_of.Given as goal

abbrev pub invariant-loop-decl : goal.invariant-loop-decl
invariant-loop-decl l = l.out ++ uniques_in (drop l.decl-index l.decls) ≡ uniques_in l.decls
