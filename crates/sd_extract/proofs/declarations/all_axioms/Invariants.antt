use Rattle.std.proofs.Common.{◌≡◌, ◌++◌, map, drop}
use Rattle.sd_extract.specs.Programs.{axioms_in, core_axiom}
use Rattle.sd_extract.proofs.declarations.all_axioms.Given as goal

abbrev pub invariant-loop-decl : goal.invariant-loop-decl
invariant-loop-decl l = l.out ++ map core_axiom (axioms_in (drop l.decl-index l.decls)) ≡ map core_axiom (axioms_in l.decls)
