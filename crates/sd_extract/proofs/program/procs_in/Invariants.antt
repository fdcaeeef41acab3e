use Rattle.std.proofs.Common.{◌≡◌, ◌++◌, drop}
use Rattle.sd_extract.specs.Extract.{procs_from}
use Rattle.sd_extract.specs.Numbered.{program_of}
use Rattle.sd_extract.proofs.program.procs_in.Given as goal

abbrev pub invariant-loop-decl : goal.invariant-loop-decl
invariant-loop-decl l = l.out ++ procs_from (program_of l.callees) l.next (drop l.decl-index (program_of l.callees).decls) ≡ procs_from (program_of l.callees) 0 (program_of l.callees).decls
