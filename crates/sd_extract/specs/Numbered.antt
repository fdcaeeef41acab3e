-- The procedures of a program, as code keeps them.
use Rattle.std.specs.Prelude.{ℕ}
use Rattle.sd_base.specs.Value.{Text}
use Rattle.sd_ast.specs.declared.Program.{Program}
use Rattle.sd_extract.specs.declared.callees.Callees.{Callees}
use Rattle.sd_extract.specs.Extract.{number_from}

abbrev pub program_of : Callees → Program
program_of c = record { decls = c.routines.decls.now }

abbrev pub number_of : Callees → Text → ℕ
number_of c = number_from (program_of c) 0 c.routines.decls.now
