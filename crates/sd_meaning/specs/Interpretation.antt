-- How a meaning interprets a program.
use Rattle.sd_base.specs.Meaning.{Meaning, Interpretation, interpretation}
use Rattle.sd_ast.specs.declared.Program.{Program}

-- what the functions, constants and types of a program stand for
abbrev pub interpretation_of : Program → Meaning → Interpretation
interpretation_of P M = interpretation M
