-- How a meaning interprets a core program.
use Rattle.sd_base.specs.Meaning.{Meaning, Interpretation, interpretation}
use Rattle.sd_core.specs.declared.tree.CoreProgram.{CoreProgram}

-- what the functions, constants and types of a core program stand for
abbrev pub core_interpretation : CoreProgram → Meaning → Interpretation
core_interpretation P M = interpretation M
