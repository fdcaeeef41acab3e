-- Counts as code keeps them.
use Rattle.std.specs.Prelude.{Bool, false, ◌||◌, List, [], ◌∷◌}
use Rattle.sd_ast.specs.declared.StmtKind.{StmtKind}
use Rattle.sd_extract.specs.declared.counts.Counts.{Counts as Kept}
use Rattle.sd_extract.specs.Extract.{Counts, has_return}

abbrev pub counts_in : Kept → Counts
counts_in c = record { calls = c.calls; args = c.args; lefts = c.lefts; loops = c.loops }

-- whether a return stands among the statements, or in a loop inside them
abbrev pub has_return_among : List StmtKind → Bool
has_return_among [] = false
has_return_among (k ∷ ks) = has_return k || has_return_among ks
