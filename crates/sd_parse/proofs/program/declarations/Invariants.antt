use Rattle.std.proofs.Common.{◌≡◌, ◌-◌}
use Rattle.sd_parse.specs.Reading.{many}
use Rattle.sd_parse.specs.ReadingRows.{push}
use Rattle.sd_parse.specs.ReadingPrograms.{begins_declaration, declaration, declarations}
use Rattle.sd_parse.proofs.program.declarations.Given as goal

abbrev pub invariant-loop-turn : goal.invariant-loop-turn
invariant-loop-turn l = declarations l.fn.limit l.fn.tokens ≡ many begins_declaration (declaration l.limit) push (l._turn-end - l._turn) l.decls l.tokens
