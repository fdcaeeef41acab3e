use Rattle.std.proofs.Common.{◌≡◌, ◌-◌}
use Rattle.sd_parse.specs.Reading.{many}
use Rattle.sd_parse.specs.ReadingRows.{push}
use Rattle.sd_parse.specs.ReadingStatements.{begins_statement, statement, statements}
use Rattle.sd_parse.proofs.statement.Nested.statements.Given as goal

abbrev pub invariant-loop-turn : goal.invariant-loop-turn
invariant-loop-turn g l = statements l.self.limit l.self.depth (statement l.self.limit l.self.depth) l.fn.tokens ≡ many begins_statement (statement l.self.limit l.self.depth) push (l._turn-end - l._turn) l.found l.tokens
