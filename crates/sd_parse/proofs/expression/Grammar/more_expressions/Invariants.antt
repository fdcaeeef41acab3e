use Rattle.std.proofs.Common.{◌≡◌, ◌-◌, ◌≤◌}
use Rattle.sd_parse.specs.Reading.{many, comma, next_expression, add, more_expressions, read}
use Rattle.sd_parse.proofs.expression.Grammar.more_expressions.Given as goal

abbrev pub invariant-loop-turn : goal.invariant-loop-turn
invariant-loop-turn g l = record {
  reads : more_expressions l.self.depth (read l.self.depth) l.fn.first l.fn.tokens ≡ many comma (next_expression l.self.depth (read l.self.depth)) add (l._turn-end - l._turn) l.group l.tokens;
  low : l.group.1 ≤ l.self.depth;
}
