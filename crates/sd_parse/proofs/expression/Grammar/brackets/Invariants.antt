use Rattle.std.proofs.Common.{◌≡◌, ◌-◌, ◌≤◌, suc}
use Rattle.sd_parse.specs.Reading.{brackets, read}
use Rattle.sd_parse.proofs.expression.Grammar.brackets.Given as goal

abbrev pub invariant-loop-turn : goal.invariant-loop-turn
invariant-loop-turn g l = record {
  reads : brackets l.self.depth (read l.self.depth) (suc l.self.depth) l.fn.first l.fn.tokens ≡ brackets l.self.depth (read l.self.depth) (l._turn-end - l._turn) l.x l.tokens;
  low : l.x.1 ≤ suc l.self.depth;
}
