use Rattle.std.proofs.Common.{◌≡◌, ◌-◌}
use Rattle.sd_parse.specs.declared.class.TokenClass.TheVariants as s
use Rattle.sd_parse.specs.Reading.{many}
use Rattle.sd_parse.specs.ReadingRows.{is, join_lists}
use Rattle.sd_parse.specs.ReadingPrograms.{var_line, locals}
use Rattle.sd_parse.proofs.variables.locals.Given as goal

abbrev pub invariant-loop-turn : goal.invariant-loop-turn
invariant-loop-turn l = locals l.fn.limit l.fn.tokens ≡ many (is s.Var) (var_line l.limit) join_lists (l._turn-end - l._turn) l.vars l.tokens
