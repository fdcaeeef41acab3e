use Rattle.std.proofs.Common.{◌≡◌, ◌-◌}
use Rattle.sd_parse.specs.declared.class.TokenClass.TheVariants as s
use Rattle.sd_parse.specs.Reading.{many}
use Rattle.sd_parse.specs.ReadingRows.{is, join_lists}
use Rattle.sd_parse.specs.ReadingRows as rows
use Rattle.sd_parse.specs.ReadingPrograms.{group, more_groups}
use Rattle.sd_parse.proofs.variables.more_groups.Given as goal

abbrev pub invariant-loop-turn : goal.invariant-loop-turn
invariant-loop-turn l = more_groups l.fn.limit l.fn.vars l.fn.tokens ≡ many (is s.Comma) (rows.next (group l.limit)) join_lists (l._turn-end - l._turn) l.vars l.tokens
