use Rattle.std.proofs.Common.{◌≡◌, ◌-◌}
use Rattle.sd_parse.specs.declared.class.TokenClass.TheVariants as s
use Rattle.sd_parse.specs.Reading.{many}
use Rattle.sd_parse.specs.ReadingRows.{is, push, more}
use Rattle.sd_parse.specs.ReadingRows as rows
use Rattle.sd_parse.specs.ReadingPrograms.{argument}
use Rattle.sd_parse.proofs.function.more_arguments.Given as goal

abbrev pub invariant-loop-turn : goal.invariant-loop-turn
invariant-loop-turn l = more (argument l.fn.limit) l.fn.sorts l.fn.tokens ≡ many (is s.Comma) (rows.next (argument l.limit)) push (l._turn-end - l._turn) l.sorts l.tokens
