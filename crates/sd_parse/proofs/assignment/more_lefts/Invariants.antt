use Rattle.std.proofs.Common.{◌≡◌, ◌-◌}
use Rattle.sd_parse.specs.declared.class.TokenClass.TheVariants as s
use Rattle.sd_parse.specs.Reading.{many}
use Rattle.sd_parse.specs.ReadingRows.{is, push, more}
use Rattle.sd_parse.specs.ReadingRows as rows
use Rattle.sd_parse.specs.ReadingStatements.{plain_left}
use Rattle.sd_parse.proofs.assignment.more_lefts.Given as goal

abbrev pub invariant-loop-turn : goal.invariant-loop-turn
invariant-loop-turn l = more (plain_left l.fn.depth) l.fn.lefts l.fn.tokens ≡ many (is s.Comma) (rows.next (plain_left l.depth)) push (l._turn-end - l._turn) l.lefts l.tokens
