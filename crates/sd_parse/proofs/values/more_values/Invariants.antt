use Rattle.std.proofs.Common.{◌≡◌, ◌-◌}
use Rattle.sd_parse.specs.declared.class.TokenClass.TheVariants as s
use Rattle.sd_parse.specs.Reading.{many}
use Rattle.sd_parse.specs.ReadingRows.{is, push, more}
use Rattle.sd_parse.specs.ReadingRows as rows
use Rattle.sd_parse.specs.ReadingClauses.{expression}
use Rattle.sd_parse.proofs.values.more_values.Given as goal

abbrev pub invariant-loop-turn : goal.invariant-loop-turn
invariant-loop-turn l = more (expression l.fn.depth) l.fn.values l.fn.tokens ≡ many (is s.Comma) (rows.next (expression l.depth)) push (l._turn-end - l._turn) l.values l.tokens
