use Rattle.std.proofs.Common.{◌≡◌, ◌-◌}
use Rattle.sd_parse.specs.declared.class.TokenClass.TheVariants as s
use Rattle.sd_parse.specs.Reading.{many}
use Rattle.sd_parse.specs.ReadingRows.{is, keep}
use Rattle.sd_parse.specs.ReadingClauses.{next_datum, more_data}
use Rattle.sd_parse.proofs.attribute.more_data.Given as goal

abbrev pub invariant-loop-turn : goal.invariant-loop-turn
invariant-loop-turn l = more_data l.fn.limit l.fn.tokens ≡ many (is s.Comma) (next_datum l.limit) keep (l._turn-end - l._turn) tt l.tokens
