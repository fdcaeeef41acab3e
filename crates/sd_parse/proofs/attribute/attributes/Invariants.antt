use Rattle.std.proofs.Common.{◌≡◌, ◌-◌}
use Rattle.sd_parse.specs.declared.class.TokenClass.TheVariants as s
use Rattle.sd_parse.specs.Reading.{many}
use Rattle.sd_parse.specs.ReadingRows.{is, keep}
use Rattle.sd_parse.specs.ReadingClauses.{attribute, attributes}
use Rattle.sd_parse.proofs.attribute.attributes.Given as goal

abbrev pub invariant-loop-turn : goal.invariant-loop-turn
invariant-loop-turn l = attributes l.fn.limit l.fn.tokens ≡ many (is s.OpenAttribute) (attribute l.limit) keep (l._turn-end - l._turn) tt l.tokens
