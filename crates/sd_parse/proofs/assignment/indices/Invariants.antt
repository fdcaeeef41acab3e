use Rattle.std.proofs.Common.{◌≡◌, ◌-◌}
use Rattle.sd_parse.specs.declared.class.TokenClass.TheVariants as s
use Rattle.sd_parse.specs.Reading.{many}
use Rattle.sd_parse.specs.ReadingRows.{is, push}
use Rattle.sd_parse.specs.ReadingStatements.{index, indices}
use Rattle.sd_parse.proofs.assignment.indices.Given as goal

abbrev pub invariant-loop-turn : goal.invariant-loop-turn
invariant-loop-turn l = indices l.fn.depth l.fn.tokens ≡ many (is s.OpenBracket) (index l.depth) push (l._turn-end - l._turn) l.found l.tokens
