use Rattle.std.proofs.Common.{◌≡◌, ◌-◌}
use Rattle.sd_parse.specs.declared.class.TokenClass.TheVariants as s
use Rattle.sd_parse.specs.Reading.{many}
use Rattle.sd_parse.specs.ReadingRows.{is, push, plain_name, more}
use Rattle.sd_parse.specs.ReadingRows as rows
use Rattle.sd_parse.proofs.names.more_names.Given as goal

abbrev pub invariant-loop-turn : goal.invariant-loop-turn
invariant-loop-turn l = more plain_name l.fn.names l.fn.tokens ≡ many (is s.Comma) (rows.next plain_name) push (l._turn-end - l._turn) l.names l.tokens
