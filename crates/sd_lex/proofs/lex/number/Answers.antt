use Rattle.std.proofs.Common.{arith, sym, ◌∙◌, ap, ◌<◌, ◌^◌}
use Rattle.sd_lex.specs.Pieces.{decimal}
use Rattle.sd_lex.specs.declared.token.Piece.TheVariants.{Whole}
use Rattle.sd_lex.specs.declared.token.TokenKind.TheVariants.{Number}
use Rattle.sd_lex.proofs.Digits.{each_at, digit_at_least, past_limit, ended, fits}
use Rattle.sd_lex.proofs.lex.number.Goals as goal

pub overflow_sub-b : goal.overflow_sub-b
overflow_sub-b c = digit_at_least _ (each_at _ _ _ c.requires c.loop-b-test.true)

pub returns-then-value-digit : goal.returns-then-value-digit
returns-then-value-digit c = past_limit c.loop-b.value c.from-digit.result c.args.text.now c.loop-b.b-index c.loop-b-test.true c.loop-b.invariant c.from-digit.ensures (omega arith) c.if-value-digit.true

pub returns : goal.returns
returns c =
    let e = sym (ended c.loop-b.value c.args.text.now c.loop-b.b-index c.loop-b-test.false) ∙ c.loop-b.invariant in
    let small : decimal c.args.text.now < 2 ^ 64 = omega arith in
    ap (λ n. Whole (Number n)) e ∙ fits c.args.text.now small
