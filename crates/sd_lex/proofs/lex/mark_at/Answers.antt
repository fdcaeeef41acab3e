use Rattle.std.proofs.Common.{sym, ◌∙◌, ap, subst, length, Some, true, false}
use Rattle.sd_lex.specs.declared.token.Piece.TheVariants.{Whole, Unsupported}
use Rattle.sd_lex.specs.declared.token.TokenKind.TheVariants.{Symbol}
use Rattle.sd_lex.specs.Pieces.{BeginsWith, mark}
use Rattle.sd_lex.specs.Tables.{marks}
use Rattle.sd_lex.proofs.Marks.{mark_cut, none_cut}
use Rattle.sd_lex.proofs.lex.mark_at.Goals as goal

pub returns-then-supported : goal.returns-then-supported
unfolding mark marks
returns-then-supported c =
    let cut = mark_cut c.args.text.now c.in-Some.mark.now true c.requires (c.in-Some.ensures ∙ ap (λ s. Some (c.in-Some.mark.now, s)) c.if-supported.true) in
    let name = c.in_ok-name-in-Some.ensures in
    subst (λ n. BeginsWith c.args.text.now (Whole (Symbol n)) (length c.in-Some.mark.now)) (sym name) cut

pub returns-else-supported : goal.returns-else-supported
unfolding mark marks
returns-else-supported c =
    let cut = mark_cut c.args.text.now c.in-Some.mark.now false c.requires (c.in-Some.ensures ∙ ap (λ s. Some (c.in-Some.mark.now, s)) c.if-supported.false) in
    let name = c.in_ok-name-in-Some.ensures in
    subst (λ n. BeginsWith c.args.text.now (Unsupported n) (length c.in-Some.mark.now)) (sym name) cut

pub returns-in-None : goal.returns-in-None
unfolding marks
returns-in-None c = none_cut c.args.text.now c.requires c.in-None.ensures
