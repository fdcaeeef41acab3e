use Rattle.std.proofs.Common.{sym, ◌∙◌, ap, subst, ◌≡◌, ◌≤◌, drop, length, Some, None}
use Rattle.std.specs.List.{prefix_len}
use Rattle.sd_lex.specs.Pieces.{is_in_line, after_comment}
use Rattle.sd_lex.proofs.Cuts.{tail_of}
use Rattle.sd_lex.proofs.Slashes.{line_cut, comment_cut, open_cut, alone_cut}
use Rattle.sd_lex.proofs.lex.slash_at.Goals as goal

pub returns-then-second-eq47 : goal.returns-then-second-eq47
returns-then-second-eq47 c = line_cut c.args.text.now _ c.requires (sym c.byte-second.ensures ∙ c.if-second-eq47.true) (c.line_len.ensures.value ∙ ap (prefix_len is_in_line) (tail_of 2 c.args.text.now))

pub returns-in-Some : goal.returns-in-Some
returns-in-Some c =
    let e = subst (λ t. (c.in-Some.len ≤ length t) × (after_comment 0 t ≡ Some (drop c.in-Some.len t))) (tail_of 2 c.args.text.now) c.in-Some.ensures in
    comment_cut c.args.text.now _ c.requires (sym c.byte-second.ensures ∙ c.if-second-eq42.true) e.0 e.1

pub returns-in-None : goal.returns-in-None
returns-in-None c = open_cut c.args.text.now c.requires (sym c.byte-second.ensures ∙ c.if-second-eq42.true) (subst (λ t. after_comment 0 t ≡ None) (tail_of 2 c.args.text.now) c.in-None.ensures)

pub returns : goal.returns
returns c = alone_cut c.args.text.now _ c.requires (λ e. c.if-second-eq47.false (c.byte-second.ensures ∙ e)) (λ e. c.if-second-eq42.false (c.byte-second.ensures ∙ e)) c.in_ok-name.ensures
