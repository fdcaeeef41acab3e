use Rattle.std.proofs.Common.{sym, ◌∙◌, ap}
use Rattle.std.specs.List.{prefix_len}
use Rattle.sd_lex.specs.Pieces.{is_in_string}
use Rattle.sd_lex.proofs.Cuts.{string_closed_cut, string_open_cut, tail_of}
use Rattle.sd_lex.proofs.lex.string_at.Goals as goal

pub returns-then-byte-ne34 : goal.returns-then-byte-ne34
returns-then-byte-ne34 c = string_open_cut c.args.text.now _ c.requires (c.string_len-len.ensures.value ∙ ap (prefix_len is_in_string) (tail_of 1 c.args.text.now)) (λ e. c.if-byte-ne34.true (c.byte.ensures ∙ e))

pub returns : goal.returns
returns c = string_closed_cut c.args.text.now _ _ c.requires (c.string_len-len.ensures.value ∙ ap (prefix_len is_in_string) (tail_of 1 c.args.text.now)) (sym c.byte.ensures ∙ c.if-byte-ne34.false) c.in_ok-body.ensures
