use Rattle.std.proofs.Common.{◌∙◌, ap}
use Rattle.std.specs.List.{prefix_len}
use Rattle.std.specs.Char.{is_ascii_digit}
use Rattle.sd_lex.proofs.Cuts.{number_cut, number_digits, tail_of}
use Rattle.sd_lex.proofs.lex.number_at.Goals as goal

pub number-requires : goal.number-requires
number-requires c = number_digits c.args.text.now _ c.requires (c.digits_len-len.ensures.value ∙ ap (prefix_len is_ascii_digit) (tail_of 1 c.args.text.now))

pub returns : goal.returns
returns c = number_cut c.args.text.now _ _ c.requires (c.digits_len-len.ensures.value ∙ ap (prefix_len is_ascii_digit) (tail_of 1 c.args.text.now)) c.number.ensures
