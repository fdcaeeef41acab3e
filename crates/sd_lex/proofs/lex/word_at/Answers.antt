use Rattle.std.proofs.Common.{◌∙◌, ap}
use Rattle.std.specs.List.{prefix_len}
use Rattle.sd_lex.specs.Pieces.{is_name_byte}
use Rattle.sd_lex.proofs.Cuts.{word_cut, tail_of}
use Rattle.sd_lex.proofs.lex.word_at.Goals as goal

pub returns : goal.returns
returns c = word_cut c.args.text.now _ _ c.requires (c.name_len-len.ensures.value ∙ ap (prefix_len is_name_byte) (tail_of 1 c.args.text.now)) c.in_ok-word.ensures
