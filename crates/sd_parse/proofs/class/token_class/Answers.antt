use Rattle.std.proofs.Common.{sym, ap, ◌∙◌}
use Rattle.sd_parse.specs.TokenClasses.{class_of_kind, words, symbols}
use Rattle.sd_parse.proofs.class.token_class.Goals as goal

pub returns-in-Word : goal.returns-in-Word
unfolding class_of_kind words
returns-in-Word c = c.class_in.ensures ∙ sym (ap class_of_kind c.in-Word.is)

pub returns-in-Symbol : goal.returns-in-Symbol
unfolding class_of_kind symbols
returns-in-Symbol c = c.class_in-in-Symbol.ensures ∙ sym (ap class_of_kind c.in-Symbol.is)
