-- What clap matches on the words of a command.
use Rattle.std.proofs.Common.{◌≡◌, ◌∙◌, List, [], Some, None, ap, sym, cond}
use Rattle.clap.specs.Words.{App, Row, Text, fault_of, matches_of}
use Rattle.clap.specs.Walk.{is_empty}
use Rattle.sd_words.specs.Commands.{rows_of_words}

pub rows-matched : (command : App) (words : List Text) (rows : List Row) → fault_of command words ≡ [] → rows ≡ matches_of command words → Some rows ≡ rows_of_words command words
rows-matched command words rows none is =
    ap Some is ∙ sym (ap (λ kinds. cond (is_empty kinds) (Some (matches_of command words)) None) none)
