use Rattle.std.proofs.Common.{map, string_bytes}
use Rattle.clap.specs.Words.{app_of, is_simple, rows_of, found_of}
use Rattle.clap.specs.Faults.{is_free_app}
use Rattle.clap.specs.Simple.{built}
use Rattle.clap.proofs.WalkLemmas.{both}
use Rattle.sd_words.proofs.CommandLemmas.{rows-matched}
use Rattle.sd_words.proofs.command.matches_in.Goals as goal

pub returns-in-Ok : goal.returns-in-Ok
returns-in-Ok c = λ free.
    let command = app_of c.args.command in
    let simple = both (is_simple command) (is_free_app (built command)) free in
    rows-matched command (map string_bytes c.args.words.now) (rows_of (found_of c.in-Ok.matches)) (c.in-Ok.ensures.kinds free) (c.in-Ok.ensures.matches simple.0).0
