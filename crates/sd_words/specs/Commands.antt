-- The simple commands of clap that the jobs are.
use Rattle.std.specs.Prelude.{List, Option, None, Some, true, codes, if◌then◌else◌}
use Rattle.clap.specs.Words.{App, Row, Rule, Text, fault_of, matches_of, new_app, new_rule, with_rule}
use Rattle.clap.specs.Walk.{is_empty}
use Rattle.clap.specs.declared.builder.action.ArgAction.TheVariants.{Set}

-- an argument that stands in its place
abbrev pub positional : Text → Rule
positional name = record (new_rule name) { action = Some Set; required = true }

-- an argument that may stand after its name
abbrev pub option : Text → Rule
option name = record (new_rule name) { long = Some name; action = Some Set }

-- the command of this name, with the two texts as its first arguments
abbrev pub command_on_texts : Text → App
command_on_texts name =
    with_rule (with_rule (new_app name) (positional (codes "OLD"))) (positional (codes "NEW"))

-- `verify OLD NEW [--workers N] [--leaves N] [--certificate FILE]`
abbrev pub verify_command : App
verify_command =
    with_rule (with_rule (with_rule (command_on_texts (codes "verify")) (option (codes "workers")))
    (option (codes "leaves"))) (option (codes "certificate"))

-- `replay OLD NEW CERTIFICATE`
abbrev pub replay_command : App
replay_command = with_rule (command_on_texts (codes "replay")) (positional (codes "CERTIFICATE"))

-- what clap matches on the words, of which the first is the command's name, where it finds no fault in them
abbrev pub rows_of_words : App → List Text → Option (List Row)
rows_of_words command words = if is_empty (fault_of command words) then Some (matches_of command words) else None
