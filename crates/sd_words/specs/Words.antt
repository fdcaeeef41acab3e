-- What the words of the command line ask for.
use Rattle.std.specs.Prelude.{ℕ, Bool, true, not, ◌&&◌, List, [], ◌∷◌, Option, None, Some, codes, if◌then◌else◌}
use Rattle.std.specs.Prelude.{bytes_eq, option_and_then}
use Rattle.clap.specs.Words.{Row, Text, first_of}
use Rattle.sd_words.specs.Numbers.{number_to}
use Rattle.sd_words.specs.Commands.{verify_command, replay_command, rows_of_words}

-- Two texts are compared, by so many threads, with so many branches of a search at most, and a certificate is written
-- to the file of this name, if one is given; or a certificate of this name is replayed.
pub data Task : Type 0 where
  verify : ℕ → ℕ → Option Text → Task
  replay : Text → Task

-- the names of the two files of a job, and its task
pub record JobNames : Type 0 where
  pub old : Text
  pub new : Text
  pub task : Task

-- the number that an option gives, and another one where the option is absent
abbrev pub number_or : ℕ → ℕ → Option Text → Option ℕ
number_or absent most None = Some absent
number_or absent most (Some word) = number_to most word

abbrev pub workers_of : List Row → Option ℕ
workers_of rows = number_or 1 64 (first_of (codes "workers") rows)

abbrev pub leaves_of : List Row → Option ℕ
leaves_of rows = number_or 2000 20000 (first_of (codes "leaves") rows)

-- the certificate, if one is asked for, doesn't go to one of the two texts
abbrev pub is_another_file : Option Text → Text → Text → Bool
is_another_file None old new = true
is_another_file (Some file) old new = not (bytes_eq file old) && not (bytes_eq file new)

-- the job of the texts and numbers of `verify`, where none that it wants is missing
abbrev pub verify_of : Option Text → Option Text → Option ℕ → Option ℕ → Option Text → Option JobNames
verify_of (Some old) (Some new) (Some workers) (Some leaves) certificate =
    if is_another_file certificate old new
    then Some (record { old = old; new = new; task = verify workers leaves certificate }) else None
verify_of _ _ _ _ _ = None

-- the job of what clap matched on `verify OLD NEW [--workers N] [--leaves N] [--certificate FILE]`
abbrev pub verify_job : List Row → Option JobNames
verify_job rows =
    verify_of (first_of (codes "OLD") rows) (first_of (codes "NEW") rows) (workers_of rows) (leaves_of rows)
    (first_of (codes "certificate") rows)

abbrev pub replay_of : Option Text → Option Text → Option Text → Option JobNames
replay_of (Some old) (Some new) (Some certificate) =
    Some (record { old = old; new = new; task = replay certificate })
replay_of _ _ _ = None

-- the job of what clap matched on `replay OLD NEW CERTIFICATE`
abbrev pub replay_job : List Row → Option JobNames
replay_job rows =
    replay_of (first_of (codes "OLD") rows) (first_of (codes "NEW") rows) (first_of (codes "CERTIFICATE") rows)

-- The job of words of which `command` is the first. It says which simple command of clap reads them all.
abbrev pub job_by : Text → List Text → Option JobNames
job_by command words =
    if bytes_eq command (codes "verify") then option_and_then verify_job (rows_of_words verify_command words)
    else (if bytes_eq command (codes "replay") then option_and_then replay_job (rows_of_words replay_command words)
    else None)

-- the job that the words name
abbrev pub job_of : List Text → Option JobNames
job_of [] = None
job_of (command ∷ words) = job_by command (command ∷ words)
