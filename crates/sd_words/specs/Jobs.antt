-- The job of the code, as its names.
use Rattle.std.specs.Prelude.{⊤}
use Rattle.std.specs.Int.{IsInRange}
use Rattle.std.specs.Option.{option_copied}
use Rattle.sd_words.specs.declared.job.Task.{Task}
use Rattle.sd_words.specs.declared.job.Task.TheVariants.{Verify, Replay}
use Rattle.sd_words.specs.declared.job.Job.{Job}
use Rattle.sd_words.specs.Words.{JobNames, verify, replay}
use Rattle.sd_words.specs.Words as words

abbrev pub task_of : Task → words.Task
task_of (Verify workers leaves certificate) = verify workers leaves (option_copied certificate)
task_of (Replay name) = replay name.now

abbrev pub names_of : Job → JobNames
names_of job = record { old = job.old.now; new = job.new.now; task = task_of job.task }

-- from 1 to 64 threads, and from 1 to 20000 branches
abbrev pub IsInLimits : Task → Type 0
IsInLimits (Verify workers leaves certificate) = IsInRange 1 64 workers × IsInRange 1 20000 leaves
IsInLimits (Replay name) = ⊤
