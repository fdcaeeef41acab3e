-- A procedure with its body, as code keeps it.
use Rattle.sd_meaning.specs.Routine.{Routine}
use Rattle.sd_extract.specs.declared.routine.Routine.{Routine as Kept}

abbrev pub routine_in : Kept → Routine
routine_in r = record { declared = r.declared.now; head = r.head.now; body = r.body.now }
