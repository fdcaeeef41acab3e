use Rattle.std.proofs.Common.{◌≡◌, ◌++◌, take}
use Rattle.std.specs.List.{flat_map}
use Rattle.sd_run.specs.Report.{only_line}
use Rattle.sd_run.proofs.report.push_all_only.Given as goal

abbrev pub invariant-procs : goal.invariant-procs
invariant-procs l = l.out.items ≡ l.initial.out.items ++ flat_map (only_line l.word l.others.procs.now) (take l.proc-index l.procs)
