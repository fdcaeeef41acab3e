use Rattle.std.proofs.Common.{◌≡◌, ◌++◌, take}
use Rattle.std.specs.List.{flat_map}
use Rattle.sd_run.specs.Report.{verdict_line}
use Rattle.sd_run.proofs.report.push_verdicts.Given as goal

abbrev pub invariant-verdicts : goal.invariant-verdicts
invariant-verdicts l = l.out.items ≡ l.initial.out.items ++ flat_map verdict_line (take l.verdict-index l.verdicts)
