use Rattle.std.proofs.Common.{◌≡◌, drop}
use Rattle.std.specs.List.{filter}
use Rattle.sd_match.specs.Pairs.{least}
use Rattle.sd_match.specs.Tables.{lacks, lower}
use Rattle.sd_match.proofs.unmatched.least_callee.Given as goal

abbrev pub invariant-callees : goal.invariant-callees
invariant-callees l = lower l.least (least (filter (lacks l.partners) (drop l.place l.callees.items))) ≡ least (filter (lacks l.partners) l.callees.items)
