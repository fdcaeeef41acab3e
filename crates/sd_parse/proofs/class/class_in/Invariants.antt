use Rattle.std.proofs.Common.{◌≡◌, length, map}
use Rattle.sd_parse.specs.TokenClasses.{class_in}
use Rattle.sd_parse.proofs.class.class_in.Given as goal

abbrev pub invariant-loop-table : goal.invariant-loop-table
invariant-loop-table l = class_in (map (λ m. (m.0.now, m.1)) l.table) l.text ≡ class_in (map (λ m. (m.0.now, m.1)) l.initial.table) l.text

abbrev pub decreases-loop-table : goal.decreases-loop-table
decreases-loop-table l = length l.table
