use Rattle.std.proofs.Common.{◌≡◌, ◌≤◌, take}
use Rattle.sd_parse.specs.Counts.{procedures}
use Rattle.sd_parse.proofs.count.procedures.Given as goal

abbrev pub invariant-decls : goal.invariant-decls
invariant-decls l = record { counted : l.found ≡ procedures (take l.decl-index l.decls); within : l.found ≤ l.decl-index }
