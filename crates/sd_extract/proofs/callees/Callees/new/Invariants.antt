use Rattle.std.proofs.Common.{◌≡◌, drop}
use Rattle.std.specs.Prelude.{unwrap_or}
use Rattle.std.specs.HashMap.{get}
use Rattle.sd_base.specs.Value.{Text, same_text}
use Rattle.sd_extract.specs.Extract.{number_from}
use Rattle.sd_extract.proofs.callees.Callees.new.Given as goal

abbrev pub invariant-loop-decl : goal.invariant-loop-decl
invariant-loop-decl l =
    (f : Text) → unwrap_or (get same_text l.numbers f) (number_from (record { decls = l.routines.decls.now }) l.next (drop l.decl-index l.routines.decls.now) f) ≡ number_from (record { decls = l.routines.decls.now }) 0 l.routines.decls.now f
