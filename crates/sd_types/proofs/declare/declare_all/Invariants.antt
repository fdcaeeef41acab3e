use Rattle.std.proofs.Common.{◌≡◌, drop}
use Rattle.sd_types.specs.Names.{is_among}
use Rattle.sd_types.specs.Declarations.{enter_all_of}
use Rattle.sd_types.proofs.declare.declare_all.Given as goal

abbrev pub invariant-loop-decl : goal.invariant-loop-decl
invariant-loop-decl l =
    enter_all_of (is_among l.procedures) l.initial.scope l.decl-items ≡ enter_all_of (is_among l.procedures) l.scope (drop l.decl-index l.decl-items)
