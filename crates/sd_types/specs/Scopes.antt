-- What names stand for at a place of a text.
use Rattle.std.specs.Prelude.{Bool, true, false, List, Option, None, Some, Result, Ok, Err, if◌then◌else◌}
use Rattle.sd_base.specs.Value.{Text}
use Rattle.sd_types.specs.declared.refusal.TypeError.{TypeError}
use Rattle.sd_types.specs.declared.refusal.TypeError.TheVariants.{Unknown}
use Rattle.sd_types.specs.declared.scope.Nature.{Nature}
use Rattle.sd_types.specs.declared.scope.Nature.TheVariants.{Constant, Output}
use Rattle.sd_types.specs.declared.scope.Site.{Site}
use Rattle.sd_types.specs.declared.scope.Site.TheVariants.{Axiom, Requires, Ensures, Body}
use Rattle.sd_types.specs.declared.scope.Variable.{Variable}
use Rattle.sd_types.specs.declared.scope.Signature.{Signature}
use Rattle.sd_types.specs.declared.scope.Scope.{Scope}
use Rattle.sd_types.specs.Tables.{named}

-- axioms name no globals, and `requires` no out-parameters
abbrev pub may_name : Site → Nature → Bool
may_name Axiom Constant = true
may_name Axiom _ = false
may_name Requires Output = false
may_name _ _ = true

-- `old` stands in bodies and `ensures` alone
abbrev pub has_old : Site → Bool
has_old Ensures = true
has_old Body = true
has_old _ = false

abbrev pub if_named : Site → Option Variable → Option Variable
if_named site None = None
if_named site (Some v) = if may_name site v.nature then Some v else None

-- a parameter or local hides a global or constant
abbrev pub or_global : Option Variable → Option Variable → Option Variable
or_global (Some v) global = Some v
or_global None global = global

abbrev pub variable_at : Scope → List (Text × Variable) → Site → Text → Option Variable
variable_at G locals site x = if_named site (or_global (named locals x) (named G.globals x))

-- what expressions see
pub record Context : Type 0 where
  pub variable : Text → Option Variable
  pub function : Text → Option Signature
  pub old : Bool

abbrev pub context : Scope → List (Text × Variable) → Site → Context
context G locals site =
    record { variable = variable_at G locals site; function = named G.functions; old = has_old site }

-- what a name is declared as
abbrev pub declared_as : {X : Type 0} → Text → Option X → Result X TypeError
declared_as x None = Err (Unknown x)
declared_as x (Some v) = Ok v
