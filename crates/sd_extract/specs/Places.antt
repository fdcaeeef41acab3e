-- Where the procedures and implementations of a program stand.
use Rattle.std.specs.Prelude.{ℕ, Bool, false, List, Option, Some, None, slice_get}
use Rattle.sd_base.specs.Value.{Text, same_text}
use Rattle.sd_ast.specs.declared.Decl.{Decl}
use Rattle.sd_ast.specs.declared.Decl.TheVariants.{Procedure, Implementation}
use Rattle.sd_ast.specs.declared.Proc.{Proc}
use Rattle.sd_ast.specs.declared.Impl.{Impl}

-- what stands at a place, if there is a place
abbrev pub item_at : {A : Type 0} → List A → Option ℕ → Option A
item_at xs None = None
item_at xs (Some i) = slice_get xs i

-- the procedure that a declaration is, if it is one
abbrev pub procedure_of : Option Decl → Option Proc
procedure_of (Some (Procedure p)) = Some p
procedure_of _ = None

abbrev pub implementation_of : Option Decl → Option Impl
implementation_of (Some (Implementation i)) = Some i
implementation_of _ = None

abbrev pub is_procedure_named : Text → Decl → Bool
is_procedure_named f (Procedure p) = same_text f p.head.name
is_procedure_named f _ = false

abbrev pub is_implementation_named : Text → Decl → Bool
is_implementation_named f (Implementation i) = same_text f i.head.name
is_implementation_named f _ = false
