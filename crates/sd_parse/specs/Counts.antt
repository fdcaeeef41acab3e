-- How many procedures and implementations a text has.
use Rattle.std.specs.Prelude.{ℕ, Bool, true, false, List, count_by}
use Rattle.sd_ast.specs.declared.Decl.{Decl}
use Rattle.sd_ast.specs.declared.Decl.TheVariants.{Procedure, Implementation}

unfoldable pub is_procedure : Decl → Bool
is_procedure (Procedure p) = true
is_procedure (Implementation i) = true
is_procedure _ = false

-- how many procedures and implementations the declarations have together
abbrev pub procedures : List Decl → ℕ
procedures ds = count_by is_procedure ds
