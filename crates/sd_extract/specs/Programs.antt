-- The core program of a source program.
use Rattle.std.specs.Prelude.{true, false, List, [], ◌∷◌, ◌++◌, map}
use Rattle.sd_base.specs.declared.Sort.{Sort}
use Rattle.sd_base.specs.Value.{Text}
use Rattle.sd_ast.specs.declared.Decl.{Decl}
use Rattle.sd_ast.specs.declared.Decl.TheVariants as decl
use Rattle.sd_ast.specs.declared.Expr.{Expr}
use Rattle.sd_ast.specs.declared.Program.{Program}
use Rattle.sd_meaning.specs.Inputs.{globals_in, uniques_in}
use Rattle.sd_core.specs.declared.CoreExpr.{CoreExpr}
use Rattle.sd_core.specs.declared.Function.{Function}
use Rattle.sd_core.specs.declared.CoreProgram.{CoreProgram}
use Rattle.sd_extract.specs.Names.{Names, core_of}
use Rattle.sd_extract.specs.Extract.{core_procs}

abbrev pub constants_named : List Text → Sort → List Function
constants_named names sort = map (λ c. record { name = c; args = []; result = sort; constant = true }) names

-- the functions and constants, in text order
abbrev pub functions_in : List Decl → List Function
functions_in [] = []
functions_in (decl.Function f args result ∷ ds) =
    record { name = f; args = args; result = result; constant = false } ∷ functions_in ds
functions_in (decl.Const unique names sort ∷ ds) = constants_named names sort ++ functions_in ds
functions_in (_ ∷ ds) = functions_in ds

-- the axioms, in text order
abbrev pub axioms_in : List Decl → List Expr
axioms_in [] = []
axioms_in (decl.Axiom e ∷ ds) = e ∷ axioms_in ds
axioms_in (_ ∷ ds) = axioms_in ds

-- axioms name no variables
abbrev pub no_names : Names
no_names = record { local_names = []; locals = []; global_names = []; globals = []; entry = [] }

abbrev pub core_axiom : Expr → CoreExpr
core_axiom e = core_of no_names e.kind

abbrev pub core_program : Program → CoreProgram
core_program P = record {
  procs = core_procs P;
  globals = globals_in P.decls;
  functions = functions_in P.decls;
  axioms = map core_axiom (axioms_in P.decls);
  uniques = uniques_in P.decls;
}
