-- Which meanings and which inputs count.
use Rattle.std.specs.Prelude.{◌≡◌, ◌≢◌, List, [], ◌∷◌, ◌++◌, Option, Some, None, map, IsTrue, true}
use Rattle.std.specs.List.{AllByRecursion, Contains}
use Rattle.sd_base.specs.declared.Sort.{Sort}
use Rattle.sd_base.specs.declared.Var.{Var}
use Rattle.sd_base.specs.Value.{Text, Value}
use Rattle.sd_base.specs.Sorts.{HasSort}
use Rattle.sd_ast.specs.declared.Decl.{Decl}
use Rattle.sd_ast.specs.declared.Decl.TheVariants.{Const, Function, Axiom, Globals}
use Rattle.sd_ast.specs.declared.Program.{Program}
use Rattle.sd_ast.specs.declared.Proc.{Proc}
use Rattle.sd_base.specs.Meaning.{Meaning, Table, truth_of}
use Rattle.sd_meaning.specs.Evaluate.{Store, State, value_of, value}
use Rattle.sd_meaning.specs.Interpretation.{interpretation_of}
use Rattle.sd_meaning.specs.Routine.{procedure_in}

-- ---- meanings

abbrev pub HasSorts : List Sort → List Value → Type 0
HasSorts [] [] = Unit {0}
HasSorts (s ∷ ss) (v ∷ vs) = HasSort s v × HasSorts ss vs
HasSorts _ _ = ⊥

abbrev pub HasSignature : List Sort → Sort → Table → Type 0
HasSignature args result t =
    HasSort result t.otherwise × AllByRecursion (λ row. HasSorts args row.0 × HasSort result row.1) t.rows

-- axioms name no variables
abbrev pub nowhere : State
nowhere = record { globals = []; entry = []; locals = [] }

-- a declaration of a program is true of its name: a function and a constant have their types, and an axiom holds
abbrev pub IsTrueOf : Program → Meaning → Decl → Type 0
IsTrueOf P M (Function f args result) = HasSignature args result (M.function f)
IsTrueOf P M (Const unique names sort) = AllByRecursion (λ c. HasSort sort (M.constant c)) names
IsTrueOf P M (Axiom e) = IsTrue (truth_of (value (interpretation_of P M) nowhere e.kind))
IsTrueOf P M _ = Unit {0}

abbrev pub constants_of_sort : List Text → Sort → List Var
constants_of_sort names sort = map (λ c. record { name = c; sort = sort }) names

abbrev pub uniques_in : List Decl → List Var
uniques_in [] = []
uniques_in (Const true names sort ∷ ds) = constants_of_sort names sort ++ uniques_in ds
uniques_in (_ ∷ ds) = uniques_in ds

-- the constants of one type have different values
abbrev pub AreDistinct : Meaning → List Var → Type 0
AreDistinct M [] = Unit {0}
AreDistinct M (c ∷ cs) =
    AllByRecursion (λ d. c.sort ≡ d.sort → M.constant c.name ≢ M.constant d.name) cs × AreDistinct M cs

-- a meaning of the functions, constants and types of two texts
pub record IsMeaning (old new : Program) (M : Meaning) : Type 0 where
  pub starts : (s : Sort) → HasSort s (M.start s)
  pub old_true : AllByRecursion (IsTrueOf old M) old.decls
  pub new_true : AllByRecursion (IsTrueOf new M) new.decls
  pub old_unique : AreDistinct M (uniques_in old.decls)
  pub new_unique : AreDistinct M (uniques_in new.decls)

-- ---- inputs

abbrev pub globals_in : List Decl → List Var
globals_in [] = []
globals_in (Globals vs ∷ ds) = vs ++ globals_in ds
globals_in (_ ∷ ds) = globals_in ds

-- these variables, each with a value of its type
abbrev pub IsStoreOf : List Var → Store → Type 0
IsStoreOf [] [] = Unit {0}
IsStoreOf (x ∷ xs) (v ∷ vs) = (v.0 ≡ x.name) × HasSort x.sort v.1 × IsStoreOf xs vs
IsStoreOf _ _ = ⊥

abbrev pub in_sorts : Option Proc → List Sort
in_sorts None = []
in_sorts (Some p) = map (λ x. x.sort) p.head.ins

-- typed inputs of the procedure f
pub record IsInput (P : Program) (f : Text) (ins : List Value) (globals : Store) : Type 0 where
  pub ins_typed : HasSorts (in_sorts (procedure_in P.decls f)) ins
  pub globals_typed : IsStoreOf (globals_in P.decls) globals

-- The in-parameters are equal by position, and so is each global that both programs declare with one name and type.
pub record SameInput (P Q : Program) (f g : Text) (ins : List Value) (globals : Store) (ins' : List Value)
    (globals' : Store) : Type 0 where
  pub old_input : IsInput P f ins globals
  pub new_input : IsInput Q g ins' globals'
  pub same_ins : ins ≡ ins'
  pub same_globals : (x : Var) → Contains (globals_in P.decls) x → Contains (globals_in Q.decls) x
      → value_of globals x.name ≡ value_of globals' x.name
