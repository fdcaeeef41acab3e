-- What extraction keeps, and what typing gives for it.
use Rattle.std.specs.Prelude.{◌↔◌, ◌≡◌, ◌≢◌, ◌⊎◌, ℕ, Bool, true, false, List, [], ◌∷◌, ◌++◌, map, length, get_or}
use Rattle.std.specs.Prelude.{Option, Some, None, option_map, slice_get}
use Rattle.std.specs.List.{IsDistinct}
use Rattle.sd_base.specs.Value.{Text, same_text, Value}
use Rattle.sd_base.specs.Meaning.{Meaning, interpretation, truth_of}
use Rattle.sd_ast.specs.declared.Program.{Program}
use Rattle.sd_ast.specs.declared.Proc.{Proc}
use Rattle.sd_ast.specs.declared.Expr.{Expr}
use Rattle.sd_ast.specs.declared.StmtKind.{StmtKind, Assign, Call, If', While', Break}
use Rattle.sd_ast.specs.declared.StmtKind.{Row_of-Stmt, end_of-Stmt, more_of-Stmt}
use Rattle.sd_ast.specs.Tree.{names_of}
use Rattle.sd_meaning.specs.Evaluate.{Store, value}
use Rattle.sd_meaning.specs.Interpretation.{interpretation_of}
use Rattle.sd_meaning.specs.Routine.{Routine, procedure_in, routine_named}
use Rattle.sd_meaning.specs.Inputs.{globals_in, nowhere}
use Rattle.sd_meaning.specs.Run.{Outcome, Ended, Failed, Blocked, Unfinished, named, run}
use Rattle.sd_meaning.specs.NewFailure.{NewFailure}
use Rattle.sd_types.specs.Declarations.{WellTyped}
use Rattle.sd_core.specs.declared.CoreProc.{CoreProc}
use Rattle.sd_core.specs.Run.{nothing, End, Ended as CoreEnded, Blocked as CoreBlocked, Unfinished as CoreUnfinished}
use Rattle.sd_core.specs.Run.{flag_run, is_true}
use Rattle.sd_core.specs.Interpretation.{core_interpretation}
use Rattle.sd_core.specs.Formed.{WellFormed}
use Rattle.sd_core.specs.Failure.{NewFailureOf}
use Rattle.sd_core.specs.Propositional.{IsPropositionalCore}
use Rattle.sd_extract.specs.Propositional.{IsPropositionalProgram}
use Rattle.sd_extract.specs.Extract.{Source, state_of, kinds, index_in, source_of, number_from, core_procs}
use Rattle.sd_extract.specs.Programs.{core_program, core_axiom, axioms_in}

-- ---- the laws

-- The run of the source and the run of the core have the same end.
pub record Exact (names : List Text) (r : Outcome) (e : End) : Type 0 where
  pub unfinished : (r ≡ Unfinished) ↔ (e ≡ CoreUnfinished)
  pub blocked : (r ≡ Blocked) ↔ (e ≡ CoreBlocked)
  pub failed : (r ≡ Failed) ↔ ((outs : List Value) × (later : List Value) × (e ≡ CoreEnded outs later true))
  pub ended : (outs later : List Value) → e ≡ CoreEnded outs later false → r ≡ Ended outs (named names later)
  pub ends : (outs : List Value) (globals : Store) → r ≡ Ended outs globals
      → (later : List Value) × (e ≡ CoreEnded outs later false) × (globals ≡ named names later)

-- the place of a procedure among the core procedures
abbrev pub number_of : Program → Text → ℕ
number_of P f = number_from P 0 P.decls f

-- With every number of steps, a run of a procedure with a body and the flagged run of its core procedure have the
-- same end.
abbrev pub RunsAreKept : Type 0
RunsAreKept =
    (P : Program) → WellTyped P → (M : Meaning) (n : ℕ) (f : Text) (d : Proc) (r : Routine)
    → procedure_in P.decls f ≡ Some d → routine_named P f ≡ Some r →
    (ins globals : List Value) → length ins ≡ length d.head.ins → length globals ≡ length (globals_in P.decls) →
    Exact (names_of (globals_in P.decls)) (run P M n f ins (named (names_of (globals_in P.decls)) globals))
    (flag_run (core_interpretation (core_program P) M) (core_program P).procs n (number_of P f) ins globals)

-- A procedure with a body has its name and its parameters in the core.
abbrev pub ProceduresAreKept : Type 0
ProceduresAreKept =
    (P : Program) (f : Text) (r : Routine) → WellTyped P → routine_named P f ≡ Some r →
    (p : CoreProc) × (slice_get (core_program P).procs (number_of P f) ≡ Some p) × (p.name ≡ f)
    × (p.parent ≡ None) × (p.ins ≡ r.head.ins) × (p.outs ≡ r.head.outs)

-- Axioms are as true as they were, one by one.
abbrev pub AxiomsAreKept : Type 0
AxiomsAreKept =
    (P : Program) (M : Meaning) → map (is_true (core_interpretation (core_program P) M))
    (map core_axiom (axioms_in P.decls))
    ≡ map (λ e. truth_of (value (interpretation_of P M) nowhere e.kind)) (axioms_in P.decls)

-- The core program of a well-typed program is well formed.
abbrev pub ExtractedIsFormed : Type 0
ExtractedIsFormed = (P : Program) → WellTyped P → WellFormed (core_program P)

-- A new failure of two programs is one of their core programs, and the other way round.
abbrev pub FailuresAreKept : Type 0
FailuresAreKept =
    (P Q : Program) (f g : Text) (r s : Routine) → WellTyped P → WellTyped Q
    → routine_named P f ≡ Some r → routine_named Q g ≡ Some s →
    NewFailure P Q f g ↔ NewFailureOf (core_program P) (core_program Q) (number_of P f) (number_of Q g)

-- The core program of a program over truth values, without calls and loops, is one too.
abbrev pub PropositionalIsKept : Type 0
PropositionalIsKept = (P : Program) → WellTyped P → IsPropositionalProgram P → IsPropositionalCore (core_program P)

-- Each procedure of the core that belongs to no loop is that of the text's procedure of its name, at that one's place.
abbrev pub RootsAreProcedures : Type 0
RootsAreProcedures =
    (P : Program) (i : ℕ) (p : CoreProc) → WellTyped P → slice_get (core_program P).procs i ≡ Some p → p.parent ≡ None →
    (r : Routine) × (routine_named P p.name ≡ Some r) × (i ≡ number_of P p.name)

-- ---- ends that are the same, and what typing gives

-- the numbers are none of these
abbrev pub NotIn : ℕ → List ℕ → Type 0
NotIn i [] = Unit {0}
NotIn i (m ∷ ms) = (i ≢ m) × NotIn i ms

-- a call that modifies these globals leaves the others
abbrev pub Keeps : List ℕ → List Value → List Value → Type 0
Keeps ms before after = (i : ℕ) → NotIn i ms → get_or after i nothing ≡ get_or before i nothing

-- An end of the source and an end of the core are the same.
abbrev pub SameEnds : List Text → List ℕ → List Value → Outcome → End → Type 0
SameEnds names ms at_start (Ended outs globals) e =
    (later : List Value) × (e ≡ CoreEnded outs later false) × (globals ≡ named names later)
    × (length later ≡ length at_start)
    × Keeps ms at_start later
SameEnds names ms at_start Failed e = (outs : List Value) × (later : List Value) × (e ≡ CoreEnded outs later true)
SameEnds names ms at_start Blocked e = e ≡ CoreBlocked
SameEnds names ms at_start Unfinished e = e ≡ CoreUnfinished

-- what is fixed for a whole program: its globals, and the number and the modified globals of each procedure
pub record Setting : Type 0 where
  pub program : Program
  pub globals : List Text
  pub number : Text → ℕ
  pub modifies : Text → List ℕ
  -- the procedures with a body
  pub source : Text → Option Source

abbrev pub Among : ℕ → List ℕ → Type 0
Among i [] = ⊥
Among i (m ∷ ms) = (i ≡ m) ⊎ Among i ms

-- an out or a local
pub record IsLocal (S : Source) (x : Text) : Type 0 where
  pub not_in : index_in S.routine.head.ins x ≡ None
  pub at : ℕ
  pub found : index_in (state_of S) x ≡ Some at

-- a global that the procedure modifies
pub record IsModified (S : Source) (x : Text) : Type 0 where
  pub not_in : index_in S.routine.head.ins x ≡ None
  pub not_local : index_in (state_of S) x ≡ None
  pub at : ℕ
  pub found : index_in S.globals x ≡ Some at
  pub modified : Among at S.modifies

-- what typing says of assigned variables
abbrev pub MayAssign : Source → List Text → Type 0
MayAssign S [] = Unit {0}
MayAssign S (x ∷ xs) = (IsLocal S x ⊎ IsModified S x) × MayAssign S xs

pub record CallFine (T : Setting) (S : Source) (xs : List Text) (f : Text) (es : List Expr) : Type 0 where
  pub callee : Proc
  pub source : Source
  pub declared : procedure_in T.program.decls f ≡ Some callee
  pub is_source : T.source f ≡ Some source
  pub arity : length es ≡ length callee.head.ins
  pub receivers : MayAssign S xs
  pub modifies : (i : ℕ) → Among i (T.modifies f) → Among i S.modifies

abbrev mutual
  pub IsFine : Setting → Source → (in_loop : Bool) → StmtKind → Type 0
  IsFine T S b (Assign ls es) = MayAssign S (map (λ l. l.name) ls)
  IsFine T S b (Call xs f es) = CallFine T S xs f es
  IsFine T S b (If' e shape x shape' y) = AreFine T S b x × AreFine T S b y
  IsFine T S b (While' e invs shape body) = AreFine T S true body
  IsFine T S b Break = b ≡ true
  IsFine T S b _ = Unit {0}

  pub AreFine : Setting → Source → (in_loop : Bool) → {m : _} → Row_of-Stmt m → Type 0
  AreFine T S b end_of-Stmt = Unit {0}
  AreFine T S b (more_of-Stmt p k ks) = IsFine T S b k × AreFine T S b ks

abbrev pub EachFine : Setting → Source → (in_loop : Bool) → List StmtKind → Type 0
EachFine T S b [] = Unit {0}
EachFine T S b (k ∷ ks) = IsFine T S b k × EachFine T S b ks

-- what the declaration of a source says
pub record SourceFine (T : Setting) (S : Source) : Type 0 where
  pub declared_ins : length S.routine.declared.head.ins ≡ length S.routine.head.ins
  pub own : IsDistinct same_text (names_of S.routine.head.ins ++ names_of (state_of S))
  pub stmts : EachFine T S false (kinds S)

abbrev pub source_named : Program → Text → Option Source
source_named P f = option_map (source_of (globals_in P.decls) (number_from P 0 P.decls f)) (routine_named P f)

abbrev pub modified_by : Option Source → List ℕ
modified_by None = []
modified_by (Some S) = S.modifies

abbrev pub setting_of : Program → Setting
setting_of P = record {
  program = P;
  globals = names_of (globals_in P.decls);
  number = number_from P 0 P.decls;
  modifies = λ f. modified_by (source_named P f);
  source = source_named P;
}

-- what typing says of a program
pub record ProgramFine (P : Program) : Type 0 where
  pub sources : (f : Text) (S : Source) → source_named P f ≡ Some S → SourceFine (setting_of P) S

-- the law: with every number of steps, a run of a procedure and the flagged run of its core procedure have the same end
abbrev pub ExtractedRuns : Type 0
ExtractedRuns =
    (P : Program) → ProgramFine P → (M : Meaning) (n : ℕ) (f : Text) (d : Proc) (S : Source) → procedure_in P.decls f
    ≡ Some d → source_named P f ≡ Some S → (ins globals : List Value) → length ins ≡ length d.head.ins
    → length globals ≡ length (names_of (globals_in P.decls))
    → Exact (names_of (globals_in P.decls)) (run P M n f ins (named (names_of (globals_in P.decls)) globals))
    (flag_run (interpretation M) (core_procs P) n (number_from P 0 P.decls f) ins globals)
