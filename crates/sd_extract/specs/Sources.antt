-- Procedures with bodies as code keeps them.
use Rattle.std.specs.Prelude.{◌≡◌, ℕ, ◌+◌, Bool, false, List, [], ◌∷◌, ◌++◌, length, map, codes, if◌then◌else◌}
use Rattle.sd_base.specs.declared.Sort as sort
use Rattle.sd_base.specs.declared.Var.{Var}
use Rattle.sd_base.specs.Value.{Text}
use Rattle.sd_ast.specs.declared.Expr.{Expr}
use Rattle.sd_ast.specs.declared.Proc.{Proc}
use Rattle.sd_ast.specs.declared.Program.{Program}
use Rattle.sd_ast.specs.declared.StmtKind.{StmtKind}
use Rattle.sd_ast.specs.Tree.{names_of}
use Rattle.sd_meaning.specs.Routine.{Clause, requires_of}
use Rattle.sd_core.specs.declared.Spot.{Spot}
use Rattle.sd_core.specs.declared.Spot.TheVariants.{Global}
use Rattle.sd_core.specs.declared.CoreExpr.{At}
use Rattle.sd_core.specs.declared.CoreExpr.{Truth as Literal}
use Rattle.sd_core.specs.declared.CoreStmt.{CoreStmt}
use Rattle.sd_core.specs.declared.CoreStmt as core
use Rattle.sd_core.specs.Run.{slots_from}
use Rattle.sd_extract.specs.declared.source.Source.{Source as Kept}
use Rattle.sd_extract.specs.declared.source.Slots.{Slots}
use Rattle.sd_extract.specs.declared.source.Layout.{Layout}
use Rattle.sd_extract.specs.declared.source.Globals.{Globals}
use Rattle.sd_extract.specs.Names.{core_of}
use Rattle.sd_extract.specs.Extract.{Counts, Frame, Source, put, check, assume, on_args, loop_call, each_extracted}
use Rattle.sd_extract.specs.Extract.{state_of, globals_from, names_at, contract, body_copies, loop_state}

abbrev pub source_in : Kept → Source
source_in s = record {
  routine = record { declared = s.declared.now; head = s.head.now; body = s.body.now };
  number = s.number;
  globals = s.globals.now.vars;
  modifies = s.modifies;
  copied = s.copied;
}

-- ins, outs and locals, copies, and the outs and locals of loops
pub record AreSlots (S : Source) (slots : Slots) : Type 0 where
  pub ins : slots.ins ≡ slots_from 0 S.routine.head.ins
  pub state : slots.state ≡ slots_from (length S.routine.head.ins) (state_of S)
  pub copies : slots.copies ≡ slots_from (body_copies S) S.copied
  pub turn : slots.turn ≡ slots_from (loop_state S) (state_of S)
  pub hidden : slots.hidden ≡ loop_state S
  pub left : slots.left ≡ loop_state S + length (state_of S)

-- the names in the body, in loops and in the contract
pub record IsLayout (S : Source) (layout : Layout) : Type 0 where
  pub slots : AreSlots S layout.slots
  pub names : layout.names ≡ (names_at S (length S.routine.head.ins) (body_copies S)).local_names
  pub places : layout.places ≡ (names_at S (length S.routine.head.ins) (body_copies S)).locals
  pub turn_places : layout.turn_places ≡ (names_at S (loop_state S) (body_copies S)).locals
  pub contract_names : layout.contract_names ≡ (contract S).local_names
  pub contract_places : layout.contract_places ≡ (contract S).locals
  pub entry : layout.entry ≡ (contract S).entry

-- the names and the spots of all globals
pub record AreGlobals (g : Globals) : Type 0 where
  pub names : g.names ≡ names_of g.vars
  pub spots : g.spots ≡ globals_from 0 g.vars

-- where hidden locals begin, and the number of the next loop
abbrev pub start_at : ℕ → ℕ → ℕ → Counts
start_at first args loops = record { calls = 0; args = first; lefts = first + args; loops = loops }

-- the turn of a loop
abbrev pub turn_with : Program → (Text → ℕ) → Frame → Counts → ℕ → List Spot → List StmtKind → List CoreStmt
turn_with P number F at k left turn = each_extracted P number F at turn ++ (loop_call F k left ∷ [])

-- the body of a loop, with what it receives as its outs and locals
abbrev pub loop_with : Program → (Text → ℕ) → Frame → List Spot → Counts → ℕ → Expr → List Clause → List Spot
    → List StmtKind → List CoreStmt
loop_with P number F received at k guard invs left turn =
    put F.state (map At received)
    ++ (put left (map (λ p. Literal false) left)
    ++ (map (check F.names) invs
    ++ (core.If (core_of F.names guard.kind) (turn_with P number F at k left turn) [] ∷ [])))

-- the body of a procedure, with its `requires` and what follows its statements
abbrev pub body_with : Program → (Text → ℕ) → Frame → List ℕ → Proc → Counts → List StmtKind → List CoreStmt
body_with P number F modifies declared at kinds =
    put F.copies (map (λ i. At (Global i)) modifies)
    ++ (map (assume (on_args F.names declared F.ins)) (requires_of declared.specs)
    ++ (each_extracted P number F at kinds ++ F.leave))

abbrev pub left_out : Bool → List Var
left_out returns = if returns then record { name = codes "left"; sort = sort.Bool } ∷ [] else []

-- the copies of these globals
abbrev pub copies_among : List Var → List Var
copies_among = map (λ v. record { name = v.name ++ codes "@copy"; sort = v.sort })
