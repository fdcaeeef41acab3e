-- Well formed programs: all that they speak of is there, types agree, and no more is written than a procedure says.
use Rattle.std.specs.Prelude.{◌≡◌, ◌≢◌, ◌⊎◌, ℕ, ◌+◌, ◌<◌, ◌≤◌, ◌==◌, codes, Bool, true, false, not, ◌&&◌, List, [], ◌∷◌, ◌++◌, map, length, Option, Some, None, slice_get, Contains, if◌then◌else◌}
use Rattle.std.specs.Fmt.{decimal}
use Rattle.std.specs.Option.{is_none}
use Rattle.std.specs.List.{AllByRecursion, IsDistinct, filter}
use Rattle.sd_base.specs.declared.sort.Sort.{Sort, Int, Bool as BoolSort, Named}
use Rattle.sd_base.specs.declared.sort.Var.{Var}
use Rattle.sd_base.specs.Value.{Text, same_text}
use Rattle.sd_base.specs.Sorts.{MapOf}
pub use Rattle.sd_base.specs.Sorts.{IsIndexSort, IsSort, same_sort}
use Rattle.sd_core.specs.declared.tree.Spot.{Spot}
use Rattle.sd_core.specs.declared.tree.Spot.TheVariants.{Slot, Global}
use Rattle.sd_core.specs.declared.tree.CoreOp.{CoreOp}
use Rattle.sd_core.specs.declared.tree.CoreOp.TheVariants as op
use Rattle.sd_core.specs.declared.tree.CoreExpr.{CoreExpr, Num, At, Const, Apply', Op', Row_of-CoreExpr, end_of-CoreExpr, more_of-CoreExpr}
use Rattle.sd_core.specs.declared.tree.CoreExpr.{Truth as Literal}
use Rattle.sd_core.specs.declared.tree.CoreStmt.{CoreStmt, Assign, If', Call, Assume, Fail, Return, Row_of-CoreStmt, end_of-CoreStmt, more_of-CoreStmt}
use Rattle.sd_core.specs.declared.tree.CoreProc.{CoreProc}
use Rattle.sd_core.specs.declared.tree.Function.{Function}
use Rattle.sd_core.specs.declared.tree.CoreProgram.{CoreProgram}
use Rattle.sd_core.specs.Store.{Store}

-- ---- types of expressions

abbrev pub sorts_of : List Var → List Sort
sorts_of = map (λ x. x.sort)

-- the types of a procedure's slots and of the globals
abbrev pub state_sorts : CoreProgram → CoreProc → Store Sort
state_sorts P p = record {
  slots = sorts_of p.ins ++ (sorts_of p.outs ++ sorts_of p.locals);
  globals = sorts_of P.globals;
}

abbrev pub no_state : Store Sort
no_state = record { slots = []; globals = [] }

-- the type of what stands at a spot, where there is such a spot
abbrev pub sort_at : Store Sort → Spot → Option Sort
sort_at S (Slot i) = slice_get S.slots i
sort_at S (Global i) = slice_get S.globals i

-- the first function, or the first constant, of this name
abbrev pub declared_as : (constant : Bool) → List Function → Text → Option Function
declared_as constant [] f = None
declared_as true (g ∷ gs) f = if g.constant && same_text f g.name then Some g else declared_as true gs f
declared_as false (g ∷ gs) f = if not g.constant && same_text f g.name then Some g else declared_as false gs f

-- an operator takes parts of these types to a whole of that one
abbrev pub Takes : CoreOp → List Sort → Sort → Type 0
Takes op.Not ss s = (ss ≡ BoolSort ∷ []) × (s ≡ BoolSort)
Takes op.And ss s = (ss ≡ BoolSort ∷ BoolSort ∷ []) × (s ≡ BoolSort)
Takes op.Or ss s = (ss ≡ BoolSort ∷ BoolSort ∷ []) × (s ≡ BoolSort)
Takes op.Eq ss s = ((t : Sort) × (ss ≡ t ∷ t ∷ [])) × (s ≡ BoolSort)
Takes op.Le ss s = (ss ≡ Int ∷ Int ∷ []) × (s ≡ BoolSort)
Takes op.Add ss s = (ss ≡ Int ∷ Int ∷ []) × (s ≡ Int)
Takes op.Sub ss s = (ss ≡ Int ∷ Int ∷ []) × (s ≡ Int)
Takes op.Mul ss s = (ss ≡ Int ∷ Int ∷ []) × (s ≡ Int)
Takes op.Neg ss s = (ss ≡ Int ∷ []) × (s ≡ Int)
Takes op.Read ss s = (i : Sort) × (ss ≡ MapOf i s ∷ i ∷ [])
Takes op.Write ss s = (i : Sort) × (v : Sort) × IsIndexSort i × (ss ≡ MapOf i v ∷ i ∷ v ∷ []) × (s ≡ MapOf i v)

-- the expression has this type in a state of these types
abbrev mutual
  pub HasType : List Function → Store Sort → CoreExpr → Sort → Type 0
  HasType F S (Num n) s = s ≡ Int
  HasType F S (Literal b) s = s ≡ BoolSort
  HasType F S (At p) s = sort_at S p ≡ Some s
  HasType F S (Const c) s = (g : Function) × (declared_as true F c ≡ Some g) × (g.result ≡ s)
  HasType F S (Apply' f n es) s =
      (g : Function) × (declared_as false F f ≡ Some g) × HaveTypes F S es g.args × (g.result ≡ s)
  HasType F S (Op' o n es) s = (ss : List Sort) × HaveTypes F S es ss × Takes o ss s

  pub HaveTypes : List Function → Store Sort → {n : _} → Row_of-CoreExpr n → List Sort → Type 0
  HaveTypes F S end_of-CoreExpr ss = ss ≡ []
  HaveTypes F S (more_of-CoreExpr e es) [] = ⊥
  HaveTypes F S (more_of-CoreExpr e es) (s ∷ ss) = HasType F S e s × HaveTypes F S es ss

abbrev pub AllHaveTypes : List Function → Store Sort → List CoreExpr → List Sort → Type 0
AllHaveTypes F S [] ss = ss ≡ []
AllHaveTypes F S (e ∷ es) [] = ⊥
AllHaveTypes F S (e ∷ es) (s ∷ ss) = HasType F S e s × AllHaveTypes F S es ss

-- ---- statements

-- the spots have these types
abbrev pub AreSpotsOf : Store Sort → List Spot → List Sort → Type 0
AreSpotsOf S [] ss = ss ≡ []
AreSpotsOf S (p ∷ ps) [] = ⊥
AreSpotsOf S (p ∷ ps) (s ∷ ss) = (sort_at S p ≡ Some s) × AreSpotsOf S ps ss

-- the spots differ
abbrev pub AreApart : List Spot → Type 0
AreApart [] = Unit {0}
AreApart (p ∷ ps) = AllByRecursion (λ q. p ≢ q) ps × AreApart ps

-- the globals among the spots are among these
abbrev pub Within : List ℕ → List Spot → Type 0
Within ms [] = Unit {0}
Within ms (Slot i ∷ ps) = Within ms ps
Within ms (Global i ∷ ps) = Contains ms i × Within ms ps

-- spots that values of these types may be written to
pub record AreTargets (S : Store Sort) (ms : List ℕ) (spots : List Spot) (ss : List Sort) : Type 0 where
  pub sorts : AreSpotsOf S spots ss
  pub apart : AreApart spots
  pub within : Within ms spots

pub record IsCall (P : CoreProgram) (p : CoreProc) (spots : List Spot) (q : ℕ) (args : List CoreExpr) : Type 0 where
  pub callee : CoreProc
  pub found : slice_get P.procs q ≡ Some callee
  pub ins : AllHaveTypes P.functions (state_sorts P p) args (sorts_of callee.ins)
  pub outs : AreTargets (state_sorts P p) p.modifies spots (sorts_of callee.outs)
  pub modifies : AllByRecursion (Contains p.modifies) callee.modifies

abbrev mutual
  pub IsFormed : CoreProgram → CoreProc → CoreStmt → Type 0
  IsFormed P p (Assign spots es) =
      (ss : List Sort) × AllHaveTypes P.functions (state_sorts P p) es ss
      × AreTargets (state_sorts P p) p.modifies spots ss
  IsFormed P p (If' c n a m b) = HasType P.functions (state_sorts P p) c BoolSort × AreFormed P p a × AreFormed P p b
  IsFormed P p (Call spots q args) = IsCall P p spots q args
  IsFormed P p (Assume c) = HasType P.functions (state_sorts P p) c BoolSort
  IsFormed P p Fail = Unit {0}
  IsFormed P p Return = Unit {0}

  pub AreFormed : CoreProgram → CoreProc → {n : _} → Row_of-CoreStmt n → Type 0
  AreFormed P p end_of-CoreStmt = Unit {0}
  AreFormed P p (more_of-CoreStmt s ss) = IsFormed P p s × AreFormed P p ss

abbrev pub AllFormed : CoreProgram → CoreProc → List CoreStmt → Type 0
AllFormed P p = AllByRecursion (IsFormed P p)

-- ---- procedures

abbrev pub names_of : List Var → List Text
names_of = map (λ x. x.name)

-- a name that a text can spell: the others, with an `@`, are of hidden locals
abbrev pub is_plain : Text → Bool
is_plain [] = true
is_plain (c ∷ cs) = not (c == 64) && is_plain cs

-- what a global was at the entry
abbrev pub copy_of : Option Var → List Var
copy_of None = []
copy_of (Some g) = record { name = g.name ++ codes "@copy"; sort = g.sort } ∷ []

-- the copies of these globals
abbrev pub copies_of : List Var → List ℕ → List Var
copies_of globals [] = []
copies_of globals (i ∷ is) = copy_of (slice_get globals i) ++ copies_of globals is

-- a procedure of the text: no two of its ins, outs and declared locals have one name
abbrev pub IsRoot : CoreProc → Type 0
IsRoot p = IsDistinct same_text (filter is_plain (names_of (p.ins ++ (p.outs ++ p.locals))))

-- whether a loop left the procedure that it stands in
abbrev pub left : List Var
left = record { name = codes "left"; sort = BoolSort } ∷ []

-- The procedure at place n is that of loop k of the procedure at place q. It gets the other's ins, outs, declared
-- locals and copies, and gives back the outs and declared locals, and maybe whether it left the other.
pub record IsLoop (P : CoreProgram) (n q k : ℕ) (loop : CoreProc) : Type 0 where
  pub root : CoreProc
  pub found : slice_get P.procs q ≡ Some root
  pub is_root : root.parent ≡ None
  pub place : n ≡ q + k
  pub counted : 1 ≤ k
  pub name : loop.name ≡ root.name ++ (codes "@loop@" ++ decimal k)
  pub declared : List Var
  pub hidden : List Var
  pub locals : root.locals ≡ declared ++ (copies_of P.globals root.modifies ++ hidden)
  pub ins : loop.ins ≡ root.ins ++ ((root.outs ++ declared) ++ copies_of P.globals root.modifies)
  pub outs : (loop.outs ≡ root.outs ++ declared) ⊎ (loop.outs ≡ (root.outs ++ declared) ++ left)
  pub modifies : loop.modifies ≡ root.modifies

abbrev pub IsPlaced : CoreProgram → ℕ → Option (ℕ × ℕ) → CoreProc → Type 0
IsPlaced P n None p = IsRoot p
IsPlaced P n (Some parent) p = IsLoop P n parent.0 parent.1 p

pub record IsProc (P : CoreProgram) (n : ℕ) (p : CoreProc) : Type 0 where
  pub sorts : AllByRecursion IsSort (sorts_of (p.ins ++ (p.outs ++ p.locals)))
  pub modifies : AllByRecursion (λ i. i < length P.globals) p.modifies
  pub modifies_once : IsDistinct ◌==◌ p.modifies
  pub place : IsPlaced P n p.parent p
  pub body : AllFormed P p p.body

-- ---- programs

abbrev pub functions_as : (constant : Bool) → List Function → List Text
functions_as constant [] = []
functions_as true (g ∷ gs) = if g.constant then g.name ∷ functions_as true gs else functions_as true gs
functions_as false (g ∷ gs) = if g.constant then functions_as false gs else g.name ∷ functions_as false gs

abbrev pub roots : List CoreProc → List CoreProc
roots = filter (λ p. is_none p.parent)

abbrev pub IsConstant : List Function → Var → Type 0
IsConstant F c = (g : Function) × (declared_as true F c.name ≡ Some g) × (g.result ≡ c.sort)

abbrev pub IsSignature : Function → Type 0
IsSignature g = AllByRecursion IsSort g.args × IsSort g.result

-- The names of the procedures of loops are made from those of the others and their numbers.
pub record WellFormed (P : CoreProgram) : Type 0 where
  pub global_names : IsDistinct same_text (names_of P.globals)
  pub global_sorts : AllByRecursion IsSort (sorts_of P.globals)
  pub function_names : IsDistinct same_text (functions_as false P.functions)
  pub constant_names : IsDistinct same_text (functions_as true P.functions)
  pub signatures : AllByRecursion IsSignature P.functions
  pub uniques : AllByRecursion (IsConstant P.functions) P.uniques
  pub axioms : AllByRecursion (λ e. HasType P.functions no_state e BoolSort) P.axioms
  pub proc_names : IsDistinct same_text (map (λ p. p.name) (roots P.procs))
  pub procs : (n : ℕ) (p : CoreProc) → slice_get P.procs n ≡ Some p → IsProc P n p
