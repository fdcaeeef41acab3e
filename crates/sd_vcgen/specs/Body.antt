-- A body as terms: its statements run on terms in place of values, and each call leaves a record of itself.
use Rattle.std.specs.Prelude.{ℕ, suc, ◌+◌, Bool, true, false, List, [], ◌∷◌, ◌++◌, map, length, get_or, slice_get, Option, Some, None}
use Rattle.sd_base.specs.declared.Sort.{Sort, Bool as BoolSort}
use Rattle.sd_core.specs.declared.Spot.{Spot}
use Rattle.sd_core.specs.declared.Spot.TheVariants.{Global}
use Rattle.sd_core.specs.declared.CoreOp.{CoreOp}
use Rattle.sd_core.specs.declared.CoreOp.TheVariants as op
use Rattle.sd_core.specs.declared.CoreExpr.{CoreExpr, Num, At, Const, Apply', Op', Row_of-CoreExpr, end_of-CoreExpr, more_of-CoreExpr}
use Rattle.sd_core.specs.declared.CoreExpr.{Truth as Literal}
use Rattle.sd_core.specs.declared.CoreStmt.{CoreStmt, Assign, If', Call, Assume, Fail, Return, Row_of-CoreStmt, end_of-CoreStmt, more_of-CoreStmt}
use Rattle.sd_core.specs.declared.CoreProc.{CoreProc}
use Rattle.sd_core.specs.declared.Function.{Function}
use Rattle.sd_core.specs.declared.CoreProgram.{CoreProgram}
use Rattle.sd_core.specs.Store.{Store, read, write, set_all}
use Rattle.sd_core.specs.Run.{enter, out_spots}
use Rattle.sd_core.specs.Formed.{declared_as, sorts_of}
use Rattle.sd_term.specs.declared.node.Head.TheVariants as head
use Rattle.sd_term.specs.Heads.{True, False, Add, Sub, Mul, Neg, Read, Write}
use Rattle.sd_term.specs.Tree.{Tree, leaf, tree}
use Rattle.sd_term.specs.Build.{not_of, and_of, or_of, eq_of, le_of, ite_of}

-- ---- expressions

abbrev pub constant : Bool → Tree
constant true = leaf True
constant false = leaf False

-- what stands at a spot that isn't there
abbrev pub nothing : Tree
nothing = constant false

-- an operator over as many parts as it takes
abbrev pub op_term : CoreOp → List Tree → Tree
op_term op.Not (a ∷ []) = not_of a
op_term op.And (a ∷ b ∷ []) = and_of a b
op_term op.Or (a ∷ b ∷ []) = or_of a b
op_term op.Eq (a ∷ b ∷ []) = eq_of a b
op_term op.Le (a ∷ b ∷ []) = le_of a b
op_term op.Add (a ∷ b ∷ []) = tree Add (a ∷ b ∷ [])
op_term op.Sub (a ∷ b ∷ []) = tree Sub (a ∷ b ∷ [])
op_term op.Mul (a ∷ b ∷ []) = tree Mul (a ∷ b ∷ [])
op_term op.Neg (a ∷ []) = tree Neg (a ∷ [])
op_term op.Read (a ∷ b ∷ []) = tree Read (a ∷ b ∷ [])
op_term op.Write (a ∷ b ∷ c ∷ []) = tree Write (a ∷ b ∷ c ∷ [])
op_term _ _ = nothing

-- the type of what a function gives
abbrev pub result_of : Option Function → Sort
result_of None = BoolSort
result_of (Some g) = g.result

-- the term of an expression, where these functions are declared
abbrev mutual
  pub term_in : List Function → Store Tree → CoreExpr → Tree
  term_in F st (Num n) = leaf (head.Num n)
  term_in F st (Literal b) = constant b
  term_in F st (At p) = read nothing st p
  term_in F st (Const c) = leaf (head.Const c (result_of (declared_as true F c)))
  term_in F st (Apply' f n es) = tree (head.App f (result_of (declared_as false F f))) (terms_in F st es)
  term_in F st (Op' o n es) = op_term o (terms_in F st es)

  pub terms_in : List Function → Store Tree → {n : _} → Row_of-CoreExpr n → List Tree
  terms_in F st end_of-CoreExpr = []
  terms_in F st (more_of-CoreExpr e es) = term_in F st e ∷ terms_in F st es

-- ---- statements

-- a call: where it counts, its arguments and the globals before it, and its outs, the globals after it and its flag
pub record Site : Type 0 where
  pub callee : ℕ
  pub guard : Tree
  pub args : List Tree
  pub before : List Tree
  pub outs : List Tree
  pub after : List Tree
  pub flag : Tree

-- what the spots hold, whether an assertion has failed, whether the body has ended, what it assumes, and its calls
pub record State : Type 0 where
  pub store : Store Tree
  pub flag : Tree
  pub gone : Tree
  pub assumes : List Tree
  pub sites : List Site

-- A statement on a path counts where the path is taken and the body hasn't ended.
abbrev pub guard_of : Tree → State → Tree
guard_of path s = and_of path (not_of s.gone)

-- each spot gets its term where the guard holds
abbrev pub assign : Tree → Store Tree → List Spot → List Tree → Store Tree
assign g st [] ts = st
assign g st (p ∷ ps) [] = st
assign g st (p ∷ ps) (t ∷ ts) = assign g (write st p (ite_of g t (read nothing st p))) ps ts

-- the state with another store
abbrev pub with_store : Store Tree → State → State
with_store st s = record { store = st; flag = s.flag; gone = s.gone; assumes = s.assumes; sites = s.sites }

-- a failure where this holds, which ends the body
abbrev pub fail : Tree → State → State
fail up s =
    record { store = s.store; flag = or_of s.flag up; gone = or_of s.gone up; assumes = s.assumes; sites = s.sites }

abbrev pub leave : Tree → State → State
leave guard s =
    record { store = s.store; flag = s.flag; gone = or_of s.gone guard; assumes = s.assumes; sites = s.sites }

abbrev pub assume : Tree → Tree → State → State
assume guard c s =
    record {
      store = s.store;
      flag = s.flag;
      gone = s.gone;
      assumes = s.assumes ++ or_of (not_of guard) c ∷ [];
      sites = s.sites;
    }

-- ---- calls

-- what a body is run in: its program, and which procedures are infallible
pub record Context : Type 0 where
  pub program : CoreProgram
  pub infallible : ℕ → Bool

-- symbols of these types, by ascending number from k on
abbrev pub symbols : ℕ → List Sort → List Tree
symbols k [] = []
symbols k (s ∷ ss) = leaf (head.Sym k s) ∷ symbols (suc k) ss

-- the flag of a call: false where the callee is infallible, and else a symbol
abbrev pub site_flag : Bool → ℕ → Tree
site_flag true k = constant false
site_flag false k = leaf (head.Sym k BoolSort)

abbrev pub flag_symbols : Bool → ℕ
flag_symbols true = 0
flag_symbols false = 1

-- how many symbols a call takes: for the outs, for the globals that the callee modifies, and for the flag
abbrev pub call_symbols : Bool → Option CoreProc → ℕ
call_symbols infallible (Some p) = length p.outs + (length p.modifies + flag_symbols infallible)
call_symbols infallible None = 0

-- the types of the globals that a procedure modifies
abbrev pub modified_sorts : CoreProgram → CoreProc → List Sort
modified_sorts P p = map (λ i. get_or (sorts_of P.globals) i BoolSort) p.modifies

-- what a call leaves in the globals that its callee modifies
abbrev pub changed : CoreProgram → ℕ → CoreProc → List Tree
changed P k p = symbols (k + length p.outs) (modified_sorts P p)

abbrev pub site_of : Context → ℕ → Tree → CoreProc → ℕ → List CoreExpr → State → Site
site_of C k path p q args s = record {
  callee = q;
  guard = guard_of path s;
  args = map (term_in C.program.functions s.store) args;
  before = s.store.globals;
  outs = symbols k (sorts_of p.outs);
  after = set_all s.store.globals p.modifies (changed C.program k p);
  flag = site_flag (C.infallible q) (k + (length p.outs + length p.modifies));
}

-- The modified globals and then the receivers get what the call leaves, and its flag ends the caller too.
abbrev pub receive : List Tree → CoreProc → List Spot → Site → State → State
receive news p spots site s = fail (and_of site.guard site.flag) (record {
  store = assign site.guard (assign site.guard s.store (map Global p.modifies) news) spots site.outs;
  flag = s.flag;
  gone = s.gone;
  assumes = s.assumes;
  sites = s.sites ++ site ∷ [];
})

abbrev pub call : Context → ℕ → Tree → Option CoreProc → List Spot → ℕ → List CoreExpr → State → State
call C k path None spots q args s = s
call C k path (Some p) spots q args s = receive (changed C.program k p) p spots (site_of C k path p q args s) s

-- how many symbols the calls of a statement take
abbrev mutual
  pub count : Context → CoreStmt → ℕ
  count C (If' c n a m b) = row_count C a + row_count C b
  count C (Call ps q es) = call_symbols (C.infallible q) (slice_get C.program.procs q)
  count C _ = 0

  pub row_count : Context → {n : _} → Row_of-CoreStmt n → ℕ
  row_count C end_of-CoreStmt = 0
  row_count C (more_of-CoreStmt k ks) = count C k + row_count C ks

abbrev pub count_all : Context → List CoreStmt → ℕ
count_all C [] = 0
count_all C (k ∷ ks) = count C k + count_all C ks

-- a statement on a path, with symbols from k on
abbrev mutual
  pub step : Context → CoreStmt → ℕ → Tree → State → State
  step C (Assign ps es) k path s = with_store
      (assign (guard_of path s) s.store ps (map (term_in C.program.functions s.store) es)) s
  step C (If' c n a m b) k path s =
      steps C b (k + row_count C a) (and_of path (not_of (term_in C.program.functions s.store c)))
      (steps C a k (and_of path (term_in C.program.functions s.store c)) s)
  step C (Call ps q es) k path s = call C k path (slice_get C.program.procs q) ps q es s
  step C (Assume c) k path s = assume (guard_of path s) (term_in C.program.functions s.store c) s
  step C Fail k path s = fail (guard_of path s) s
  step C Return k path s = leave (guard_of path s) s

  pub steps : Context → {n : _} → Row_of-CoreStmt n → ℕ → Tree → State → State
  steps C end_of-CoreStmt k path s = s
  steps C (more_of-CoreStmt t ts) k path s = steps C ts (k + count C t) path (step C t k path s)

abbrev pub all_steps : Context → List CoreStmt → ℕ → Tree → State → State
all_steps C [] k path s = s
all_steps C (t ∷ ts) k path s = all_steps C ts (k + count C t) path (step C t k path s)

-- ---- bodies

-- where a body begins, from these terms of its in-parameters and of the globals
abbrev pub begun : CoreProc → (ins globals : List Tree) → State
begun p ins globals =
    record {
      store = enter (λ s. leaf (head.Start s)) p ins globals;
      flag = constant false;
      gone = constant false;
      assumes = [];
      sites = [];
    }

-- where it ends, with symbols from k on
abbrev pub body_of : Context → CoreProc → ℕ → (ins globals : List Tree) → State
body_of C p k ins globals = all_steps C p.body k (constant true) (begun p ins globals)

abbrev pub outs_of : CoreProc → State → List Tree
outs_of p s = map (read nothing s.store) (out_spots p)
