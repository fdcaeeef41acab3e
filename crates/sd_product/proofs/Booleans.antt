-- The terms of a body over truth values are over truth values.
use Rattle.std.proofs.Common.{◌≡◌, ℕ, zero, suc, ◌+◌, List, [], ◌∷◌, ◌++◌, length, get_or, sym, subst, refl}
use Rattle.std.specs.Prelude.{Bool, true, false, Option, Some, None, map, set}
use Rattle.std.specs.List.{AllByRecursion}
use Rattle.sd_base.proofs.Lists.{all-at, all-append}
use Rattle.sd_base.specs.declared.Sort.{Sort, Int, Bool as BoolSort}
use Rattle.sd_base.specs.declared.Var.{Var}
use Rattle.sd_base.specs.Sorts.{MapOf}
use Rattle.sd_core.specs.declared.Spot.{Spot}
use Rattle.sd_core.specs.declared.Spot.TheVariants.{Slot, Global}
use Rattle.sd_core.specs.declared.CoreOp.{CoreOp}
use Rattle.sd_core.specs.declared.CoreOp.TheVariants as op
use Rattle.sd_core.specs.declared.CoreExpr.{CoreExpr, Num, At, Const, Apply', Op', Row_of-CoreExpr, end_of-CoreExpr, more_of-CoreExpr, Truth as Literal}
use Rattle.sd_core.specs.declared.CoreStmt.{CoreStmt, Assign, If', Call, Assume, Fail, Return, Row_of-CoreStmt, end_of-CoreStmt, more_of-CoreStmt}
use Rattle.sd_core.specs.declared.CoreProc.{CoreProc}
use Rattle.sd_core.specs.declared.CoreProgram.{CoreProgram}
use Rattle.sd_core.specs.declared.Function.{Function}
use Rattle.sd_core.specs.Store.{Store, read, write, set_all}
use Rattle.sd_core.specs.Formed.{sorts_of, state_sorts, sort_at, declared_as, Takes, HasType, HaveTypes, AllHaveTypes, IsFormed, AreFormed, AllFormed}
use Rattle.sd_core.specs.Propositional.{AreTruths, HasNoNumber, HaveNoNumber}
use Rattle.sd_core.specs.Boolean as core
use Rattle.sd_core.specs.Boolean.{IsBooleanProc, IsBooleanCore}
use Rattle.sd_term.specs.declared.node.Head.TheVariants as head
use Rattle.sd_term.specs.Tree.{Tree, leaf}
use Rattle.sd_term.specs.Build.{not_of, and_of, or_of, eq_of, ite_of}
use Rattle.sd_kernel.specs.Boolean.{IsBoolean, AllBoolean}
use Rattle.sd_kernel.proofs.Propositions.{not-boolean, and-boolean, or-boolean, ite-boolean}
use Rattle.sd_vcgen.specs.Body.{Site, State, Context, constant, nothing, op_term, term_in, terms_in, guard_of, assign, symbols, site_flag, modified_sorts, changed, site_of, count, row_count, step, steps, all_steps, begun, body_of, call as call_term}
use Rattle.sd_vcgen.proofs.Truths.{all_push}

-- ---- building

pub constant-boolean : (b : Bool) → IsBoolean (constant b)
constant-boolean true = (tt, tt)
constant-boolean false = (tt, tt)

pub eq-boolean : (a b : Tree) → IsBoolean a → IsBoolean b → IsBoolean (eq_of a b)
eq-boolean a b p q = (((tt, p), q), tt)

pub implies-boolean : (a b : Tree) → IsBoolean a → IsBoolean b → IsBoolean (or_of (not_of a) b)
implies-boolean a b p q = or-boolean (not_of a) b (not-boolean a p) q

-- ---- lists

pub append-boolean : (ts us : List Tree) → AllBoolean ts → AllBoolean us → AllBoolean (ts ++ us)
append-boolean [] us h k = k
append-boolean (t ∷ ts) us h k = (h.0, append-boolean ts us h.1 k)

get-boolean : (ts : List Tree) (i : ℕ) → AllBoolean ts → IsBoolean (get_or ts i nothing)
get-boolean [] i h = constant-boolean false
get-boolean (t ∷ ts) zero h = h.0
get-boolean (t ∷ ts) (suc i) h = get-boolean ts i h.1

set-boolean : (ts : List Tree) (i : ℕ) (t : Tree) → AllBoolean ts → IsBoolean t → AllBoolean (set ts i t)
set-boolean [] i t h k = tt
set-boolean (u ∷ ts) zero t h k = (k, h.1)
set-boolean (u ∷ ts) (suc i) t h k = (h.0, set-boolean ts i t h.1 k)

set_all-boolean : (ts : List Tree) (ms : List ℕ) (us : List Tree) → AllBoolean ts → AllBoolean us → AllBoolean (set_all ts ms us)
set_all-boolean ts [] us h k = h
set_all-boolean ts (m ∷ ms) [] h k = h
set_all-boolean ts (m ∷ ms) (u ∷ us) h k = set_all-boolean (set ts m u) ms us (set-boolean ts m u h k.0) k.1

-- ---- types

abbrev pub IsTruth : Sort → Type 0
IsTruth s = s ≡ BoolSort

pub truth-sorts : (xs : List Var) → AreTruths xs → AllByRecursion IsTruth (sorts_of xs)
truth-sorts [] h = tt
truth-sorts (x ∷ xs) h = (h.0, truth-sorts xs h.1)

-- all spots are of truth values
record StateTruths (S : Store Sort) : Type 0 where
  slots : AllByRecursion IsTruth S.slots
  globals : AllByRecursion IsTruth S.globals

state-truths : (P : CoreProgram) (p : CoreProc) → AreTruths P.globals → IsBooleanProc p → StateTruths (state_sorts P p)
state-truths P p g h = record {
  slots = all-append IsTruth (sorts_of p.ins) (sorts_of p.outs ++ sorts_of p.locals) (truth-sorts p.ins h.ins)
      (all-append IsTruth (sorts_of p.outs) (sorts_of p.locals) (truth-sorts p.outs h.outs) (truth-sorts p.locals h.locals));
  globals = truth-sorts P.globals g;
}

truth-at : (S : Store Sort) (p : Spot) (s : Sort) → StateTruths S → sort_at S p ≡ Some s → IsTruth s
truth-at S (Slot n) s h e = all-at IsTruth S.slots n s h.slots e
truth-at S (Global n) s h e = all-at IsTruth S.globals n s h.globals e

get-truth : (ss : List Sort) (i : ℕ) → AllByRecursion IsTruth ss → IsTruth (get_or ss i BoolSort)
get-truth [] i h = refl
get-truth (s ∷ ss) zero h = h.0
get-truth (s ∷ ss) (suc i) h = get-truth ss i h.1

modified-truths : (P : CoreProgram) (ms : List ℕ) → AreTruths P.globals → AllByRecursion IsTruth (map (λ i. get_or (sorts_of P.globals) i BoolSort) ms)
modified-truths P [] h = tt
modified-truths P (m ∷ ms) h = (get-truth (sorts_of P.globals) m (truth-sorts P.globals h), modified-truths P ms h)

pub none-declared : {A : Type 0} (F : List Function) (constant : Bool) (f : List ℕ) (g : Function) → F ≡ [] → declared_as constant F f ≡ Some g → A
none-declared F constant f g none e =
    let bad : ◌≡◌ {A = Option Function} None (Some g) = subst (λ (l : List Function). declared_as constant l f ≡ Some g) none e in
    absurd (cc)

pub symbols-boolean : (k : ℕ) (ss : List Sort) → AllByRecursion IsTruth ss → AllBoolean (symbols k ss)
symbols-boolean k [] h = tt
symbols-boolean k (s ∷ ss) h = (subst (λ (r : Sort). IsBoolean (leaf (head.Sym k r))) (sym h.0) (tt, tt), symbols-boolean (suc k) ss h.1)

flag-boolean : (infallible : Bool) (k : ℕ) → IsBoolean (site_flag infallible k)
flag-boolean true k = (tt, tt)
flag-boolean false k = (tt, tt)

-- ---- states

pub record BooleanStore (st : Store Tree) : Type 0 where
  pub slots : AllBoolean st.slots
  pub globals : AllBoolean st.globals

pub read-boolean : (st : Store Tree) (p : Spot) → BooleanStore st → IsBoolean (read nothing st p)
read-boolean st (Slot i) h = get-boolean st.slots i h.slots
read-boolean st (Global i) h = get-boolean st.globals i h.globals

pub reads-boolean : (st : Store Tree) (ps : List Spot) → BooleanStore st → AllBoolean (map (read nothing st) ps)
reads-boolean st [] h = tt
reads-boolean st (p ∷ ps) h = (read-boolean st p h, reads-boolean st ps h)

write-boolean : (st : Store Tree) (p : Spot) (t : Tree) → BooleanStore st → IsBoolean t → BooleanStore (write st p t)
write-boolean st (Slot i) t h k = record { slots = set-boolean st.slots i t h.slots k; globals = h.globals }
write-boolean st (Global i) t h k = record { slots = h.slots; globals = set-boolean st.globals i t h.globals k }

assign-boolean : (g : Tree) (ps : List Spot) (ts : List Tree) (st : Store Tree) → IsBoolean g → AllBoolean ts → BooleanStore st → BooleanStore (assign g st ps ts)
assign-boolean g [] ts st c a h = h
assign-boolean g (p ∷ ps) [] st c a h = h
assign-boolean g (p ∷ ps) (t ∷ ts) st c a h =
    let old = read nothing st p in
    let new = ite_of g t old in
    assign-boolean g ps ts (write st p new) c a.1 (write-boolean st p new h (ite-boolean g t old c a.0 (read-boolean st p h)))

-- a call over truth values
pub record BooleanSite (a : Site) : Type 0 where
  pub guard : IsBoolean a.guard
  pub args : AllBoolean a.args
  pub before : AllBoolean a.before
  pub outs : AllBoolean a.outs
  pub after : AllBoolean a.after
  pub flag : IsBoolean a.flag

pub record BooleanState (s : State) : Type 0 where
  pub store : BooleanStore s.store
  pub flag : IsBoolean s.flag
  pub gone : IsBoolean s.gone
  pub assumes : AllBoolean s.assumes
  pub sites : AllByRecursion BooleanSite s.sites

-- ---- expressions

-- An operator over truth values gives one.
operator-boolean : (o : CoreOp) (ts : List Tree) (ss : List Sort) (s : Sort) → AllBoolean ts → AllByRecursion IsTruth ss → Takes o ss s → IsBoolean (op_term o ts) × IsTruth s
operator-boolean op.Not (a ∷ []) ss s h t k = (not-boolean a h.0, k.1)
operator-boolean op.Not [] ss s h t k = (constant-boolean false, k.1)
operator-boolean op.Not (a ∷ b ∷ ts) ss s h t k = (constant-boolean false, k.1)
operator-boolean op.And (a ∷ b ∷ []) ss s h t k = (and-boolean a b h.0 h.1.0, k.1)
operator-boolean op.And [] ss s h t k = (constant-boolean false, k.1)
operator-boolean op.And (a ∷ []) ss s h t k = (constant-boolean false, k.1)
operator-boolean op.And (a ∷ b ∷ d ∷ ts) ss s h t k = (constant-boolean false, k.1)
operator-boolean op.Or (a ∷ b ∷ []) ss s h t k = (or-boolean a b h.0 h.1.0, k.1)
operator-boolean op.Or [] ss s h t k = (constant-boolean false, k.1)
operator-boolean op.Or (a ∷ []) ss s h t k = (constant-boolean false, k.1)
operator-boolean op.Or (a ∷ b ∷ d ∷ ts) ss s h t k = (constant-boolean false, k.1)
operator-boolean op.Eq (a ∷ b ∷ []) ss s h t k = (eq-boolean a b h.0 h.1.0, k.1)
operator-boolean op.Eq [] ss s h t k = (constant-boolean false, k.1)
operator-boolean op.Eq (a ∷ []) ss s h t k = (constant-boolean false, k.1)
operator-boolean op.Eq (a ∷ b ∷ d ∷ ts) ss s h t k = (constant-boolean false, k.1)
operator-boolean op.Le ts ss s h t k = let bad : Int ≡ BoolSort = (subst (AllByRecursion IsTruth) k.0 t).0 in absurd (cc)
operator-boolean op.Add ts ss s h t k = let bad : Int ≡ BoolSort = (subst (AllByRecursion IsTruth) k.0 t).0 in absurd (cc)
operator-boolean op.Sub ts ss s h t k = let bad : Int ≡ BoolSort = (subst (AllByRecursion IsTruth) k.0 t).0 in absurd (cc)
operator-boolean op.Mul ts ss s h t k = let bad : Int ≡ BoolSort = (subst (AllByRecursion IsTruth) k.0 t).0 in absurd (cc)
operator-boolean op.Neg ts ss s h t k = let bad : Int ≡ BoolSort = (subst (AllByRecursion IsTruth) k.0 t).0 in absurd (cc)
operator-boolean op.Read ts ss s h t k = let bad : MapOf k.0 s ≡ BoolSort = (subst (AllByRecursion IsTruth) k.1 t).0 in absurd (cc)
operator-boolean op.Write ts ss s h t k = let bad : MapOf k.0 k.1 ≡ BoolSort = (subst (AllByRecursion IsTruth) k.3 t).0 in absurd (cc)

module _ (F : List Function) (none : F ≡ []) (S : Store Sort) (truths : StateTruths S) (st : Store Tree) (h : BooleanStore st) where
  mutual
    term-boolean : (e : CoreExpr) (s : Sort) → HasNoNumber e → HasType F S e s → IsBoolean (term_in F st e) × IsTruth s
    term-boolean (Num n) s m t = absurd m
    term-boolean (Literal b) s m t = (constant-boolean b, t)
    term-boolean (At p) s m t = (read-boolean st p h, truth-at S p s truths t)
    term-boolean (Const f) s m t = none-declared F true f t.0 none t.1
    term-boolean (Apply' f n es) s m t = none-declared F false f t.0 none t.1
    term-boolean (Op' o n es) s m t =
        let k = terms-boolean es t.0 m t.1 in
        operator-boolean o (terms_in F st es) t.0 s k.0 k.1 t.2

    terms-boolean : {n : _} → (es : Row_of-CoreExpr n) (ss : List Sort) → HaveNoNumber es → HaveTypes F S es ss → AllBoolean (terms_in F st es) × AllByRecursion IsTruth ss
    terms-boolean end_of-CoreExpr ss m t = (tt, subst (AllByRecursion IsTruth) (sym t) tt)
    terms-boolean (more_of-CoreExpr e es) [] m t = absurd t
    terms-boolean (more_of-CoreExpr e es) (s ∷ ss) m t =
        let one = term-boolean e s m.0 t.0 in
        let more = terms-boolean es ss m.1 t.1 in
        ((one.0, more.0), (one.1, more.1))

  all-boolean : (es : List CoreExpr) (ss : List Sort) → AllByRecursion HasNoNumber es → AllHaveTypes F S es ss → AllBoolean (map (term_in F st) es)
  all-boolean [] ss m t = tt
  all-boolean (e ∷ es) [] m t = absurd t
  all-boolean (e ∷ es) (s ∷ ss) m t = ((term-boolean e s m.0 t.0).0, all-boolean es ss m.1 t.1)

-- ---- statements

guard-boolean : (path : Tree) (s : State) → IsBoolean path → BooleanState s → IsBoolean (guard_of path s)
guard-boolean path s c h = and-boolean path (not_of s.gone) c (not-boolean s.gone h.gone)

module _ (C : Context) (truths : IsBooleanCore C.program) (p : CoreProc) (own : IsBooleanProc p) where
  abbrev P : CoreProgram
  P = C.program

  abbrev F : List Function
  F = P.functions

  abbrev S : Store Sort
  S = state_sorts P p

  args-boolean : (s : State) (es : List CoreExpr) (ss : List Sort) → AllByRecursion HasNoNumber es → AllHaveTypes F S es ss → BooleanState s → AllBoolean (map (term_in F s.store) es)
  args-boolean s es ss m t h = all-boolean F truths.functions S (state-truths P p truths.globals own) s.store h.store es ss m t

  test-boolean : (s : State) (e : CoreExpr) → HasNoNumber e → HasType F S e BoolSort → BooleanState s → IsBoolean (term_in F s.store e)
  test-boolean s e m t h = (term-boolean F truths.functions S (state-truths P p truths.globals own) s.store h.store e BoolSort m t).0

  changed-boolean : (k : ℕ) (callee : CoreProc) → AllBoolean (changed P k callee)
  changed-boolean k callee = symbols-boolean (k + length callee.outs) (modified_sorts P callee) (modified-truths P callee.modifies truths.globals)

  call-boolean : (q : ℕ) (callee : CoreProc) (ps : List Spot) (es : List CoreExpr) → IsBooleanProc callee → AllByRecursion HasNoNumber es → AllHaveTypes F S es (sorts_of callee.ins)
      → (k : ℕ) (path : Tree) (s : State) → IsBoolean path → BooleanState s → BooleanState (call_term C k path (Some callee) ps q es s)
  call-boolean q callee ps es there m ins k path s c h =
      let site = site_of C k path callee q es s in
      let guard : IsBoolean site.guard = guard-boolean path s c h in
      let flag : IsBoolean site.flag = flag-boolean (C.infallible q) (k + (length callee.outs + length callee.modifies)) in
      let up : IsBoolean (and_of site.guard site.flag) = and-boolean site.guard site.flag guard flag in
      let outs : AllBoolean site.outs = symbols-boolean k (sorts_of callee.outs) (truth-sorts callee.outs there.outs) in
      let news : AllBoolean (changed P k callee) = changed-boolean k callee in
      let globals : BooleanStore (assign site.guard s.store (map Global callee.modifies) (changed P k callee)) = assign-boolean site.guard (map Global callee.modifies) (changed P k callee) s.store guard news h.store in
      record {
        store = assign-boolean site.guard ps site.outs (assign site.guard s.store (map Global callee.modifies) (changed P k callee)) guard outs globals;
        flag = or-boolean s.flag (and_of site.guard site.flag) h.flag up;
        gone = or-boolean s.gone (and_of site.guard site.flag) h.gone up;
        assumes = h.assumes;
        sites = all_push BooleanSite s.sites site h.sites (record {
          guard = guard;
          args = args-boolean s es (sorts_of callee.ins) m ins h;
          before = h.store.globals;
          outs = outs;
          after = set_all-boolean s.store.globals callee.modifies (changed P k callee) h.store.globals news;
          flag = flag;
        });
      }

  mutual
    step-boolean : (t : CoreStmt) → core.IsBoolean t → IsFormed P p t → (k : ℕ) (path : Tree) (s : State) → IsBoolean path → BooleanState s → BooleanState (step C t k path s)
    step-boolean (Assign ps es) m is k path s c h = record {
      store = assign-boolean (guard_of path s) ps (map (term_in F s.store) es) s.store (guard-boolean path s c h) (args-boolean s es is.0 m is.1 h) h.store;
      flag = h.flag;
      gone = h.gone;
      assumes = h.assumes;
      sites = h.sites;
    }
    step-boolean (If' e n a l b) m is k path s c h =
        let t = term_in F s.store e in
        let test : IsBoolean t = test-boolean s e m.0 is.0 h in
        row-boolean b m.2 is.2 (k + row_count C a) (and_of path (not_of t)) (steps C a k (and_of path t) s) (and-boolean path (not_of t) c (not-boolean t test))
        (row-boolean a m.1 is.1 k (and_of path t) s (and-boolean path t c test) h)
    step-boolean (Call ps q es) m is k path s c h =
        subst (λ (o : Option CoreProc). BooleanState (call_term C k path o ps q es s)) (sym is.found)
        (call-boolean q is.callee ps es (all-at IsBooleanProc P.procs q is.callee truths.procs is.found) m is.ins k path s c h)
    step-boolean (Assume e) m is k path s c h =
        let t = term_in F s.store e in
        let new = implies-boolean (guard_of path s) t (guard-boolean path s c h) (test-boolean s e m is h) in
        record {
          store = h.store;
          flag = h.flag;
          gone = h.gone;
          assumes = append-boolean s.assumes (or_of (not_of (guard_of path s)) t ∷ []) h.assumes (new, tt);
          sites = h.sites;
        }
    step-boolean Fail m is k path s c h =
        let guard = guard-boolean path s c h in
        record {
          store = h.store;
          flag = or-boolean s.flag (guard_of path s) h.flag guard;
          gone = or-boolean s.gone (guard_of path s) h.gone guard;
          assumes = h.assumes;
          sites = h.sites;
        }
    step-boolean Return m is k path s c h = record {
      store = h.store;
      flag = h.flag;
      gone = or-boolean s.gone (guard_of path s) h.gone (guard-boolean path s c h);
      assumes = h.assumes;
      sites = h.sites;
    }

    row-boolean : {n : _} (ts : Row_of-CoreStmt n) → core.AreBoolean ts → AreFormed P p ts → (k : ℕ) (path : Tree) (s : State) → IsBoolean path → BooleanState s → BooleanState (steps C ts k path s)
    row-boolean end_of-CoreStmt m is k path s c h = h
    row-boolean (more_of-CoreStmt t ts) m is k path s c h = row-boolean ts m.1 is.1 (k + count C t) path (step C t k path s) c (step-boolean t m.0 is.0 k path s c h)

  steps-boolean : (ts : List CoreStmt) → AllByRecursion core.IsBoolean ts → AllFormed P p ts → (k : ℕ) (path : Tree) (s : State) → IsBoolean path → BooleanState s → BooleanState (all_steps C ts k path s)
  steps-boolean [] m is k path s c h = h
  steps-boolean (t ∷ ts) m is k path s c h = steps-boolean ts m.1 is.1 (k + count C t) path (step C t k path s) c (step-boolean t m.0 is.0 k path s c h)

-- ---- bodies

starts-boolean : (vs : List Var) → AreTruths vs → AllBoolean (map (λ v. leaf (head.Start v.sort)) vs)
starts-boolean [] h = tt
starts-boolean (v ∷ vs) h = (subst (λ (s : Sort). IsBoolean (leaf (head.Start s))) (sym h.0) (tt, tt), starts-boolean vs h.1)

begun-boolean : (p : CoreProc) (ins globals : List Tree) → IsBooleanProc p → AllBoolean ins → AllBoolean globals → BooleanState (begun p ins globals)
begun-boolean p ins globals own h k =
    let outs = map (λ v. leaf (head.Start v.sort)) p.outs in
    let locals = map (λ v. leaf (head.Start v.sort)) p.locals in
    record {
      store = record { slots = append-boolean ins (outs ++ locals) h (append-boolean outs locals (starts-boolean p.outs own.outs) (starts-boolean p.locals own.locals)); globals = k };
      flag = constant-boolean false;
      gone = constant-boolean false;
      assumes = tt;
      sites = tt;
    }

pub body-boolean : (C : Context) (p : CoreProc) → IsBooleanCore C.program → IsBooleanProc p → AllFormed C.program p p.body
    → (k : ℕ) (ins globals : List Tree) → AllBoolean ins → AllBoolean globals → BooleanState (body_of C p k ins globals)
body-boolean C p truths own formed k ins globals h g =
    steps-boolean C truths p own p.body own.body formed k (constant true) (begun p ins globals) (constant-boolean true) (begun-boolean p ins globals own h g)
