-- Expressions keep their types.
use Rattle.std.proofs.Common.{◌≡◌, List, [], ◌∷◌, Some, refl, sym, ◌∙◌, ap, subst}
use Rattle.std.specs.Prelude.{true, false}
use Rattle.sd_extract.proofs.SourceWords.{Sort, BoolSort, Text, MapOf, BinOp, UnOp, Expr, ExprKind, Apply', Row_of-Expr, end_of-Expr, more_of-Expr, OldOf, UnaryOf, BinaryOf, SelectOf, StoreOf, Variable, Signature, Context, HasType, AllHave}
use Rattle.sd_extract.proofs.CoreWords.{CoreOp, CoreExpr, Apply, Op, Row_of-CoreExpr, end_of-CoreExpr, more_of-CoreExpr, items-the_row-CoreExpr, items_hidden-the_row-CoreExpr-0, hidden-the_row-CoreExpr-0, Function, Store, IsIndexSort, IsSort, declared_as, AllHaveTypes, HasCoreType, Names, place_of, at_place, negated, both, unary_of, binary_of, core_of, cores_of, cores}
use Rattle.sd_ast.specs.declared.BinOp.TheVariants as bin
use Rattle.sd_ast.specs.declared.UnOp.TheVariants as un
use Rattle.sd_ast.specs.declared.ExprKind.{Var}
use Rattle.sd_types.specs.Typing.{HaveTypes, TakesOne, TakesTwo}
use Rattle.sd_core.specs.declared.CoreOp.TheVariants as op
use Rattle.sd_core.specs.Formed.{Takes, HaveTypes as HaveCoreTypes}

-- ---- operators of the core

module _ (F : List Function) (S : Store Sort) where
  row_typed : {n : _} (es : Row_of-CoreExpr n) (ss : List Sort) → AllHaveTypes F S (items-the_row-CoreExpr n es) ss → HaveCoreTypes F S es ss
  row_typed end_of-CoreExpr ss h = h
  row_typed (more_of-CoreExpr e es) [] h = h
  row_typed (more_of-CoreExpr e es) (s ∷ ss) h = (h.0, row_typed es ss h.1)

  list_typed : (es : List CoreExpr) (ss : List Sort) → AllHaveTypes F S es ss → HaveCoreTypes F S (hidden-the_row-CoreExpr-0 es) ss
  list_typed es ss h =
      row_typed (hidden-the_row-CoreExpr-0 es) ss (subst (λ (l : List CoreExpr). AllHaveTypes F S l ss) (sym (items_hidden-the_row-CoreExpr-0 es)) h)

  pub op_typed : (o : CoreOp) (es : List CoreExpr) (ss : List Sort) (s : Sort) → AllHaveTypes F S es ss → Takes o ss s → HasCoreType F S (Op o es) s
  op_typed o es ss s h t = (ss, list_typed es ss h, t)

  pub apply_typed : (f : Text) (es : List CoreExpr) (g : Function) → declared_as false F f ≡ Some g → AllHaveTypes F S es g.args → HasCoreType F S (Apply f es) g.result
  apply_typed f es g e h = (g, e, list_typed es g.args h, refl)

  one_is : {s t : Sort} → s ≡ t → s ∷ [] ≡ t ∷ []
  one_is e = ap (λ (x : Sort). x ∷ []) e

  two_are : {s t u v : Sort} → s ≡ u → t ≡ v → s ∷ t ∷ [] ≡ u ∷ v ∷ []
  two_are e f = λ i. e i ∷ f i ∷ []

  pub negated_typed : (a : CoreExpr) → HasCoreType F S a BoolSort → HasCoreType F S (negated a) BoolSort
  negated_typed a h = op_typed op.Not (a ∷ []) (BoolSort ∷ []) BoolSort (h, refl) (refl, refl)

  pub both_typed : (o : CoreOp) (a b : CoreExpr) (t u s : Sort) → HasCoreType F S a t → HasCoreType F S b u → Takes o (t ∷ u ∷ []) s → HasCoreType F S (both o a b) s
  both_typed o a b t u s h k takes = op_typed o (a ∷ b ∷ []) (t ∷ u ∷ []) s (h, (k, refl)) takes

  pub read_typed : (m i : CoreExpr) (t s : Sort) → HasCoreType F S m (MapOf t s) → HasCoreType F S i t → HasCoreType F S (both op.Read m i) s
  read_typed m i t s h k = both_typed op.Read m i (MapOf t s) t s h k (t, refl)

  pub write_typed : (m i v : CoreExpr) (t s : Sort) → IsIndexSort t → HasCoreType F S m (MapOf t s) → HasCoreType F S i t → HasCoreType F S v s → HasCoreType F S (Op op.Write (m ∷ i ∷ v ∷ [])) (MapOf t s)
  write_typed m i v t s index h k l =
      op_typed op.Write (m ∷ i ∷ v ∷ []) (MapOf t s ∷ t ∷ s ∷ []) (MapOf t s) (h, (k, (l, refl))) (t, s, index, refl, refl)

  unary_typed : (o : UnOp) (a : CoreExpr) (t s : Sort) → HasCoreType F S a t → TakesOne o t s → HasCoreType F S (unary_of o a) s
  unary_typed un.Not a t s h takes = op_typed op.Not (a ∷ []) (t ∷ []) s (h, refl) (one_is takes.0, takes.1)
  unary_typed un.Neg a t s h takes = op_typed op.Neg (a ∷ []) (t ∷ []) s (h, refl) (one_is takes.0, takes.1)

  at_bool : (a : CoreExpr) (t : Sort) → HasCoreType F S a t → t ≡ BoolSort → HasCoreType F S a BoolSort
  at_bool a t h e = subst (HasCoreType F S a) e h

  negated_is : (a : CoreExpr) (s : Sort) → HasCoreType F S a BoolSort → s ≡ BoolSort → HasCoreType F S (negated a) s
  negated_is a s h e = subst (HasCoreType F S (negated a)) (sym e) (negated_typed a h)

  binary_typed : (o : BinOp) (a b : CoreExpr) (t u s : Sort) → HasCoreType F S a t → HasCoreType F S b u → TakesTwo o t u s → HasCoreType F S (binary_of o a b) s
  binary_typed bin.Iff a b t u s h k takes = both_typed op.Eq a b t u s h k ((BoolSort, two_are takes.0 takes.1), takes.2)
  binary_typed bin.Implies a b t u s h k takes =
      both_typed op.Or (negated a) b BoolSort u s (negated_typed a (at_bool a t h takes.0)) k (two_are refl takes.1, takes.2)
  binary_typed bin.Explies a b t u s h k takes =
      both_typed op.Or a (negated b) t BoolSort s h (negated_typed b (at_bool b u k takes.1)) (two_are takes.0 refl, takes.2)
  binary_typed bin.Eq a b t u s h k takes = both_typed op.Eq a b t u s h k ((u, two_are takes.0 refl), takes.1)
  binary_typed bin.Ne a b t u s h k takes =
      negated_is (both op.Eq a b) s (both_typed op.Eq a b t u BoolSort h k ((u, two_are takes.0 refl), refl)) takes.1
  binary_typed bin.Lt a b t u s h k takes =
      negated_is (both op.Le b a) s (both_typed op.Le b a u t BoolSort k h (two_are takes.1 takes.0, refl)) takes.2
  binary_typed bin.Gt a b t u s h k takes =
      negated_is (both op.Le a b) s (both_typed op.Le a b t u BoolSort h k (two_are takes.0 takes.1, refl)) takes.2
  binary_typed bin.Ge a b t u s h k takes = both_typed op.Le b a u t s k h (two_are takes.1 takes.0, takes.2)
  binary_typed bin.And a b t u s h k takes = both_typed op.And a b t u s h k (two_are takes.0 takes.1, takes.2)
  binary_typed bin.Or a b t u s h k takes = both_typed op.Or a b t u s h k (two_are takes.0 takes.1, takes.2)
  binary_typed bin.Le a b t u s h k takes = both_typed op.Le a b t u s h k (two_are takes.0 takes.1, takes.2)
  binary_typed bin.Add a b t u s h k takes = both_typed op.Add a b t u s h k (two_are takes.0 takes.1, takes.2)
  binary_typed bin.Sub a b t u s h k takes = both_typed op.Sub a b t u s h k (two_are takes.0 takes.1, takes.2)
  binary_typed bin.Mul a b t u s h k takes = both_typed op.Mul a b t u s h k (two_are takes.0 takes.1, takes.2)

-- ---- what names stand for

-- each variable has its type at its place
abbrev pub Reads : List Function → Store Sort → Context → Names → Type 0
Reads F S C N = (x : Text) (v : Variable) → C.variable x ≡ Some v → HasCoreType F S (at_place (place_of N x) x) v.sort

-- What a context declares is there in the core, now and where the entry is kept, and its types are fit for maps.
pub record Sees (F : List Function) (S : Store Sort) (C : Context) (N : Names) : Type 0 where
  pub variables : Reads F S C N
  pub entry : C.old ≡ true → Reads F S C (record N { globals = N.entry })
  pub sorts : (x : Text) (v : Variable) → C.variable x ≡ Some v → IsSort v.sort
  pub functions : (f : Text) (sig : Signature) → C.function f ≡ Some sig → (g : Function) × (declared_as false F f ≡ Some g) × (g.args ≡ sig.args) × (g.result ≡ sig.result) × IsSort sig.result

at_entry : (F : List Function) (S : Store Sort) (C : Context) (N : Names) → C.old ≡ true → Sees F S C N → Sees F S C (record N { globals = N.entry })
at_entry F S C N old k =
    record { variables = k.entry old; entry = λ e. k.entry e; sorts = k.sorts; functions = k.functions }

-- ---- types are fit for maps

one_sort : (o : UnOp) (t s : Sort) → TakesOne o t s → IsSort s
one_sort un.Not t s h = subst IsSort (sym h.1) tt
one_sort un.Neg t s h = subst IsSort (sym h.1) tt

two_sort : (o : BinOp) (t u s : Sort) → TakesTwo o t u s → IsSort s
two_sort bin.Eq t u s h = subst IsSort (sym h.1) tt
two_sort bin.Ne t u s h = subst IsSort (sym h.1) tt
two_sort _ t u s h = subst IsSort (sym h.2) tt

module _ (F : List Function) (S : Store Sort) (C : Context) where
  pub fit_sort : (N : Names) → Sees F S C N → (e : ExprKind) (s : Sort) → HasType C e s → IsSort s
  fit_sort N k (Var x) s h = subst IsSort h.2 (k.sorts x h.0 h.1)
  fit_sort N k (Apply' f shape args) s h = let g = k.functions f h.0 h.1 in subst IsSort h.3 g.4
  fit_sort N k (OldOf p e) s h = fit_sort N k e s h.1
  fit_sort N k (UnaryOf o p a) s h = one_sort o h.0 s h.2
  fit_sort N k (BinaryOf o p a q b) s h = two_sort o h.0 h.1 s h.4
  fit_sort N k (SelectOf p m q i) s h = let m_sort = fit_sort N k m (MapOf h.0 s) h.1 in m_sort.1
  fit_sort N k (StoreOf p m q i r v) s h = subst IsSort (sym h.5) (fit_sort N k m (MapOf h.0 h.1) h.2)
  fit_sort N k _ s h = subst IsSort (sym h) tt

  mutual
    pub core_typed : (N : Names) → Sees F S C N → (e : ExprKind) (s : Sort) → HasType C e s → HasCoreType F S (core_of N e) s
    core_typed N k (Var x) s h = subst (HasCoreType F S (at_place (place_of N x) x)) h.2 (k.variables x h.0 h.1)
    core_typed N k (Apply' f shape args) s h =
        let g = k.functions f h.0 h.1 in
        subst (HasCoreType F S (Apply f (cores_of N args))) (g.3 ∙ h.3) (apply_typed F S f (cores_of N args) g.0 g.1 (subst (AllHaveTypes F S (cores_of N args)) (sym g.2) (cores_typed N k args h.0.args h.2)))
    core_typed N k (OldOf p e) s h = core_typed (record N { globals = N.entry }) (at_entry F S C N h.0 k) e s h.1
    core_typed N k (UnaryOf o p a) s h = unary_typed F S o (core_of N a) h.0 s (core_typed N k a h.0 h.1) h.2
    core_typed N k (BinaryOf o p a q b) s h =
        binary_typed F S o (core_of N a) (core_of N b) h.0 h.1 s (core_typed N k a h.0 h.2) (core_typed N k b h.1 h.3) h.4
    core_typed N k (SelectOf p m q i) s h =
        read_typed F S (core_of N m) (core_of N i) h.0 s (core_typed N k m (MapOf h.0 s) h.1) (core_typed N k i h.0 h.2)
    core_typed N k (StoreOf p m q i r v) s h =
        let index = fit_sort N k m (MapOf h.0 h.1) h.2 in
        subst (HasCoreType F S (core_of N (StoreOf p m q i r v))) (sym h.5) (write_typed F S (core_of N m) (core_of N i) (core_of N v) h.0 h.1 index.0 (core_typed N k m (MapOf h.0 h.1) h.2) (core_typed N k i h.0 h.3) (core_typed N k v h.1 h.4))
    core_typed N k _ s h = h

    pub cores_typed : (N : Names) → Sees F S C N → {m : _} (es : Row_of-Expr m) (ss : List Sort) → HaveTypes C es ss → AllHaveTypes F S (cores_of N es) ss
    cores_typed N k end_of-Expr [] h = refl
    cores_typed N k end_of-Expr (s ∷ ss) h = absurd h
    cores_typed N k (more_of-Expr p e es) [] h = h
    cores_typed N k (more_of-Expr p e es) (s ∷ ss) h = (core_typed N k e s h.0, cores_typed N k es ss h.1)

  pub list_cores_typed : (N : Names) → Sees F S C N → (es : List Expr) (ss : List Sort) → AllHave C es ss → AllHaveTypes F S (cores N es) ss
  list_cores_typed N k [] [] h = refl
  list_cores_typed N k [] (s ∷ ss) h = absurd h
  list_cores_typed N k (e ∷ es) [] h = h
  list_cores_typed N k (e ∷ es) (s ∷ ss) h = (core_typed N k e.kind s h.0, list_cores_typed N k es ss h.1)
