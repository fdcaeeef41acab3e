-- The value of a well typed expression has its type, in a state of the types.
use Rattle.std.proofs.Common.{◌≡◌, ℕ, zero, suc, List, [], ◌∷◌, ◌++◌, refl, sym, subst, get_or}
use Rattle.std.specs.Prelude.{Bool, true, false, ◌&&◌, not, map, set, Some, slice_get, if◌then◌else◌}
use Rattle.std.specs.List.{AllByRecursion}
use Rattle.std.specs.Cmp.Lexicographic.{bytes_decides}
use Rattle.sd_base.specs.declared.Sort.{Sort, Int, Bool as BoolSort}
use Rattle.sd_base.specs.Value.{Text, same_text, Value, Number, Truth}
use Rattle.sd_base.specs.Sorts.{MapOf, HasSort}
use Rattle.sd_base.specs.Meaning.{Meaning, Interpretation, interpretation, same_values, result_at, index_of}
use Rattle.sd_base.proofs.MapLemmas.{write_keeps, read_keeps}
use Rattle.sd_base.proofs.SortLemmas.{index_of-sorted}
use Rattle.sd_core.specs.declared.Spot.{Spot}
use Rattle.sd_core.specs.declared.Spot.TheVariants.{Slot, Global}
use Rattle.sd_core.specs.declared.CoreOp.{CoreOp}
use Rattle.sd_core.specs.declared.CoreOp.TheVariants as op
use Rattle.sd_core.specs.declared.CoreExpr.{CoreExpr, Num, At, Const, Apply', Op', Row_of-CoreExpr, end_of-CoreExpr, more_of-CoreExpr, Truth as Literal}
use Rattle.sd_core.specs.declared.Function.{Function}
use Rattle.sd_core.specs.declared.CoreProgram.{CoreProgram}
use Rattle.sd_core.specs.Store.{Store, read, write, write_all}
use Rattle.sd_core.specs.Run.{nothing, apply, value_in, values_in}
use Rattle.sd_core.specs.Formed.{sort_at, declared_as, Takes, HasType, HaveTypes, AllHaveTypes, AreSpotsOf}
use Rattle.sd_core.specs.Meanings.{HaveSorts, FitsTable, FitsBy, Fits, IsMeaningOf}

-- ---- lists of values

pub get_fits : (ss : List Sort) (vs : List Value) (i : ℕ) (s : Sort) → HaveSorts ss vs → slice_get ss i ≡ Some s → HasSort s (get_or vs i nothing)
get_fits [] vs i s h e = absurd (cc)
get_fits (r ∷ ss) [] i s h e = absurd h
get_fits (r ∷ ss) (v ∷ vs) zero s h e = let same : r ≡ s = cc in subst (λ (t : Sort). HasSort t v) same h.0
get_fits (r ∷ ss) (v ∷ vs) (suc i) s h e = get_fits ss vs i s h.1 e

pub set_fits : (ss : List Sort) (vs : List Value) (i : ℕ) (s : Sort) (x : Value) → HaveSorts ss vs → slice_get ss i ≡ Some s → HasSort s x → HaveSorts ss (set vs i x)
set_fits [] vs i s x h e k = absurd (cc)
set_fits (r ∷ ss) [] i s x h e k = absurd h
set_fits (r ∷ ss) (v ∷ vs) zero s x h e k = let same : s ≡ r = cc in (subst (λ (t : Sort). HasSort t x) same k, h.1)
set_fits (r ∷ ss) (v ∷ vs) (suc i) s x h e k = (h.0, set_fits ss vs i s x h.1 e k)

pub append_fits : (ss ts : List Sort) (vs ws : List Value) → HaveSorts ss vs → HaveSorts ts ws → HaveSorts (ss ++ ts) (vs ++ ws)
append_fits [] ts [] ws h k = k
append_fits [] ts (v ∷ vs) ws h k = absurd (cc)
append_fits (s ∷ ss) ts [] ws h k = absurd h
append_fits (s ∷ ss) ts (v ∷ vs) ws h k = (h.0, append_fits ss ts vs ws h.1 k)

-- ---- states

-- what stands in a state has these types
pub record StoreFits (S : Store Sort) (st : Store Value) : Type 0 where
  pub slots : HaveSorts S.slots st.slots
  pub globals : HaveSorts S.globals st.globals

pub read_fits : (S : Store Sort) (st : Store Value) (p : Spot) (s : Sort) → StoreFits S st → sort_at S p ≡ Some s → HasSort s (read nothing st p)
read_fits S st (Slot i) s f e = get_fits S.slots st.slots i s f.slots e
read_fits S st (Global i) s f e = get_fits S.globals st.globals i s f.globals e

pub write_fits : (S : Store Sort) (st : Store Value) (p : Spot) (s : Sort) (x : Value) → StoreFits S st → sort_at S p ≡ Some s → HasSort s x → StoreFits S (write st p x)
write_fits S st (Slot i) s x f e k = record { slots = set_fits S.slots st.slots i s x f.slots e k; globals = f.globals }
write_fits S st (Global i) s x f e k = record { slots = f.slots; globals = set_fits S.globals st.globals i s x f.globals e k }

pub write_all_fits : (S : Store Sort) (ps : List Spot) (ss : List Sort) (xs : List Value) (st : Store Value) → AreSpotsOf S ps ss → HaveSorts ss xs → StoreFits S st → StoreFits S (write_all st ps xs)
write_all_fits S [] ss xs st a h f = f
write_all_fits S (p ∷ ps) ss [] st a h f = f
write_all_fits S (p ∷ ps) [] (x ∷ xs) st a h f = absurd a
write_all_fits S (p ∷ ps) (s ∷ ss) (x ∷ xs) st a h f = write_all_fits S ps ss xs (write st p x) a.1 h.1 (write_fits S st p s x f a.0 h.0)

-- ---- functions and constants

-- what functions, constants and types stand for has their types
pub record InterpretsFunctions (F : List Function) (I : Interpretation) : Type 0 where
  pub starts : (s : Sort) → HasSort s (I.start s)
  pub constants : (c : Text) (g : Function) → declared_as true F c ≡ Some g → HasSort g.result (I.constant c)
  pub functions : (f : Text) (g : Function) (args : List Value) → declared_as false F f ≡ Some g → HaveSorts g.args args → HasSort g.result (I.apply f args)

result_fits : (ss : List Sort) (s : Sort) (v : Value) (rows : List (List Value × Value)) (args : List Value) → HasSort s v → AllByRecursion (λ row. HaveSorts ss row.0 × HasSort s row.1) rows → HasSort s (result_at v rows args)
result_fits ss s v [] args h a = h
result_fits ss s v (row ∷ rows) args h a = go (same_values row.0 args) (result_fits ss s v rows args h a.1)
  where
    go : (b : Bool) → HasSort s (result_at v rows args) → HasSort s (if b then row.1 else result_at v rows args)
    go true k = a.0.1
    go false k = k

constant_fits : (M : Meaning) (F : List Function) (c : Text) (g : Function) → AllByRecursion (Fits M) F → declared_as true F c ≡ Some g → HasSort g.result (M.constant c)
constant_fits M [] c g a e = absurd (cc)
constant_fits M (f ∷ F) c g a e = go f.constant refl (same_text c f.name) refl e (λ k. constant_fits M F c g a.1 k)
  where
    go : (b : Bool) → f.constant ≡ b → (t : Bool) → same_text c f.name ≡ t → (if b && t then Some f else declared_as true F c) ≡ Some g → (declared_as true F c ≡ Some g → HasSort g.result (M.constant c)) → HasSort g.result (M.constant c)
    go true eb true et k later =
        let same : f ≡ g = cc in
        let fit : HasSort f.result (M.constant f.name) = subst (λ (b : Bool). FitsBy M f b) eb a.0 in
        subst (λ (h : Function). HasSort h.result (M.constant c)) same (subst (λ (t : Text). HasSort f.result (M.constant t)) (sym ((bytes_decides c f.name).0 et)) fit)
    go true eb false et k later = later k
    go false eb t et k later = later k

function_fits : (M : Meaning) (F : List Function) (c : Text) (g : Function) → AllByRecursion (Fits M) F → declared_as false F c ≡ Some g → FitsTable g.args g.result (M.function c)
function_fits M [] c g a e = absurd (cc)
function_fits M (f ∷ F) c g a e = go f.constant refl (same_text c f.name) refl e (λ k. function_fits M F c g a.1 k)
  where
    go : (b : Bool) → f.constant ≡ b → (t : Bool) → same_text c f.name ≡ t → (if not b && t then Some f else declared_as false F c) ≡ Some g → (declared_as false F c ≡ Some g → FitsTable g.args g.result (M.function c)) → FitsTable g.args g.result (M.function c)
    go false eb true et k later =
        let same : f ≡ g = cc in
        let fit : FitsTable f.args f.result (M.function f.name) = subst (λ (b : Bool). FitsBy M f b) eb a.0 in
        subst (λ (h : Function). FitsTable h.args h.result (M.function c)) same (subst (λ (t : Text). FitsTable f.args f.result (M.function t)) (sym ((bytes_decides c f.name).0 et)) fit)
    go false eb false et k later = later k
    go true eb t et k later = later k

pub meaning_interprets : (P : CoreProgram) (M : Meaning) → IsMeaningOf P M → InterpretsFunctions P.functions (interpretation M)
meaning_interprets P M m = record {
  starts = m.starts;
  constants = λ c g e. constant_fits M P.functions c g m.functions e;
  functions = λ f g args e h. let t = function_fits M P.functions f g m.functions e in result_fits g.args g.result (M.function f).otherwise (M.function f).rows args t.0 t.1;
}

-- ---- operators

by_one : (vs : List Value) (a : Sort) (Q : List Value → Type 0) → HaveSorts (a ∷ []) vs → ((x : Value) → HasSort a x → Q (x ∷ [])) → Q vs
by_one [] a Q h f = absurd h
by_one (x ∷ vs) a Q h f = subst (λ (ws : List Value). Q (x ∷ ws)) (sym h.1) (f x h.0)

by_two : (vs : List Value) (a b : Sort) (Q : List Value → Type 0) → HaveSorts (a ∷ b ∷ []) vs → ((x y : Value) → HasSort a x → HasSort b y → Q (x ∷ y ∷ [])) → Q vs
by_two [] a b Q h f = absurd h
by_two (x ∷ vs) a b Q h f = by_one vs b (λ ws. Q (x ∷ ws)) h.1 (λ y k. f x y h.0 k)

by_three : (vs : List Value) (a b c : Sort) (Q : List Value → Type 0) → HaveSorts (a ∷ b ∷ c ∷ []) vs → ((x y z : Value) → HasSort a x → HasSort b y → HasSort c z → Q (x ∷ y ∷ z ∷ [])) → Q vs
by_three [] a b c Q h f = absurd h
by_three (x ∷ vs) a b c Q h f = by_two vs b c (λ ws. Q (x ∷ ws)) h.1 (λ y z k l. f x y z h.0 k l)

as_truth : (s : Sort) (b : Bool) → s ≡ BoolSort → HasSort s (Truth b)
as_truth s b e = subst (λ (t : Sort). HasSort t (Truth b)) (sym e) tt

as_number : (s : Sort) (n : _) → s ≡ Int → HasSort s (Number n)
as_number s n e = subst (λ (t : Sort). HasSort t (Number n)) (sym e) tt

pub operator_fits : (o : CoreOp) (vs : List Value) (ss : List Sort) (s : Sort) → HaveSorts ss vs → Takes o ss s → HasSort s (apply o vs)
operator_fits op.Add vs ss s h t = as_number s _ t.1
operator_fits op.Sub vs ss s h t = as_number s _ t.1
operator_fits op.Mul vs ss s h t = as_number s _ t.1
operator_fits op.Neg vs ss s h t = as_number s _ t.1
operator_fits op.Read vs ss s h t =
    by_two vs (MapOf t.0 s) t.0 (λ ws. HasSort s (apply op.Read ws)) (subst (λ (rs : List Sort). HaveSorts rs vs) t.1 h) (λ x y p q. read_keeps t.0 s x (index_of y) p)
operator_fits op.Write vs ss s h t =
    by_three vs (MapOf t.0 t.1) t.0 t.1 (λ ws. HasSort s (apply op.Write ws)) (subst (λ (rs : List Sort). HaveSorts rs vs) t.3 h) (λ x y z p q r. subst (λ (u : Sort). HasSort u (apply op.Write (x ∷ y ∷ z ∷ []))) (sym t.4) (write_keeps t.0 t.1 x (index_of y) z p (index_of-sorted t.0 y t.2 q) r))
operator_fits _ vs ss s h t = as_truth s _ t.1

-- ---- expressions

module _ (F : List Function) (I : Interpretation) (fit : InterpretsFunctions F I) (S : Store Sort) (st : Store Value) (f : StoreFits S st) where
  mutual
    pub value_fits : (e : CoreExpr) (s : Sort) → HasType F S e s → HasSort s (value_in I st e)
    value_fits (Num n) s h = as_number s _ h
    value_fits (Literal b) s h = as_truth s b h
    value_fits (At p) s h = read_fits S st p s f h
    value_fits (Const c) s h = subst (λ (t : Sort). HasSort t (I.constant c)) h.2 (fit.constants c h.0 h.1)
    value_fits (Apply' g n es) s h = subst (λ (t : Sort). HasSort t (I.apply g (values_in I st es))) h.3 (fit.functions g h.0 (values_in I st es) h.1 (values_fit es h.0.args h.2))
    value_fits (Op' o n es) s h = operator_fits o (values_in I st es) h.0 s (values_fit es h.0 h.1) h.2

    pub values_fit : {n : _} (es : Row_of-CoreExpr n) (ss : List Sort) → HaveTypes F S es ss → HaveSorts ss (values_in I st es)
    values_fit end_of-CoreExpr ss h = subst (λ (rs : List Sort). HaveSorts rs []) (sym h) refl
    values_fit (more_of-CoreExpr e es) [] h = absurd h
    values_fit (more_of-CoreExpr e es) (s ∷ ss) h = (value_fits e s h.0, values_fit es ss h.1)

  pub all_values_fit : (es : List CoreExpr) (ss : List Sort) → AllHaveTypes F S es ss → HaveSorts ss (map (value_in I st) es)
  all_values_fit [] ss h = subst (λ (rs : List Sort). HaveSorts rs []) (sym h) refl
  all_values_fit (e ∷ es) [] h = absurd h
  all_values_fit (e ∷ es) (s ∷ ss) h = (value_fits e s h.0, all_values_fit es ss h.1)
