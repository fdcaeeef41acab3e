-- What the names of a context stand for is at the places of a frame.
use Rattle.std.proofs.Common.{◌≡◌, ◌≢◌, ℕ, zero, suc, ◌<◌, List, [], ◌∷◌, ◌++◌, Option, Some, None, refl, sym, ◌∙◌, ap, subst, ⊎_elim, arith}
use Rattle.std.specs.Prelude.{true, set, slice_get}
use Rattle.std.specs.List.{AllByRecursion}
use Rattle.std.specs.Cmp.Lexicographic.{bytes_decides}
use Rattle.std.proofs.lemmas.Option.{same_Some, none-some, cond_some}
use Rattle.sd_extract.proofs.SourceWords.{Sort, Var, Text, same_text, names_of, Proc, Program, Variable, Signature, Nature, Scope, named, context, may_name, if_named, or_global, variables_as, parameters}
use Rattle.sd_extract.proofs.CoreWords.{Spot, Slot, Global, Function, Store, set_all, sorts_of, sort_at, IsSort, AreSpotsOf, AreApart, HasCoreType, Names, place_in, either_place, place_of, at_place, globals_from, on_args, functions_in}
use Rattle.sd_base.proofs.Lists.{all-append}
use Rattle.sd_types.specs.declared.scope.Nature.TheVariants as nature
use Rattle.sd_types.specs.declared.scope.Site.{Site}
use Rattle.sd_types.specs.declared.scope.Site.TheVariants as site
use Rattle.sd_types.specs.Scopes.{has_old}
use Rattle.sd_extract.proofs.Searches.{first_or_later, none_later, same_front}
use Rattle.sd_extract.proofs.FormedExpressions.{Reads, Sees}
use Rattle.sd_extract.proofs.FormedTables.{OnceEach, none_append, global_entries, function_entries}
use Rattle.sd_extract.proofs.FormedLookups.{function_found, constant_found, globals_as, global_found, constant_no_global, is_outer}

-- ---- tables of variables and lists of names with their spots

-- each entry's name is kept at a spot of its type
abbrev pub Laid : Store Sort → List (Text × Variable) → List Text → List Spot → Type 0
Laid T [] xs ps = (xs ≡ []) × (ps ≡ [])
Laid T (e ∷ es) [] ps = ⊥
Laid T (e ∷ es) (x ∷ xs) [] = ⊥
Laid T (e ∷ es) (x ∷ xs) (p ∷ ps) = (e.0 ≡ x) × (sort_at T p ≡ Some e.1.sort) × Laid T es xs ps

pub laid_append : (T : Store Sort) (es fs : List (Text × Variable)) (xs ys : List Text) (ps qs : List Spot) → Laid T es xs ps → Laid T fs ys qs → Laid T (es ++ fs) (xs ++ ys) (ps ++ qs)
laid_append T [] fs xs ys ps qs h k =
    subst (λ (l : List Text). Laid T fs (l ++ ys) (ps ++ qs)) (sym h.0) (subst (λ (l : List Spot). Laid T fs ys (l ++ qs)) (sym h.1) k)
laid_append T (e ∷ es) fs [] ys ps qs h k = absurd h
laid_append T (e ∷ es) fs (x ∷ xs) ys [] qs h k = absurd h
laid_append T (e ∷ es) fs (x ∷ xs) ys (p ∷ ps) qs h k = (h.0, h.1, laid_append T es fs xs ys ps qs h.2 k)

pub laid_vars : (T : Store Sort) (n : Nature) (vs : List Var) (ps : List Spot) → AreSpotsOf T ps (sorts_of vs) → Laid T (variables_as n vs) (names_of vs) ps
laid_vars T n [] [] h = (refl, refl)
laid_vars T n [] (p ∷ ps) h = absurd h
laid_vars T n (v ∷ vs) [] h = absurd (cc)
laid_vars T n (v ∷ vs) (p ∷ ps) h = (refl, h.0, laid_vars T n vs ps h.1)

-- the same of two lists of variables that stand one after another
pub laid_two : (T : Store Sort) (m n : Nature) (vs ws : List Var) (ps : List Spot) → AreSpotsOf T ps (sorts_of (vs ++ ws)) → Laid T (variables_as m vs ++ variables_as n ws) (names_of (vs ++ ws)) ps
laid_two T m n [] ws ps h = laid_vars T n ws ps h
laid_two T m n (v ∷ vs) ws [] h = absurd (cc)
laid_two T m n (v ∷ vs) ws (p ∷ ps) h = (refl, h.0, laid_two T m n vs ws ps h.1)

pub record PlaceFor (T : Store Sort) (xs : List Text) (ps : List Spot) (x : Text) (s : Sort) : Type 0 where
  pub spot : Spot
  pub found : place_in xs ps x ≡ Some spot
  pub sort : sort_at T spot ≡ Some s

pub laid_found : (T : Store Sort) (es : List (Text × Variable)) (xs : List Text) (ps : List Spot) (x : Text) (v : Variable) → Laid T es xs ps → named es x ≡ Some v → PlaceFor T xs ps x v.sort
laid_found T [] xs ps x v h k = absurd (none-some v k)
laid_found T (e ∷ es) [] ps x v h k = absurd h
laid_found T (e ∷ es) (y ∷ xs) [] x v h k = absurd h
laid_found T (e ∷ es) (y ∷ xs) (p ∷ ps) x v h k =
    first_or_later (same_text x e.0) _ _ _ k
    (λ t j. record { spot = p; found = rw (ap (same_text x) (sym h.0) ∙ t); sort = h.1 ∙ ap (λ (w : Variable). Some w.sort) j })
    (λ t j. let r = laid_found T es xs ps x v h.2 j in record { spot = r.spot; found = rw (ap (same_text x) (sym h.0) ∙ t) r.found; sort = r.sort })

pub laid_none : (T : Store Sort) (es : List (Text × Variable)) (xs : List Text) (ps : List Spot) (x : Text) → Laid T es xs ps → named es x ≡ None → place_in xs ps x ≡ None
laid_none T [] xs ps x h k = ap (λ (l : List Text). place_in l ps x) h.0
laid_none T (e ∷ es) [] ps x h k = absurd h
laid_none T (e ∷ es) (y ∷ xs) [] x h k = absurd h
laid_none T (e ∷ es) (y ∷ xs) (p ∷ ps) x h k =
    let n = none_later (same_text x e.0) _ _ k in rw (ap (same_text x) (sym h.0) ∙ n.0) (laid_none T es xs ps x h.2 n.1)

-- ---- one name for a spot

place_among : (p : Spot) (xs : List Text) (ps : List Spot) (y : Text) → AllByRecursion (λ r. p ≢ r) ps → place_in xs ps y ≡ Some p → ⊥
place_among p [] ps y a h = none-some p h
place_among p (x ∷ xs) [] y a h = none-some p h
place_among p (x ∷ xs) (q ∷ ps) y a h = first_or_later (same_text y x) _ _ _ h (λ _ k. a.0 (sym k)) (λ _. place_among p xs ps y a.1)

pub place_once : (xs : List Text) (ps : List Spot) (x y : Text) (q : Spot) → AreApart ps → place_in xs ps x ≡ Some q → place_in xs ps y ≡ Some q → x ≡ y
place_once [] ps x y q a h k = absurd (none-some q h)
place_once (z ∷ xs) [] x y q a h k = absurd (none-some q h)
place_once (z ∷ xs) (p ∷ ps) x y q a h k =
    first_or_later (same_text x z) _ _ _ h
    (λ e i. first_or_later (same_text y z) _ _ _ k (λ f _. (bytes_decides x z).0 e ∙ sym ((bytes_decides y z).0 f)) (λ _ j. absurd (there y i j)))
    (λ _ i. first_or_later (same_text y z) _ _ _ k (λ _ j. absurd (there x j i)) (λ _. place_once xs ps x y q a.1 i))
  where
    there : (w : Text) → p ≡ q → place_in xs ps w ≡ Some q → ⊥
    there w e j = place_among p xs ps w a.0 (j ∙ ap Some (sym e))

-- what holds of all the spots holds of a place
pub place_has : (Q : Spot → Type 0) (xs : List Text) (ps : List Spot) (x : Text) (q : Spot) → AllByRecursion Q ps → place_in xs ps x ≡ Some q → Q q
place_has Q [] ps x q a h = absurd (none-some q h)
place_has Q (z ∷ xs) [] x q a h = absurd (none-some q h)
place_has Q (z ∷ xs) (p ∷ ps) x q a h = first_or_later (same_text x z) _ _ _ h (λ _ k. subst Q k a.0) (λ _. place_has Q xs ps x q a.1)

abbrev pub IsSlot : Spot → Type 0
IsSlot (Slot i) = Unit {0}
IsSlot (Global i) = ⊥

abbrev pub IsGlobalSpot : Spot → Type 0
IsGlobalSpot (Slot i) = ⊥
IsGlobalSpot (Global i) = Unit {0}

-- Names of locals are at slots, each at its own, and those of globals at globals.
pub record Separate (N : Names) : Type 0 where
  pub locals_apart : AreApart N.locals
  pub globals_apart : AreApart N.globals
  pub locals : AllByRecursion IsSlot N.locals
  pub globals : AllByRecursion IsGlobalSpot N.globals

not_both : (q : Spot) → IsSlot q → IsGlobalSpot q → ⊥
not_both (Slot i) a b = b
not_both (Global i) a b = a

pub place_one : (N : Names) → Separate N → (x y : Text) (q : Spot) → place_of N x ≡ Some q → place_of N y ≡ Some q → x ≡ y
place_one N s x y q h k = go (place_in N.local_names N.locals x) (place_in N.local_names N.locals y) refl refl h k
  where
    local : (w : Text) (p : Spot) → place_in N.local_names N.locals w ≡ Some p → p ≡ q → place_in N.local_names N.locals w ≡ Some q
    local w p e f = e ∙ ap Some f

    mixed : (v w : Text) → place_in N.local_names N.locals v ≡ Some q → place_in N.global_names N.globals w ≡ Some q → ⊥
    mixed v w e f = not_both q (place_has IsSlot N.local_names N.locals v q s.locals e) (place_has IsGlobalSpot N.global_names N.globals w q s.globals f)

    go : (a b : Option Spot) → place_in N.local_names N.locals x ≡ a → place_in N.local_names N.locals y ≡ b → either_place a (place_in N.global_names N.globals x) ≡ Some q → either_place b (place_in N.global_names N.globals y) ≡ Some q → x ≡ y
    go (Some a) (Some b) e f i j =
        place_once N.local_names N.locals x y q s.locals_apart (local x a e (same_Some _ _ i)) (local y b f (same_Some _ _ j))
    go (Some a) None e f i j = absurd (mixed x y (local x a e (same_Some _ _ i)) j)
    go None (Some b) e f i j = absurd (mixed y x (local y b f (same_Some _ _ j)) i)
    go None None e f i j = place_once N.global_names N.globals x y q s.globals_apart i j

-- ---- globals at their numbers and at the entry

abbrev pub HoldsGlobals : List Sort → ℕ → List Sort → Type 0
HoldsGlobals globals k [] = Unit {0}
HoldsGlobals globals k (s ∷ ss) = (slice_get globals k ≡ Some s) × HoldsGlobals globals (suc k) ss

globals_next : (x : Sort) (globals : List Sort) (k : ℕ) (ss : List Sort) → HoldsGlobals globals k ss → HoldsGlobals (x ∷ globals) (suc k) ss
globals_next x globals k [] h = tt
globals_next x globals k (s ∷ ss) h = (h.0, globals_next x globals (suc k) ss h.1)

globals_hold : (ss : List Sort) → HoldsGlobals ss 0 ss
globals_hold [] = tt
globals_hold (s ∷ ss) = (refl, globals_next s ss 0 ss (globals_hold ss))

global_spots_from : (T : Store Sort) (k : ℕ) (vs : List Var) → HoldsGlobals T.globals k (sorts_of vs) → AreSpotsOf T (globals_from k vs) (sorts_of vs)
global_spots_from T k [] h = refl
global_spots_from T k (v ∷ vs) h = (h.0, global_spots_from T (suc k) vs h.1)

pub global_spots : (T : Store Sort) (vs : List Var) → T.globals ≡ sorts_of vs → AreSpotsOf T (globals_from 0 vs) (sorts_of vs)
global_spots T vs e =
    global_spots_from T 0 vs (subst (λ (l : List Sort). HoldsGlobals l 0 (sorts_of vs)) (sym e) (globals_hold (sorts_of vs)))

global_is : (i j : ℕ) → Global i ≡ Global j → i ≡ j
global_is i j e = cc

global_below : {A : Type 0} (i k : ℕ) (xs : List A) → i < k → AllByRecursion (λ q. Global i ≢ q) (globals_from k xs)
global_below i k [] h = tt
global_below i k (x ∷ xs) h =
    ((λ e. let f = global_is i k e in absurd (omega (arith, f, h))), global_below i (suc k) xs (omega (arith, h)))

pub globals_apart : {A : Type 0} (k : ℕ) (xs : List A) → AreApart (globals_from k xs)
globals_apart k [] = tt
globals_apart k (x ∷ xs) = (global_below k (suc k) xs (omega arith), globals_apart (suc k) xs)

pub all_global : {A : Type 0} (k : ℕ) (xs : List A) → AllByRecursion IsGlobalSpot (globals_from k xs)
all_global k [] = tt
all_global k (x ∷ xs) = (tt, all_global (suc k) xs)

-- these numbers are of such types
abbrev pub Matches : List Sort → List ℕ → List Sort → Type 0
Matches ss [] [] = Unit {0}
Matches ss [] (t ∷ ts) = ⊥
Matches ss (m ∷ ms) [] = ⊥
Matches ss (m ∷ ms) (t ∷ ts) = (slice_get ss m ≡ Some t) × Matches ss ms ts

set_spot : (T : Store Sort) (ps : List Spot) (ss : List Sort) (m : ℕ) (q : Spot) (t : Sort) → AreSpotsOf T ps ss → slice_get ss m ≡ Some t → sort_at T q ≡ Some t → AreSpotsOf T (set ps m q) ss
set_spot T [] ss m q t h e k = h
set_spot T (p ∷ ps) [] m q t h e k = absurd h
set_spot T (p ∷ ps) (s ∷ ss) zero q t h e k = (k ∙ sym e, h.1)
set_spot T (p ∷ ps) (s ∷ ss) (suc m) q t h e k = (h.0, set_spot T ps ss m q t h.1 e k)

pub set_spots : (T : Store Sort) (ps : List Spot) (ss : List Sort) (ms : List ℕ) (qs : List Spot) (ts : List Sort) → AreSpotsOf T ps ss → Matches ss ms ts → AreSpotsOf T qs ts → AreSpotsOf T (set_all ps ms qs) ss
set_spots T ps ss [] qs ts h e k = h
set_spots T ps ss (m ∷ ms) [] ts h e k = h
set_spots T ps ss (m ∷ ms) (q ∷ qs) [] h e k = absurd k
set_spots T ps ss (m ∷ ms) (q ∷ qs) (t ∷ ts) h e k =
    set_spots T (set ps m q) ss ms qs ts (set_spot T ps ss m q t h e.0 k.0) e.1 k.1

-- ---- what a context sees

-- the tables that typing made of a program, and that their types are fit for maps
pub record IsScope (P : Program) (G : Scope) : Type 0 where
  pub globals : global_entries P.decls ≡ G.globals
  pub once : OnceEach (global_entries P.decls)
  pub functions : function_entries P.decls ≡ G.functions
  pub global_sorts : AllByRecursion (λ e. IsSort e.1.sort) (global_entries P.decls)
  pub function_sorts : AllByRecursion (λ e. IsSort e.1.result) (function_entries P.decls)

pub named_has : {X : Type 0} (Q : X → Type 0) (es : List (Text × X)) (x : Text) (v : X) → AllByRecursion (λ e. Q e.1) es → named es x ≡ Some v → Q v
named_has Q [] x v a h = absurd (none-some v h)
named_has Q (e ∷ es) x v a h = first_or_later (same_text x e.0) _ _ _ h (λ _ k. subst Q k a.0) (λ _. named_has Q es x v a.1)

pub sorts_as : (n : Nature) (vs : List Var) → AllByRecursion IsSort (sorts_of vs) → AllByRecursion (λ e. IsSort e.1.sort) (variables_as n vs)
sorts_as n [] a = tt
sorts_as n (y ∷ vs) a = (a.0, sorts_as n vs a.1)

-- the locals that a place may name are at their places
pub record LocalsAt (T : Store Sort) (s : Site) (locals : List (Text × Variable)) (N : Names) : Type 0 where
  pub found : (x : Text) (v : Variable) → named locals x ≡ Some v → may_name s v.nature ≡ true → PlaceFor T N.local_names N.locals x v.sort
  pub absent : (x : Text) → named locals x ≡ None → place_in N.local_names N.locals x ≡ None
  pub sorts : AllByRecursion (λ e. IsSort e.1.sort) locals

pub if_named-some : (s : Site) (o : Option Variable) (v : Variable) → if_named s o ≡ Some v → (o ≡ Some v) × (may_name s v.nature ≡ true)
if_named-some s None v h = absurd (none-some v h)
if_named-some s (Some w) v h = let k = cond_some (may_name s w.nature) w v h in (ap Some k.1, subst (λ (u : Variable). may_name s u.nature ≡ true) k.1 k.0)

module _ (P : Program) (G : Scope) (scope : IsScope P G) where
  abbrev F : List Function
  F = functions_in P.decls

  pub outer_named : (x : Text) (v : Variable) → named G.globals x ≡ Some v → named (global_entries P.decls) x ≡ Some v
  outer_named x v h = ap (λ (l : List (Text × Variable)). named l x) scope.globals ∙ h

  -- a name that is no local
  outer_reads : (T : Store Sort) (N : Names) (x : Text) (v : Variable) → Laid T (globals_as P.decls) N.global_names N.globals → place_in N.local_names N.locals x ≡ None → named G.globals x ≡ Some v → HasCoreType F T (at_place (place_of N x) x) v.sort
  outer_reads T N x v laid none h =
      let e = outer_named x v h in
      ⊎_elim
      (λ (g : v.nature ≡ nature.Global). let p = laid_found T (globals_as P.decls) N.global_names N.globals x v laid (global_found P.decls x v e g) in
      let at : place_of N x ≡ Some p.spot = ap (λ (o : Option Spot). either_place o (place_in N.global_names N.globals x)) none ∙ p.found in
      subst (λ (o : Option Spot). HasCoreType F T (at_place o x) v.sort) (sym at) p.sort)
      (λ (c : v.nature ≡ nature.Constant). let k = constant_found P.decls x v e c in
      let away = laid_none T (globals_as P.decls) N.global_names N.globals x laid (constant_no_global P.decls x v scope.once e c) in
      let at : place_of N x ≡ None = ap (λ (o : Option Spot). either_place o (place_in N.global_names N.globals x)) none ∙ away in
      subst (λ (o : Option Spot). HasCoreType F T (at_place o x) v.sort) (sym at) (k.function, k.found, k.result))
      (is_outer P.decls x v e)

  reads : (T : Store Sort) (s : Site) (locals : List (Text × Variable)) (N : Names) → LocalsAt T s locals N → Laid T (globals_as P.decls) N.global_names N.globals → Reads F T (context G locals s) N
  reads T s locals N at laid x v h =
      let k = if_named-some s (or_global (named locals x) (named G.globals x)) v h in
      go (named locals x) refl k.0 k.1
    where
      go : (o : Option Variable) → named locals x ≡ o → or_global o (named G.globals x) ≡ Some v → may_name s v.nature ≡ true → HasCoreType F T (at_place (place_of N x) x) v.sort
      go (Some w) e j m =
          let p = at.found x v (e ∙ j) m in
          let here : place_of N x ≡ Some p.spot = ap (λ (o : Option Spot). either_place o (place_in N.global_names N.globals x)) p.found in
          subst (λ (o : Option Spot). HasCoreType F T (at_place o x) v.sort) (sym here) p.sort
      go None e j m = outer_reads T N x v laid (at.absent x e) j

  pub variable_sort : (s : Site) (locals : List (Text × Variable)) → AllByRecursion (λ e. IsSort e.1.sort) locals → (x : Text) (v : Variable) → (context G locals s).variable x ≡ Some v → IsSort v.sort
  variable_sort s locals sorts x v h =
      let k = if_named-some s (or_global (named locals x) (named G.globals x)) v h in go (named locals x) refl k.0
    where
      go : (o : Option Variable) → named locals x ≡ o → or_global o (named G.globals x) ≡ Some v → IsSort v.sort
      go (Some w) e j = named_has (λ u. IsSort u.sort) locals x v sorts (e ∙ j)
      go None e j = named_has (λ u. IsSort u.sort) (global_entries P.decls) x v scope.global_sorts (outer_named x v j)

  pub sees : (T : Store Sort) (s : Site) (locals : List (Text × Variable)) (N : Names) → LocalsAt T s locals N → Laid T (globals_as P.decls) N.global_names N.globals → (has_old s ≡ true → Laid T (globals_as P.decls) N.global_names N.entry) → Sees F T (context G locals s) N
  sees T s locals N at laid entry = record {
    variables = reads T s locals N at laid;
    entry = λ e. reads T s locals (record N { globals = N.entry }) (record { found = at.found; absent = at.absent; sorts = at.sorts }) (entry e);
    sorts = variable_sort s locals at.sorts;
    functions = λ f sig h. let e : named (function_entries P.decls) f ≡ Some sig = ap (λ (l : List (Text × Signature)). named l f) scope.functions ∙ h in
        let k = function_found P.decls f sig e in
        (k.function, k.found, k.args, k.result, named_has (λ (u : Signature). IsSort u.result) (function_entries P.decls) f sig scope.function_sorts e);
  }

  -- the names of a callee's parameters, at its arguments
  pub args_at : (T : Store Sort) (N : Names) (d : Proc) (spots : List Spot) → AllByRecursion IsSort (sorts_of d.head.ins) → AllByRecursion IsSort (sorts_of d.head.outs) → AreSpotsOf T spots (sorts_of d.head.ins) → LocalsAt T site.Requires (parameters d.head) (on_args N d spots)
  args_at T N d spots known_ins known_outs h =
      let ins = variables_as nature.Input d.head.ins in
      let outs = variables_as nature.Output d.head.outs in
      let laid = laid_vars T nature.Input d.head.ins spots h in
      record {
        found = λ x v e m. laid_found T ins (names_of d.head.ins) spots x v laid (not_out d.head.ins x v e m);
        absent = λ x e. laid_none T ins (names_of d.head.ins) spots x laid (none_append ins outs x e).0;
        sorts = all-append (λ e. IsSort e.1.sort) ins outs (sorts_as nature.Input d.head.ins known_ins) (sorts_as nature.Output d.head.outs known_outs);
      }
    where
      is_output : (v : Variable) → nature.Output ≡ v.nature → may_name site.Requires v.nature ≡ true → ⊥
      is_output v e m =
          let f : may_name site.Requires nature.Output ≡ true = ap (may_name site.Requires) e ∙ m in absurd (cc)

      out_no : (vs : List Var) (x : Text) (v : Variable) → named (variables_as nature.Output vs) x ≡ Some v → may_name site.Requires v.nature ≡ true → ⊥
      out_no [] x v e m = none-some v e
      out_no (y ∷ vs) x v e m = first_or_later (same_text x y.name) _ _ _ e (λ _ k. is_output v (ap (λ (w : Variable). w.nature) k) m) (λ _ k. out_no vs x v k m)

      not_out : (vs : List Var) (x : Text) (v : Variable) → named (variables_as nature.Input vs ++ variables_as nature.Output d.head.outs) x ≡ Some v → may_name site.Requires v.nature ≡ true → named (variables_as nature.Input vs) x ≡ Some v
      not_out [] x v e m = absurd (out_no d.head.outs x v e m)
      not_out (y ∷ vs) x v e m = same_front (same_text x y.name) _ _ _ _ e (λ k. not_out vs x v k m)
