-- What a well-typed text declares: each name once, and found by every table.
use Rattle.std.proofs.Common.{◌≡◌, List, [], ◌∷◌, ◌++◌, map, Option, Some, None, Ok, Err, is_some, refl, sym, ◌∙◌, ap, subst, append_assoc}
use Rattle.std.specs.Prelude.{Bool, true, false, cond, ◌||◌, Result, if◌then◌else◌}
use Rattle.std.specs.List.{AllByRecursion, IsDistinct}
use Rattle.std.proofs.lemmas.List.{append-nil, map-append}
use Rattle.sd_extract.proofs.SourceWords.{Var, Text, same_text, Decl, Const, Function, Axiom, Globals, Procedure, Implementation, Body, Head, TypeError, Twice, Variable, Signature, Callee, Scope, is_among, and_then, named, with_name, with_names, variables_as, constants_of, callee_of, locals_of, own_names}
use Rattle.sd_ast.specs.declared.Decl.TheVariants.{Types}
use Rattle.sd_types.specs.declared.scope.Nature.TheVariants as nature
use Rattle.sd_types.specs.Tables.{with_entry, with_entries}
use Rattle.sd_types.specs.Declarations.{with_body, enter_procedure, enter_implementation, enter, enter_all}
use Rattle.sd_types.proofs.TypingLemmas.{parts, ok_is}
use Rattle.sd_extract.proofs.FormedChecks.{distinct_new}
use Rattle.sd_extract.proofs.Searches.{none_later}

-- ---- tables

abbrev pub keys : {X : Type 0} → List (Text × X) → List Text
keys = map (λ e. e.0)

-- each name stands once
abbrev pub OnceEach : {X : Type 0} → List (Text × X) → Type 0
OnceEach [] = Unit {0}
OnceEach (e ∷ es) = (named es e.0 ≡ None) × OnceEach es

-- a name that is in neither of two tables
pub none_append : {X : Type 0} (es fs : List (Text × X)) (x : Text) → named (es ++ fs) x ≡ None → (named es x ≡ None) × (named fs x ≡ None)
none_append [] fs x h = (refl, h)
none_append (e ∷ es) fs x h = let n = none_later (same_text x e.0) _ _ h in let r = none_append es fs x n.1 in (rw n.0 r.0, r.1)

pub once_append : {X : Type 0} (es fs : List (Text × X)) → OnceEach (es ++ fs) → OnceEach fs
once_append [] fs h = h
once_append (e ∷ es) fs h = once_append es fs h.1

named_among : {X : Type 0} (es : List (Text × X)) (x : Text) → is_some (named es x) ≡ is_among (keys es) x
named_among [] x = refl
named_among (e ∷ es) x = elim (same_text x e.0) as (λ b. is_some (cond b (Some e.1) (named es x)) ≡ (b || is_among (keys es) x)) [ true ↦ refl | false ↦ named_among es x ]

entry_new : {X : Type 0} (es : List (Text × X)) (x : Text) (v : X) (all : List (Text × X)) → with_entry es x v ≡ Ok all → (is_some (named es x) ≡ false) × (es ++ ((x, v) ∷ []) ≡ all)
entry_new es x v all = go (is_some (named es x)) refl
  where
    go : (b : Bool) → is_some (named es x) ≡ b → (if b then Err (Twice x) else Ok (es ++ ((x, v) ∷ []))) ≡ Ok all → (is_some (named es x) ≡ false) × (es ++ ((x, v) ∷ []) ≡ all)
    go true e h = absurd (cc)
    go false e h = (e, ok_is h)

name_added : (seen : List Text) (x : Text) → is_among seen x ≡ false → with_name seen x ≡ Ok (seen ++ (x ∷ []))
name_added seen x h = rw h refl

-- a table's names are declared one after another
pub entries_names : {X : Type 0} (fs es all : List (Text × X)) → with_entries es fs ≡ Ok all → (with_names (keys es) (keys fs) ≡ Ok (keys all)) × (es ++ fs ≡ all)
entries_names [] es all h = (ap (λ (l : List (Text × _)). Ok (keys l)) (ok_is h), append-nil es ∙ ok_is h)
entries_names (f ∷ fs) es all h =
    let k = parts (with_entry es f.0 f.1) (λ more. with_entries more fs) all h in
    let n = entry_new es f.0 f.1 k.0 k.1 in
    let rest = entries_names fs k.0 all k.2 in
    let absent : is_among (keys es) f.0 ≡ false = sym (named_among es f.0) ∙ n.0 in
    let longer : keys es ++ (f.0 ∷ []) ≡ keys k.0 = sym (map-append (λ e. e.0) es (f ∷ [])) ∙ ap keys n.1 in (
      ap (λ (d : Result (List Text) TypeError). and_then d (λ more. with_names more (keys fs))) (name_added (keys es) f.0 absent) ∙ ap (λ (l : List Text). with_names l (keys fs)) longer ∙ rest.0,
      sym (append_assoc es (f ∷ []) fs) ∙ ap (λ (l : List (Text × _)). l ++ fs) n.1 ∙ rest.1,
    )

pub entries_distinct : {X : Type 0} (fs es all : List (Text × X)) → with_entries es fs ≡ Ok all → IsDistinct same_text (keys fs)
entries_distinct fs es all h = (distinct_new (keys fs) (keys es) (keys all) (entries_names fs es all h).0).0

none_named : {X : Type 0} (es : List (Text × X)) (x : Text) → AllByRecursion (λ y. same_text x y ≡ false) (keys es) → named es x ≡ None
none_named [] x h = refl
none_named (e ∷ es) x h = ap (λ (b : Bool). cond b (Some e.1) (named es x)) h.0 ∙ none_named es x h.1

once_each : {X : Type 0} (es : List (Text × X)) → IsDistinct same_text (keys es) → OnceEach es
unfolding IsDistinct
once_each [] h = tt
once_each (e ∷ es) h = (none_named es e.0 h.0, once_each es h.1)

pub entries_once : {X : Type 0} (fs es all : List (Text × X)) → with_entries es fs ≡ Ok all → OnceEach fs
entries_once fs es all h = once_each fs (entries_distinct fs es all h)

entries_join : {X : Type 0} (fs es mid gs all : List (Text × X)) → with_entries es fs ≡ Ok mid → with_entries mid gs ≡ Ok all → with_entries es (fs ++ gs) ≡ Ok all
entries_join [] es mid gs all h k = ap (λ (l : List (Text × _)). with_entries l gs) (ok_is h) ∙ k
entries_join (f ∷ fs) es mid gs all h k =
    let j = parts (with_entry es f.0 f.1) (λ more. with_entries more fs) mid h in
    ap (λ d. and_then d (λ more. with_entries more (fs ++ gs))) j.1 ∙ entries_join fs j.0 mid gs all j.2 k

names_join : (xs seen mid ys all : List Text) → with_names seen xs ≡ Ok mid → with_names mid ys ≡ Ok all → with_names seen (xs ++ ys) ≡ Ok all
names_join [] seen mid ys all h k = ap (λ (l : List Text). with_names l ys) (ok_is h) ∙ k
names_join (x ∷ xs) seen mid ys all h k =
    let j = parts (with_name seen x) (λ more. with_names more xs) mid h in
    ap (λ d. and_then d (λ more. with_names more (xs ++ ys))) j.1 ∙ names_join xs j.0 mid ys all j.2 k

-- ---- what declarations enter

abbrev pub global_entries : List Decl → List (Text × Variable)
global_entries [] = []
global_entries (Const unique names s ∷ ds) = constants_of s names ++ global_entries ds
global_entries (Globals vars ∷ ds) = variables_as nature.Global vars ++ global_entries ds
global_entries (_ ∷ ds) = global_entries ds

abbrev pub function_entries : List Decl → List (Text × Signature)
function_entries [] = []
function_entries (Function f args r ∷ ds) = (f, record { args = args; result = r }) ∷ function_entries ds
function_entries (_ ∷ ds) = function_entries ds

abbrev pub procedure_entries : List Decl → List (Text × Callee)
procedure_entries [] = []
procedure_entries (Procedure p ∷ ds) = (p.head.name, callee_of p) ∷ procedure_entries ds
procedure_entries (_ ∷ ds) = procedure_entries ds

abbrev pub if_body : Text → Option Body → List Text
if_body f None = []
if_body f (Some b) = f ∷ []

abbrev pub body_names : List Decl → List Text
body_names [] = []
body_names (Procedure p ∷ ds) = if_body p.head.name p.body ++ body_names ds
body_names (Implementation i ∷ ds) = i.head.name ∷ body_names ds
body_names (_ ∷ ds) = body_names ds

-- the parameters and locals of a procedure have names of their own
abbrev pub OwnNames : Decl → Type 0
OwnNames (Procedure p) = (all : List Text) × (own_names p.head (locals_of p.body) ≡ Ok all)
OwnNames (Implementation i) = (all : List Text) × (own_names i.head i.body.locals ≡ Ok all)
OwnNames _ = Unit {0}

pub record Entered (G H : Scope) (ds : List Decl) : Type 0 where
  pub globals : with_entries G.globals (global_entries ds) ≡ Ok H.globals
  pub functions : with_entries G.functions (function_entries ds) ≡ Ok H.functions
  pub procedures : with_entries G.procedures (procedure_entries ds) ≡ Ok H.procedures
  pub bodies : with_names G.bodies (body_names ds) ≡ Ok H.bodies
  pub own : AllByRecursion OwnNames ds

body_entered : (bodies : List Text) (f : Text) (b : Option Body) (all : List Text) → with_body bodies f b ≡ Ok all → with_names bodies (if_body f b) ≡ Ok all
body_entered bodies f None all h = h
body_entered bodies f (Some b) all h = ap (λ d. and_then d (λ more. with_names more [])) h

pub entered : (ds : List Decl) (G H : Scope) → enter_all G ds ≡ Ok H → Entered G H ds
entered [] G H h =
    let e = ok_is h in
    record { globals = ap (λ (X : Scope). Ok X.globals) e; functions = ap (λ (X : Scope). Ok X.functions) e; procedures = ap (λ (X : Scope). Ok X.procedures) e; bodies = ap (λ (X : Scope). Ok X.bodies) e; own = tt }
entered (Types names ∷ ds) G H h =
    let k = parts (enter G (Types names)) (λ X. enter_all X ds) H h in
    let j = parts (with_names G.types names) (λ ts. Ok (record G { types = ts })) k.0 k.1 in
    let rest = entered ds (record G { types = j.0 }) H (subst (λ (X : Scope). enter_all X ds ≡ Ok H) (sym (ok_is j.2)) k.2) in
    record { globals = rest.globals; functions = rest.functions; procedures = rest.procedures; bodies = rest.bodies; own = (tt, rest.own) }
entered (Const unique names s ∷ ds) G H h =
    let k = parts (enter G (Const unique names s)) (λ X. enter_all X ds) H h in
    let j = parts (with_entries G.globals (constants_of s names)) (λ es. Ok (record G { globals = es })) k.0 k.1 in
    let rest = entered ds (record G { globals = j.0 }) H (subst (λ (X : Scope). enter_all X ds ≡ Ok H) (sym (ok_is j.2)) k.2) in
    record { globals = entries_join (constants_of s names) G.globals j.0 (global_entries ds) H.globals j.1 rest.globals; functions = rest.functions; procedures = rest.procedures; bodies = rest.bodies; own = (tt, rest.own) }
entered (Function f args r ∷ ds) G H h =
    let k = parts (enter G (Function f args r)) (λ X. enter_all X ds) H h in
    let j = parts (with_entry G.functions f (record { args = args; result = r })) (λ es. Ok (record G { functions = es })) k.0 k.1 in
    let rest = entered ds (record G { functions = j.0 }) H (subst (λ (X : Scope). enter_all X ds ≡ Ok H) (sym (ok_is j.2)) k.2) in
    record { globals = rest.globals; functions = ap (λ d. and_then d (λ more. with_entries more (function_entries ds))) j.1 ∙ rest.functions; procedures = rest.procedures; bodies = rest.bodies; own = (tt, rest.own) }
entered (Axiom e ∷ ds) G H h = let rest = entered ds G H h in
    record { globals = rest.globals; functions = rest.functions; procedures = rest.procedures; bodies = rest.bodies; own = (tt, rest.own) }
entered (Globals vars ∷ ds) G H h =
    let k = parts (enter G (Globals vars)) (λ X. enter_all X ds) H h in
    let j = parts (with_entries G.globals (variables_as nature.Global vars)) (λ es. Ok (record G { globals = es })) k.0 k.1 in
    let rest = entered ds (record G { globals = j.0 }) H (subst (λ (X : Scope). enter_all X ds ≡ Ok H) (sym (ok_is j.2)) k.2) in
    record { globals = entries_join (variables_as nature.Global vars) G.globals j.0 (global_entries ds) H.globals j.1 rest.globals; functions = rest.functions; procedures = rest.procedures; bodies = rest.bodies; own = (tt, rest.own) }
entered (Procedure p ∷ ds) G H h =
    let k = parts (enter_procedure G p) (λ X. enter_all X ds) H h in
    let j = parts (with_entry G.procedures p.head.name (callee_of p)) (λ ps. and_then (with_body G.bodies p.head.name p.body) (λ bs. and_then (own_names p.head (locals_of p.body)) (λ _. Ok (record G { procedures = ps; bodies = bs })))) k.0 k.1 in
    let l = parts (with_body G.bodies p.head.name p.body) (λ bs. and_then (own_names p.head (locals_of p.body)) (λ _. Ok (record G { procedures = j.0; bodies = bs }))) k.0 j.2 in
    let m = parts (own_names p.head (locals_of p.body)) (λ _. Ok (record G { procedures = j.0; bodies = l.0 })) k.0 l.2 in
    let rest = entered ds (record G { procedures = j.0; bodies = l.0 }) H (subst (λ (X : Scope). enter_all X ds ≡ Ok H) (sym (ok_is m.2)) k.2) in
    record { globals = rest.globals; functions = rest.functions; procedures = ap (λ d. and_then d (λ more. with_entries more (procedure_entries ds))) j.1 ∙ rest.procedures; bodies = names_join (if_body p.head.name p.body) G.bodies l.0 (body_names ds) H.bodies (body_entered G.bodies p.head.name p.body l.0 l.1) rest.bodies; own = ((m.0, m.1), rest.own) }
entered (Implementation i ∷ ds) G H h =
    let k = parts (enter_implementation G i) (λ X. enter_all X ds) H h in
    let l = parts (with_name G.bodies i.head.name) (λ bs. and_then (own_names i.head i.body.locals) (λ _. Ok (record G { bodies = bs }))) k.0 k.1 in
    let m = parts (own_names i.head i.body.locals) (λ _. Ok (record G { bodies = l.0 })) k.0 l.2 in
    let rest = entered ds (record G { bodies = l.0 }) H (subst (λ (X : Scope). enter_all X ds ≡ Ok H) (sym (ok_is m.2)) k.2) in
    record { globals = rest.globals; functions = rest.functions; procedures = rest.procedures; bodies = ap (λ d. and_then d (λ more. with_names more (body_names ds))) l.1 ∙ rest.bodies; own = ((m.0, m.1), rest.own) }

-- ---- own names

-- the names of parameters and locals, one after another
pub own_distinct : (h : Head) (locals : List Var) (all : List Text) → own_names h locals ≡ Ok all → IsDistinct same_text (map (λ x. x.name) h.ins ++ (map (λ x. x.name) h.outs ++ map (λ x. x.name) locals))
own_distinct h locals all e =
    let ins = map (λ x. x.name) h.ins in let outs = map (λ x. x.name) h.outs in let more = map (λ x. x.name) locals in
    let j = parts (with_names [] ins) (λ a. and_then (with_names a outs) (λ b. with_names b more)) all e in
    let k = parts (with_names j.0 outs) (λ b. with_names b more) all j.2 in
    (distinct_new (ins ++ (outs ++ more)) [] all (names_join ins [] j.0 (outs ++ more) all j.1 (names_join outs j.0 k.0 more all k.1 k.2))).0
