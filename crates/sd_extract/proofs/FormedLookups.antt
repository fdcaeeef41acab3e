-- What typing finds by name, extraction and the core find too.
use Rattle.std.proofs.Common.{◌≡◌, ◌≢◌, List, [], ◌∷◌, ◌++◌, Option, Some, None, refl, sym, ◌∙◌, ap, subst, ⊎_elim, inl, inr}
use Rattle.std.specs.Prelude.{Bool, true, false, ◌||◌, ◌⊎◌, if◌then◌else◌}
use Rattle.std.specs.List.{AllByRecursion}
use Rattle.std.specs.Cmp.Lexicographic.{bytes_decides}
use Rattle.std.proofs.lemmas.Option.{none-some}
use Rattle.sd_extract.proofs.SourceWords.{Sort, Var, Text, same_text, Decl, Const, Function, Globals, Procedure, Implementation, Proc, Impl, Body, procedure_in, implementation_in, globals_in, Variable, Signature, Callee, Nature, is_among, named, variables_as, constants_of, callee_of}
use Rattle.sd_extract.proofs.CoreWords.{CoreFunction, declared_as, constants_named, functions_in}
use Rattle.sd_types.specs.declared.scope.Nature.TheVariants as nature
use Rattle.sd_extract.proofs.Searches.{first_or_later, same_front}
use Rattle.sd_extract.proofs.FormedTables.{OnceEach, none_append, once_append, global_entries, function_entries, procedure_entries, if_body, body_names}

-- ---- functions and constants

skip_constants : (s : Sort) (names : List Text) (gs : List CoreFunction) (f : Text) → declared_as false (constants_named names s ++ gs) f ≡ declared_as false gs f
skip_constants s [] gs f = refl
skip_constants s (c ∷ names) gs f = skip_constants s names gs f

pub record FoundFunction (gs : List CoreFunction) (f : Text) (sig : Signature) : Type 0 where
  pub function : CoreFunction
  pub found : declared_as false gs f ≡ Some function
  pub args : function.args ≡ sig.args
  pub result : function.result ≡ sig.result

pub function_found : (ds : List Decl) (f : Text) (sig : Signature) → named (function_entries ds) f ≡ Some sig → FoundFunction (functions_in ds) f sig
function_found [] f sig h = absurd (none-some sig h)
function_found (Const u xs s ∷ ds) f sig h =
    let k = function_found ds f sig h in
    record { function = k.function; found = skip_constants s xs (functions_in ds) f ∙ k.found; args = k.args; result = k.result }
function_found (Function g args r ∷ ds) f sig h =
    first_or_later (same_text f g) _ _ _ h
    (λ e k. record { function = record { name = g; args = args; result = r; constant = false }; found = rw e; args = ap (λ (x : Signature). x.args) k; result = ap (λ (x : Signature). x.result) k })
    (λ e k. let rest = function_found ds f sig k in record { function = rest.function; found = rw e rest.found; args = rest.args; result = rest.result })
function_found (_ ∷ ds) f sig h = function_found ds f sig h

pub record FoundConstant (gs : List CoreFunction) (c : Text) (s : Sort) : Type 0 where
  pub function : CoreFunction
  pub found : declared_as true gs c ≡ Some function
  pub result : function.result ≡ s

constant_prefix : (s : Sort) (names : List Text) (es : List (Text × Variable)) (gs : List CoreFunction) (x : Text) (v : Variable) → named (constants_of s names ++ es) x ≡ Some v → (named es x ≡ Some v → FoundConstant gs x v.sort) → FoundConstant (constants_named names s ++ gs) x v.sort
constant_prefix s [] es gs x v h rest = rest h
constant_prefix s (c ∷ names) es gs x v h rest =
    first_or_later (same_text x c) _ _ _ h
    (λ e k. record { function = record { name = c; args = []; result = s; constant = true }; found = rw e; result = ap (λ (y : Variable). y.sort) k })
    (λ e k. let more = constant_prefix s names es gs x v k rest in record { function = more.function; found = rw e more.found; result = more.result })

-- a name that isn't found as one of these variables is found later
pub past_variables : (n : Nature) (vs : List Var) (es : List (Text × Variable)) (x : Text) (v : Variable) → n ≢ v.nature → named (variables_as n vs ++ es) x ≡ Some v → named es x ≡ Some v
past_variables n [] es x v other h = h
past_variables n (y ∷ vs) es x v other h =
    first_or_later (same_text x y.name) _ _ _ h (λ _ k. absurd (other (ap (λ (w : Variable). w.nature) k))) (λ _. past_variables n vs es x v other)

not_global : (v : Variable) → v.nature ≡ nature.Constant → nature.Global ≢ v.nature
not_global v h = λ e. cc

not_constant : (v : Variable) → v.nature ≡ nature.Global → nature.Constant ≢ v.nature
not_constant v h = λ e. cc

pub constant_found : (ds : List Decl) (x : Text) (v : Variable) → named (global_entries ds) x ≡ Some v → v.nature ≡ nature.Constant → FoundConstant (functions_in ds) x v.sort
constant_found [] x v h n = absurd (none-some v h)
constant_found (Const u xs s ∷ ds) x v h n =
    constant_prefix s xs (global_entries ds) (functions_in ds) x v h (λ k. constant_found ds x v k n)
constant_found (Function g args r ∷ ds) x v h n =
    let k = constant_found ds x v h n in record { function = k.function; found = k.found; result = k.result }
constant_found (Globals vs ∷ ds) x v h n =
    constant_found ds x v (past_variables nature.Global vs (global_entries ds) x v (not_global v n) h) n
constant_found (_ ∷ ds) x v h n = constant_found ds x v h n

-- ---- globals

abbrev pub globals_as : List Decl → List (Text × Variable)
globals_as ds = variables_as nature.Global (globals_in ds)

past_constants : (s : Sort) (names : List Text) (es : List (Text × Variable)) (x : Text) (v : Variable) → nature.Constant ≢ v.nature → named (constants_of s names ++ es) x ≡ Some v → named es x ≡ Some v
past_constants s [] es x v other h = h
past_constants s (c ∷ names) es x v other h =
    first_or_later (same_text x c) _ _ _ h (λ _ k. absurd (other (ap (λ (w : Variable). w.nature) k))) (λ _. past_constants s names es x v other)

pub variables_prefix : (n : Nature) (vs ws : List Var) (es : List (Text × Variable)) (x : Text) (o : Option Variable) → named (variables_as n vs ++ es) x ≡ o → (named es x ≡ o → named (variables_as n ws) x ≡ o) → named (variables_as n (vs ++ ws)) x ≡ o
variables_prefix n [] ws es x o h rest = rest h
variables_prefix n (y ∷ vs) ws es x o h rest = same_front (same_text x y.name) _ _ _ _ h (λ k. variables_prefix n vs ws es x o k rest)

pub global_found : (ds : List Decl) (x : Text) (v : Variable) → named (global_entries ds) x ≡ Some v → v.nature ≡ nature.Global → named (globals_as ds) x ≡ Some v
global_found [] x v h n = h
global_found (Const u xs s ∷ ds) x v h n =
    global_found ds x v (past_constants s xs (global_entries ds) x v (not_constant v n) h) n
global_found (Globals vs ∷ ds) x v h n =
    variables_prefix nature.Global vs (globals_in ds) (global_entries ds) x (Some v) h (λ k. global_found ds x v k n)
global_found (_ ∷ ds) x v h n = global_found ds x v h n

-- what isn't declared is no global
pub no_global : (ds : List Decl) (x : Text) → named (global_entries ds) x ≡ None → named (globals_as ds) x ≡ None
no_global [] x h = h
no_global (Const u xs s ∷ ds) x h = no_global ds x (none_append (constants_of s xs) (global_entries ds) x h).1
no_global (Globals vs ∷ ds) x h = variables_prefix nature.Global vs (globals_in ds) (global_entries ds) x None h (no_global ds x)
no_global (_ ∷ ds) x h = no_global ds x h

among_constants : (s : Sort) (names : List Text) (es fs : List (Text × Variable)) (x : Text) (v : Variable) → OnceEach (constants_of s names ++ es) → named (constants_of s names ++ es) x ≡ Some v → (named es x ≡ None → named fs x ≡ None) → (named es x ≡ Some v → named fs x ≡ None) → named fs x ≡ None
among_constants s [] es fs x v once h absent rest = rest h
among_constants s (c ∷ names) es fs x v once h absent rest =
    first_or_later (same_text x c) _ _ _ h
    (λ e _. absent (none_append (constants_of s names) es x (subst (λ (y : Text). named (constants_of s names ++ es) y ≡ None) (sym ((bytes_decides x c).0 e)) once.0)).1)
    (λ _ k. among_constants s names es fs x v once.1 k absent rest)

past_globals : (n : Nature) (vs ws : List Var) (es : List (Text × Variable)) (x : Text) (v : Variable) → n ≢ v.nature → named (variables_as n vs ++ es) x ≡ Some v → (named es x ≡ Some v → named (variables_as n ws) x ≡ None) → named (variables_as n (vs ++ ws)) x ≡ None
past_globals n [] ws es x v other h rest = rest h
past_globals n (y ∷ vs) ws es x v other h rest =
    first_or_later (same_text x y.name) _ _ _ h (λ _ k. absurd (other (ap (λ (w : Variable). w.nature) k))) (λ e k. rw e (past_globals n vs ws es x v other k rest))

-- a constant is no global
pub constant_no_global : (ds : List Decl) (x : Text) (v : Variable) → OnceEach (global_entries ds) → named (global_entries ds) x ≡ Some v → v.nature ≡ nature.Constant → named (globals_as ds) x ≡ None
constant_no_global [] x v once h n = refl
constant_no_global (Const u xs s ∷ ds) x v once h n =
    among_constants s xs (global_entries ds) (globals_as ds) x v once h (no_global ds x) (λ k. constant_no_global ds x v (once_append (constants_of s xs) (global_entries ds) once) k n)
constant_no_global (Globals vs ∷ ds) x v once h n =
    past_globals nature.Global vs (globals_in ds) (global_entries ds) x v (not_global v n) h (λ k. constant_no_global ds x v (once_append (variables_as nature.Global vs) (global_entries ds) once) k n)
constant_no_global (_ ∷ ds) x v once h n = constant_no_global ds x v once h n

-- what is declared is a global or a constant
abbrev pub IsOuter : Variable → Type 0
IsOuter v = (v.nature ≡ nature.Global) ⊎ (v.nature ≡ nature.Constant)

outer_constants : (s : Sort) (names : List Text) (es : List (Text × Variable)) (x : Text) (v : Variable) → named (constants_of s names ++ es) x ≡ Some v → (named es x ≡ Some v → IsOuter v) → IsOuter v
outer_constants s [] es x v h rest = rest h
outer_constants s (c ∷ names) es x v h rest =
    first_or_later (same_text x c) _ _ _ h (λ _ k. inr (ap (λ (w : Variable). w.nature) (sym k))) (λ _ k. outer_constants s names es x v k rest)

outer_globals : (vs : List Var) (es : List (Text × Variable)) (x : Text) (v : Variable) → named (variables_as nature.Global vs ++ es) x ≡ Some v → (named es x ≡ Some v → IsOuter v) → IsOuter v
outer_globals [] es x v h rest = rest h
outer_globals (y ∷ vs) es x v h rest =
    first_or_later (same_text x y.name) _ _ _ h (λ _ k. inl (ap (λ (w : Variable). w.nature) (sym k))) (λ _ k. outer_globals vs es x v k rest)

pub is_outer : (ds : List Decl) (x : Text) (v : Variable) → named (global_entries ds) x ≡ Some v → IsOuter v
is_outer [] x v h = absurd (none-some v h)
is_outer (Const u xs s ∷ ds) x v h = outer_constants s xs (global_entries ds) x v h (is_outer ds x v)
is_outer (Globals vs ∷ ds) x v h = outer_globals vs (global_entries ds) x v h (is_outer ds x v)
is_outer (_ ∷ ds) x v h = is_outer ds x v h

-- ---- procedures

pub record FoundProcedure (ds : List Decl) (f : Text) (q : Callee) : Type 0 where
  pub procedure : Proc
  pub found : procedure_in ds f ≡ Some procedure
  pub callee : callee_of procedure ≡ q

pub procedure_found : (ds : List Decl) (f : Text) (q : Callee) → named (procedure_entries ds) f ≡ Some q → FoundProcedure ds f q
procedure_found [] f q h = absurd (none-some q h)
procedure_found (Procedure p ∷ ds) f q h =
    first_or_later (same_text f p.head.name) _ _ _ h
    (λ e k. record { procedure = p; found = rw e; callee = k })
    (λ e k. let rest = procedure_found ds f q k in record { procedure = rest.procedure; found = rw e rest.found; callee = rest.callee })
procedure_found (_ ∷ ds) f q h = let k = procedure_found ds f q h in record { procedure = k.procedure; found = k.found; callee = k.callee }

pub procedure_named : (ds : List Decl) (f : Text) (p : Proc) → procedure_in ds f ≡ Some p → named (procedure_entries ds) f ≡ Some (callee_of p)
procedure_named [] f p h = absurd (none-some p h)
procedure_named (Procedure q ∷ ds) f p h =
    first_or_later (same_text f q.head.name) _ _ _ h (λ e k. rw e (ap (λ (x : Proc). Some (callee_of x)) k)) (λ e k. rw e (procedure_named ds f p k))
procedure_named (_ ∷ ds) f p h = procedure_named ds f p h

-- the first declaration of this name has what all have
pub procedure_has : (Q : Decl → Type 0) (ds : List Decl) (f : Text) (p : Proc) → AllByRecursion Q ds → procedure_in ds f ≡ Some p → Q (Procedure p) × (f ≡ p.head.name)
procedure_has Q [] f p a h = absurd (none-some p h)
procedure_has Q (Procedure q ∷ ds) f p a h =
    first_or_later (same_text f q.head.name) _ _ _ h
    (λ e k. (subst (λ (x : Proc). Q (Procedure x)) k a.0, (bytes_decides f q.head.name).0 e ∙ ap (λ (x : Proc). x.head.name) k))
    (λ _. procedure_has Q ds f p a.1)
procedure_has Q (_ ∷ ds) f p a h = procedure_has Q ds f p a.1 h

pub implementation_has : (Q : Decl → Type 0) (ds : List Decl) (f : Text) (i : Impl) → AllByRecursion Q ds → implementation_in ds f ≡ Some i → Q (Implementation i) × (f ≡ i.head.name)
implementation_has Q [] f i a h = absurd (none-some i h)
implementation_has Q (Implementation j ∷ ds) f i a h =
    first_or_later (same_text f j.head.name) _ _ _ h
    (λ e k. (subst (λ (x : Impl). Q (Implementation x)) k a.0, (bytes_decides f j.head.name).0 e ∙ ap (λ (x : Impl). x.head.name) k))
    (λ _. implementation_has Q ds f i a.1)
implementation_has Q (_ ∷ ds) f i a h = implementation_has Q ds f i a.1 h

-- a procedure that has a body has an implementation, or a body of its own
abbrev pub HasBody : List Decl → Text → Type 0
HasBody ds f = ((i : Impl) × (implementation_in ds f ≡ Some i)) ⊎ ((p : Proc) × (b : Body) × (procedure_in ds f ≡ Some p) × (p.body ≡ Some b))

pub has_a_body : (ds : List Decl) (f : Text) → OnceEach (procedure_entries ds) → is_among (body_names ds) f ≡ true → HasBody ds f
has_a_body [] f once h = absurd (cc)
has_a_body (Implementation i ∷ ds) f once h = go (same_text f i.head.name) refl h (has_a_body ds f once)
  where
    go : (b : Bool) → same_text f i.head.name ≡ b → (b || is_among (body_names ds) f) ≡ true → (is_among (body_names ds) f ≡ true → HasBody ds f) → HasBody (Implementation i ∷ ds) f
    go true e k rec = inl (i, ap (λ (b : Bool). if b then Some i else implementation_in ds f) e)
    go false e k rec = ⊎_elim
        (λ (l : (j : Impl) × (implementation_in ds f ≡ Some j)). inl (l.0, ap (λ (b : Bool). if b then Some i else implementation_in ds f) e ∙ l.1))
        (λ (r : (p : Proc) × (b : Body) × (procedure_in ds f ≡ Some p) × (p.body ≡ Some b)). inr r)
        (rec k)
has_a_body (Procedure p ∷ ds) f once h = go (same_text f p.head.name) refl p.body refl h (has_a_body ds f once.1)
  where
    later : same_text f p.head.name ≡ false → HasBody ds f → HasBody (Procedure p ∷ ds) f
    later e k = ⊎_elim
        (λ (l : (j : Impl) × (implementation_in ds f ≡ Some j)). inl l)
        (λ (r : (q : Proc) × (b : Body) × (procedure_in ds f ≡ Some q) × (q.body ≡ Some b)). inr (r.0, r.1, ap (λ (b : Bool). if b then Some p else procedure_in ds f) e ∙ r.2, r.3))
        k

    only_impl : same_text f p.head.name ≡ true → HasBody ds f → HasBody (Procedure p ∷ ds) f
    only_impl e k = ⊎_elim
        (λ (l : (j : Impl) × (implementation_in ds f ≡ Some j)). inl l)
        (λ (r : (q : Proc) × (b : Body) × (procedure_in ds f ≡ Some q) × (q.body ≡ Some b)). let same : f ≡ p.head.name = (bytes_decides f p.head.name).0 e in
        let absent : named (procedure_entries ds) f ≡ None = subst (λ (y : Text). named (procedure_entries ds) y ≡ None) (sym same) once.0 in
        absurd (none-some (callee_of r.0) (sym absent ∙ procedure_named ds f r.0 r.2)))
        k

    go : (b : Bool) → same_text f p.head.name ≡ b → (o : Option Body) → p.body ≡ o → is_among (if_body p.head.name o ++ body_names ds) f ≡ true → (is_among (body_names ds) f ≡ true → HasBody ds f) → HasBody (Procedure p ∷ ds) f
    go true e (Some b) is k rec = inr (p, b, ap (λ (b : Bool). if b then Some p else procedure_in ds f) e, is)
    go true e None is k rec = only_impl e (rec k)
    go false e (Some b) is k rec = later e (rec (ap (λ (c : Bool). c || is_among (body_names ds) f) (sym e) ∙ k))
    go false e None is k rec = later e (rec k)
has_a_body (_ ∷ ds) f once h = has_a_body ds f once h
