-- A program breaks no rule exactly where it is well typed.
use Rattle.std.proofs.Common.{◌≡◌, Bool as Test, true, false, List, [], ◌∷◌, ◌++◌, Option, Some, None, is_some, Ok, Err, refl, sym, ap, ◌∙◌, subst, append_assoc, append-nil}
use Rattle.std.specs.Prelude.{◌&&◌, if◌then◌else◌}
use Rattle.std.specs.List.{AllByRecursion}
use Rattle.sd_base.specs.declared.sort.Sort.{Sort, Int, Bool, Named}
use Rattle.sd_base.specs.declared.sort.Var.{Var}
use Rattle.sd_base.specs.Sorts.{MapOf, same_sort}
use Rattle.sd_base.specs.Value.{Text}
use Rattle.sd_base.proofs.SortLemmas.{same_sort-is, same_sort-refl}
use Rattle.sd_ast.specs.declared.tree.Head.{Head}
use Rattle.sd_ast.specs.declared.tree.Body.{Body}
use Rattle.sd_ast.specs.declared.tree.Proc.{Proc}
use Rattle.sd_ast.specs.declared.tree.Impl.{Impl}
use Rattle.sd_ast.specs.declared.tree.Spec.{Spec}
use Rattle.sd_ast.specs.declared.tree.Spec.TheVariants.{Modifies, Requires, Ensures}
use Rattle.sd_ast.specs.declared.tree.Decl.{Decl}
use Rattle.sd_ast.specs.declared.tree.Decl.TheVariants.{Types, Const, Function, Axiom, Globals, Procedure, Implementation}
use Rattle.sd_ast.specs.declared.tree.Program.{Program}
use Rattle.sd_types.specs.declared.refusal.TypeError.TheVariants.{Unknown, Kind}
use Rattle.sd_types.specs.declared.scope.Nature.TheVariants as nature
use Rattle.sd_types.specs.declared.scope.Site.TheVariants as site
use Rattle.sd_types.specs.declared.scope.Variable.{Variable}
use Rattle.sd_types.specs.declared.scope.Callee.{Callee}
use Rattle.sd_types.specs.declared.scope.Scope.{Scope}
use Rattle.sd_types.specs.Names.{is_among}
use Rattle.sd_types.specs.Answer.{and_then, both, each}
use Rattle.sd_types.specs.Tables.{named, with_name, with_names, with_entry, with_entries}
use Rattle.sd_types.specs.Scopes.{context, declared_as}
use Rattle.sd_types.specs.Phrases.{index_sort, known_sort}
use Rattle.sd_types.specs.Statements.{routine, is_global}
use Rattle.sd_types.specs.Declarations.{sorts_of_vars, variables_as, constants_of, callee_of, locals_of, modifies_of, parameters, body_variables, own_names, with_body, procedure_names, enter, enter_all, nothing, known_sorts, known_vars, head_rule, names_global, spec_rule, body_stmts_rule, body_rule, own_body_rule, procedure_rule, have_sorts, same_types, implementation_rule, decl_rule, scope_of, refusal, WellTyped}
use Rattle.sd_types.specs.WellTypedStatements.{IsGlobal}
use Rattle.sd_types.specs.WellTyped.{types_in, globals_in, functions_in, procedures_in, body_named, bodies_in, declared_in, HasOwnNamesOnce, entry_names, AreDeclaredOnce, IsIndexSort, IsKnownSort, HaveKnownSorts, HasKnownHead, IsWellTypedSpec, IsWellTypedBody, IsWellTypedOwnBody, IsWellTypedProcedure, IsWellTypedImplementation, IsWellTypedDecl, IsWellTyped, WellTypedIsExact}
use Rattle.sd_types.proofs.DistinctLemmas.{Fresh, is-distinct, is-fresh, fresh-split, fresh-join, name-fresh, fresh-name, names-fresh, fresh-names, names-append, entry-fresh, fresh-entry, entries-fresh, fresh-entries, among-entries, own-distinct, distinct-own}
use Rattle.sd_types.proofs.TypingLemmas.{ok_is, parts, joined}
use Rattle.sd_types.proofs.DeclaredLemmas.{HaveProcedures, bodies-count}
use Rattle.sd_types.proofs.TypedBodyLemmas.{truth-typed, declared-as, typed_scope}
use Rattle.sd_types.proofs.WellTypedStmtLemmas.{done, passed, each-holds, each-passes, truth-passes, global-named, named-global, statements_exact}

-- ---- scopes after scopes

abbrev plus : Scope → Scope → Scope
plus G K =
    record {
      types = G.types ++ K.types;
      globals = G.globals ++ K.globals;
      functions = G.functions ++ K.functions;
      procedures = G.procedures ++ K.procedures;
      bodies = G.bodies ++ K.bodies;
    }

plus-nothing : (G : Scope) → plus G nothing ≡ G
plus-nothing G i = record {
  types = append-nil G.types i;
  globals = append-nil G.globals i;
  functions = append-nil G.functions i;
  procedures = append-nil G.procedures i;
  bodies = append-nil G.bodies i;
}

plus-plus : (G K H : Scope) → plus (plus G K) H ≡ plus G (plus K H)
plus-plus G K H i = record {
  types = append_assoc G.types K.types H.types i;
  globals = append_assoc G.globals K.globals H.globals i;
  functions = append_assoc G.functions K.functions H.functions i;
  procedures = append_assoc G.procedures K.procedures H.procedures i;
  bodies = append_assoc G.bodies K.bodies H.bodies i;
}

-- what one declaration adds
abbrev one_in : Decl → Scope
one_in (Types names) = record nothing { types = names }
one_in (Const unique names s) = record nothing { globals = constants_of s names }
one_in (Function f args r) = record nothing { functions = (f, record { args = args; result = r }) ∷ [] }
one_in (Axiom e) = nothing
one_in (Globals vars) = record nothing { globals = variables_as nature.Global vars }
one_in (Procedure p) = record nothing { procedures = (p.head.name, callee_of p) ∷ []; bodies = body_named p.head.name p.body }
one_in (Implementation i) = record nothing { bodies = i.head.name ∷ [] }

declared-step : (d : Decl) (ds : List Decl) → declared_in (d ∷ ds) ≡ plus (one_in d) (declared_in ds)
declared-step (Types names) ds = refl
declared-step (Const unique names s) ds = refl
declared-step (Function f args r) ds = refl
declared-step (Axiom e) ds = refl
declared-step (Globals vars) ds = refl
declared-step (Procedure p) ds = refl
declared-step (Implementation i) ds = refl

-- the names of the second are none of the first, and distinct
record AreFresh (G K : Scope) : Type 0 where
  types : Fresh G.types K.types
  globals : Fresh (entry_names G.globals) (entry_names K.globals)
  functions : Fresh (entry_names G.functions) (entry_names K.functions)
  procedures : Fresh (entry_names G.procedures) (entry_names K.procedures)
  bodies : Fresh G.bodies K.bodies

split_entries : {X : Type 0} (es fs gs : List (Text × X)) → Fresh (entry_names es) (entry_names (fs ++ gs)) → Fresh (entry_names es) (entry_names fs) × Fresh (entry_names (es ++ fs)) (entry_names gs)
split_entries es fs gs f =
    let k = fresh-split (entry_names es) (entry_names fs) (entry_names gs) (subst (Fresh (entry_names es)) (names-append fs gs) f) in
    (k.0, subst (λ (l : List Text). Fresh l (entry_names gs)) (sym (names-append es fs)) k.1)

join_entries : {X : Type 0} (es fs gs : List (Text × X)) → Fresh (entry_names es) (entry_names fs) → Fresh (entry_names (es ++ fs)) (entry_names gs) → Fresh (entry_names es) (entry_names (fs ++ gs))
join_entries es fs gs f g =
    subst (Fresh (entry_names es)) (sym (names-append fs gs))
    (fresh-join (entry_names es) (entry_names fs) (entry_names gs) f (subst (λ (l : List Text). Fresh l (entry_names gs)) (names-append es fs) g))

split : (G K H : Scope) → AreFresh G (plus K H) → AreFresh G K × AreFresh (plus G K) H
split G K H f =
    let t = fresh-split G.types K.types H.types f.types in
    let g = split_entries G.globals K.globals H.globals f.globals in
    let u = split_entries G.functions K.functions H.functions f.functions in
    let p = split_entries G.procedures K.procedures H.procedures f.procedures in
    let b = fresh-split G.bodies K.bodies H.bodies f.bodies in (
      record { types = t.0; globals = g.0; functions = u.0; procedures = p.0; bodies = b.0 },
      record { types = t.1; globals = g.1; functions = u.1; procedures = p.1; bodies = b.1 },
    )

join : (G K H : Scope) → AreFresh G K → AreFresh (plus G K) H → AreFresh G (plus K H)
join G K H f g = record {
  types = fresh-join G.types K.types H.types f.types g.types;
  globals = join_entries G.globals K.globals H.globals f.globals g.globals;
  functions = join_entries G.functions K.functions H.functions f.functions g.functions;
  procedures = join_entries G.procedures K.procedures H.procedures f.procedures g.procedures;
  bodies = fresh-join G.bodies K.bodies H.bodies f.bodies g.bodies;
}

-- ---- one declaration

record Adds (G : Scope) (d : Decl) (H : Scope) : Type 0 where
  fresh : AreFresh G (one_in d)
  own : HasOwnNamesOnce d
  is : plus G (one_in d) ≡ H

body-fresh : (bodies : List Text) (f : Text) (b : Option Body) (r : List Text) → with_body bodies f b ≡ Ok r → Fresh bodies (body_named f b) × (bodies ++ body_named f b ≡ r)
body-fresh bodies f None r h = (tt, append-nil bodies ∙ ok_is h)
body-fresh bodies f (Some b) r h = let k = name-fresh bodies f r h in ((k.0, tt), k.1)

fresh-body : (bodies : List Text) (f : Text) (b : Option Body) → Fresh bodies (body_named f b) → with_body bodies f b ≡ Ok (bodies ++ body_named f b)
fresh-body bodies f None h = ap Ok (sym (append-nil bodies))
fresh-body bodies f (Some b) h = fresh-name bodies f h.0

entered : (d : Decl) (G H : Scope) → enter G d ≡ Ok H → Adds G d H
entered (Types names) G H h =
    let k = parts (with_names G.types names) (λ ts. Ok (record G { types = ts })) H h in
    let f = names-fresh G.types names k.0 k.1 in
    record {
      fresh = record { types = f.0; globals = tt; functions = tt; procedures = tt; bodies = tt };
      own = tt;
      is = (λ i. record { types = f.1 i; globals = append-nil G.globals i; functions = append-nil G.functions i; procedures = append-nil G.procedures i; bodies = append-nil G.bodies i }) ∙ ok_is k.2;
    }
entered (Const unique names s) G H h =
    let k = parts (with_entries G.globals (constants_of s names)) (λ es. Ok (record G { globals = es })) H h in
    let f = entries-fresh G.globals (constants_of s names) k.0 k.1 in
    record {
      fresh = record { types = tt; globals = f.0; functions = tt; procedures = tt; bodies = tt };
      own = tt;
      is = (λ i. record { types = append-nil G.types i; globals = f.1 i; functions = append-nil G.functions i; procedures = append-nil G.procedures i; bodies = append-nil G.bodies i }) ∙ ok_is k.2;
    }
entered (Function g args r) G H h =
    let k = parts (with_entry G.functions g (record { args = args; result = r })) (λ es. Ok (record G { functions = es })) H h in
    let f = entry-fresh G.functions g (record { args = args; result = r }) k.0 k.1 in
    record {
      fresh = record { types = tt; globals = tt; functions = (f.0, tt); procedures = tt; bodies = tt };
      own = tt;
      is = (λ i. record { types = append-nil G.types i; globals = append-nil G.globals i; functions = f.1 i; procedures = append-nil G.procedures i; bodies = append-nil G.bodies i }) ∙ ok_is k.2;
    }
entered (Axiom e) G H h = record {
  fresh = record { types = tt; globals = tt; functions = tt; procedures = tt; bodies = tt };
  own = tt;
  is = plus-nothing G ∙ ok_is h;
}
entered (Globals vars) G H h =
    let k = parts (with_entries G.globals (variables_as nature.Global vars)) (λ es. Ok (record G { globals = es })) H h in
    let f = entries-fresh G.globals (variables_as nature.Global vars) k.0 k.1 in
    record {
      fresh = record { types = tt; globals = f.0; functions = tt; procedures = tt; bodies = tt };
      own = tt;
      is = (λ i. record { types = append-nil G.types i; globals = f.1 i; functions = append-nil G.functions i; procedures = append-nil G.procedures i; bodies = append-nil G.bodies i }) ∙ ok_is k.2;
    }
entered (Procedure p) G H h =
    let k = parts (with_entry G.procedures p.head.name (callee_of p)) (λ ps. and_then (with_body G.bodies p.head.name p.body) (λ bs. and_then (own_names p.head (locals_of p.body)) (λ _. Ok (record G { procedures = ps; bodies = bs })))) H h in
    let l = parts (with_body G.bodies p.head.name p.body) (λ bs. and_then (own_names p.head (locals_of p.body)) (λ _. Ok (record G { procedures = k.0; bodies = bs }))) H k.2 in
    let m = parts (own_names p.head (locals_of p.body)) (λ _. Ok (record G { procedures = k.0; bodies = l.0 })) H l.2 in
    let f = entry-fresh G.procedures p.head.name (callee_of p) k.0 k.1 in
    let b = body-fresh G.bodies p.head.name p.body l.0 l.1 in
    record {
      fresh = record { types = tt; globals = tt; functions = tt; procedures = (f.0, tt); bodies = b.0 };
      own = own-distinct p.head (locals_of p.body) m.0 m.1;
      is = (λ i. record { types = append-nil G.types i; globals = append-nil G.globals i; functions = append-nil G.functions i; procedures = f.1 i; bodies = b.1 i }) ∙ ok_is m.2;
    }
entered (Implementation i) G H h =
    let l = parts (with_name G.bodies i.head.name) (λ bs. and_then (own_names i.head i.body.locals) (λ _. Ok (record G { bodies = bs }))) H h in
    let m = parts (own_names i.head i.body.locals) (λ _. Ok (record G { bodies = l.0 })) H l.2 in
    let b = name-fresh G.bodies i.head.name l.0 l.1 in
    record {
      fresh = record { types = tt; globals = tt; functions = tt; procedures = tt; bodies = (b.0, tt) };
      own = own-distinct i.head i.body.locals m.0 m.1;
      is = (λ j. record { types = append-nil G.types j; globals = append-nil G.globals j; functions = append-nil G.functions j; procedures = append-nil G.procedures j; bodies = b.1 j }) ∙ ok_is m.2;
    }

enters : (d : Decl) (G : Scope) → AreFresh G (one_in d) → HasOwnNamesOnce d → enter G d ≡ Ok (plus G (one_in d))
enters (Types names) G f o =
    joined (λ ts. Ok (record G { types = ts })) (fresh-names G.types names f.types)
    (λ i. Ok (record { types = G.types ++ names; globals = sym (append-nil G.globals) i; functions = sym (append-nil G.functions) i; procedures = sym (append-nil G.procedures) i; bodies = sym (append-nil G.bodies) i }))
enters (Const unique names s) G f o =
    joined (λ es. Ok (record G { globals = es })) (fresh-entries G.globals (constants_of s names) f.globals)
    (λ i. Ok (record { types = sym (append-nil G.types) i; globals = G.globals ++ constants_of s names; functions = sym (append-nil G.functions) i; procedures = sym (append-nil G.procedures) i; bodies = sym (append-nil G.bodies) i }))
enters (Function g args r) G f o =
    joined (λ es. Ok (record G { functions = es })) (fresh-entry G.functions g (record { args = args; result = r }) f.functions.0)
    (λ i. Ok (record { types = sym (append-nil G.types) i; globals = sym (append-nil G.globals) i; functions = G.functions ++ (g, record { args = args; result = r }) ∷ []; procedures = sym (append-nil G.procedures) i; bodies = sym (append-nil G.bodies) i }))
enters (Axiom e) G f o = ap Ok (sym (plus-nothing G))
enters (Globals vars) G f o =
    joined (λ es. Ok (record G { globals = es })) (fresh-entries G.globals (variables_as nature.Global vars) f.globals)
    (λ i. Ok (record { types = sym (append-nil G.types) i; globals = G.globals ++ variables_as nature.Global vars; functions = sym (append-nil G.functions) i; procedures = sym (append-nil G.procedures) i; bodies = sym (append-nil G.bodies) i }))
enters (Procedure p) G f o =
    joined (λ ps. and_then (with_body G.bodies p.head.name p.body) (λ bs. and_then (own_names p.head (locals_of p.body)) (λ _. Ok (record G { procedures = ps; bodies = bs })))) (fresh-entry G.procedures p.head.name (callee_of p) f.procedures.0)
    (joined (λ bs. and_then (own_names p.head (locals_of p.body)) (λ _. Ok (record G { procedures = G.procedures ++ (p.head.name, callee_of p) ∷ []; bodies = bs }))) (fresh-body G.bodies p.head.name p.body f.bodies)
    (joined (λ _. Ok (record G { procedures = G.procedures ++ (p.head.name, callee_of p) ∷ []; bodies = G.bodies ++ body_named p.head.name p.body })) (distinct-own p.head (locals_of p.body) o).1
    (λ i. Ok (record { types = sym (append-nil G.types) i; globals = sym (append-nil G.globals) i; functions = sym (append-nil G.functions) i; procedures = G.procedures ++ (p.head.name, callee_of p) ∷ []; bodies = G.bodies ++ body_named p.head.name p.body }))))
enters (Implementation j) G f o =
    joined (λ bs. and_then (own_names j.head j.body.locals) (λ _. Ok (record G { bodies = bs }))) (fresh-name G.bodies j.head.name f.bodies.0)
    (joined (λ _. Ok (record G { bodies = G.bodies ++ j.head.name ∷ [] })) (distinct-own j.head j.body.locals o).1
    (λ i. Ok (record { types = sym (append-nil G.types) i; globals = sym (append-nil G.globals) i; functions = sym (append-nil G.functions) i; procedures = sym (append-nil G.procedures) i; bodies = G.bodies ++ j.head.name ∷ [] })))

-- ---- all declarations

record AddAll (G : Scope) (ds : List Decl) (H : Scope) : Type 0 where
  fresh : AreFresh G (declared_in ds)
  own : AllByRecursion HasOwnNamesOnce ds
  is : plus G (declared_in ds) ≡ H

all-entered : (ds : List Decl) (G H : Scope) → enter_all G ds ≡ Ok H → AddAll G ds H
all-entered [] G H h = record {
  fresh = record { types = tt; globals = tt; functions = tt; procedures = tt; bodies = tt };
  own = tt;
  is = plus-nothing G ∙ ok_is h;
}
all-entered (d ∷ ds) G H h =
    let k = parts (enter G d) (λ K. enter_all K ds) H h in
    let a = entered d G k.0 k.1 in
    let r = all-entered ds k.0 H k.2 in
    let more : AreFresh (plus G (one_in d)) (declared_in ds) = subst (λ (K : Scope). AreFresh K (declared_in ds)) (sym a.is) r.fresh in
    record {
      fresh = subst (AreFresh G) (sym (declared-step d ds)) (join G (one_in d) (declared_in ds) a.fresh more);
      own = (a.own, r.own);
      is = ap (plus G) (declared-step d ds) ∙ sym (plus-plus G (one_in d) (declared_in ds)) ∙ ap (λ (K : Scope). plus K (declared_in ds)) a.is ∙ r.is;
    }

all-enter : (ds : List Decl) (G : Scope) → AreFresh G (declared_in ds) → AllByRecursion HasOwnNamesOnce ds → enter_all G ds ≡ Ok (plus G (declared_in ds))
all-enter [] G f o = ap Ok (sym (plus-nothing G))
all-enter (d ∷ ds) G f o =
    let k = split G (one_in d) (declared_in ds) (subst (AreFresh G) (declared-step d ds) f) in
    joined (λ K. enter_all K ds) (enters d G k.0 o.0)
    (all-enter ds (plus G (one_in d)) k.1 o.1 ∙ ap Ok (plus-plus G (one_in d) (declared_in ds) ∙ ap (plus G) (sym (declared-step d ds))))

once : (ds : List Decl) → AreFresh nothing (declared_in ds) → AllByRecursion HasOwnNamesOnce ds → AreDeclaredOnce ds
once ds f o = record {
  types = is-distinct (types_in ds) f.types;
  globals = is-distinct (entry_names (globals_in ds)) f.globals;
  functions = is-distinct (entry_names (functions_in ds)) f.functions;
  procedures = is-distinct (entry_names (procedures_in ds)) f.procedures;
  bodies = is-distinct (bodies_in ds) f.bodies;
  own = o;
}

all-fresh : (ds : List Decl) → AreDeclaredOnce ds → AreFresh nothing (declared_in ds)
all-fresh ds o = record {
  types = is-fresh (types_in ds) o.types;
  globals = is-fresh (entry_names (globals_in ds)) o.globals;
  functions = is-fresh (entry_names (functions_in ds)) o.functions;
  procedures = is-fresh (entry_names (procedures_in ds)) o.procedures;
  bodies = is-fresh (bodies_in ds) o.bodies;
}

-- ---- types

index-holds : (s : Sort) → index_sort s ≡ Ok tt → IsIndexSort s
index-holds Int h = tt
index-holds Bool h = absurd (cc)
index-holds (Named t) h = tt
index-holds (MapOf i v) h = absurd (cc)

index-passes : (s : Sort) → IsIndexSort s → index_sort s ≡ Ok tt
index-passes Int h = refl
index-passes Bool h = absurd h
index-passes (Named t) h = refl
index-passes (MapOf i v) h = absurd h

known-holds : (types : List Text) (s : Sort) → known_sort types s ≡ Ok tt → IsKnownSort types s
known-holds types Int h = tt
known-holds types Bool h = tt
known-holds types (Named t) h = passed (is_among types t) (Unknown t) h
known-holds types (MapOf i v) h =
    let k = parts (known_sort types i) (λ _. both (known_sort types v) (index_sort i)) tt h in
    let l = parts (known_sort types v) (λ _. index_sort i) tt k.2 in
    (known-holds types i k.1, known-holds types v l.1, index-holds i l.2)

known-passes : (types : List Text) (s : Sort) → IsKnownSort types s → known_sort types s ≡ Ok tt
known-passes types Int h = refl
known-passes types Bool h = refl
known-passes types (Named t) h = rw h refl
known-passes types (MapOf i v) h =
    joined (λ _. both (known_sort types v) (index_sort i)) (known-passes types i h.0) (joined (λ _. index_sort i) (known-passes types v h.1) (index-passes i h.2))

vars-hold : (types : List Text) (vars : List Var) → known_vars types vars ≡ Ok tt → HaveKnownSorts types vars
vars-hold types = each-holds (λ x. known_sort types x.sort) (λ x. IsKnownSort types x.sort) (λ x. known-holds types x.sort)

vars-pass : (types : List Text) (vars : List Var) → HaveKnownSorts types vars → known_vars types vars ≡ Ok tt
vars-pass types = each-passes (λ x. known_sort types x.sort) (λ x. IsKnownSort types x.sort) (λ x. known-passes types x.sort)

-- ---- the parts of a declaration

module _ (G : Scope) where
  head-holds : (h : Head) → head_rule G.types h ≡ Ok tt → HasKnownHead G h
  head-holds h e =
      let k = parts (known_vars G.types h.ins) (λ _. known_vars G.types h.outs) tt e in (vars-hold G.types h.ins k.1, vars-hold G.types h.outs k.2)

  head-passes : (h : Head) → HasKnownHead G h → head_rule G.types h ≡ Ok tt
  head-passes h k = joined (λ _. known_vars G.types h.outs) (vars-pass G.types h.ins k.0) (vars-pass G.types h.outs k.1)

  global-holds : (x : Text) → names_global G.globals x ≡ Ok tt → IsGlobal G x
  global-holds x h = global-named (named G.globals x) (passed (is_global (named G.globals x)) (Unknown x) h)

  global-passes : (x : Text) → IsGlobal G x → names_global G.globals x ≡ Ok tt
  global-passes x h = rw (named-global (named G.globals x) h.0 h.1 h.2) refl

  spec-holds : (locals : List (Text × Variable)) (s : Spec) → spec_rule G locals s ≡ Ok tt → IsWellTypedSpec G locals s
  spec-holds locals (Modifies names) h = each-holds (names_global G.globals) (IsGlobal G) global-holds names h
  spec-holds locals (Requires free e) h = truth-typed (context G locals site.Requires) e tt h
  spec-holds locals (Ensures free e) h = truth-typed (context G locals site.Ensures) e tt h

  spec-passes : (locals : List (Text × Variable)) (s : Spec) → IsWellTypedSpec G locals s → spec_rule G locals s ≡ Ok tt
  spec-passes locals (Modifies names) h = each-passes (names_global G.globals) (IsGlobal G) global-passes names h
  spec-passes locals (Requires free e) h = truth-passes (context G locals site.Requires) e h
  spec-passes locals (Ensures free e) h = truth-passes (context G locals site.Ensures) e h

  body-holds : (h : Head) (modifies : List Text) (b : Body) → body_rule G h modifies b ≡ Ok tt → IsWellTypedBody G h modifies b
  body-holds h modifies b e =
      let k = parts (known_vars G.types b.locals) (λ _. body_stmts_rule G h modifies b) tt e in
      (vars-hold G.types b.locals k.1, (statements_exact (routine G (body_variables h b) modifies) false b.stmts).0 k.2)

  body-passes : (h : Head) (modifies : List Text) (b : Body) → IsWellTypedBody G h modifies b → body_rule G h modifies b ≡ Ok tt
  body-passes h modifies b k =
      joined (λ _. body_stmts_rule G h modifies b) (vars-pass G.types b.locals k.0) ((statements_exact (routine G (body_variables h b) modifies) false b.stmts).1 k.1)

  own-holds : (h : Head) (modifies : List Text) (b : Option Body) → own_body_rule G h modifies b ≡ Ok tt → IsWellTypedOwnBody G h modifies b
  own-holds h modifies None e = tt
  own-holds h modifies (Some b) e = body-holds h modifies b e

  own-passes : (h : Head) (modifies : List Text) (b : Option Body) → IsWellTypedOwnBody G h modifies b → own_body_rule G h modifies b ≡ Ok tt
  own-passes h modifies None k = refl
  own-passes h modifies (Some b) k = body-passes h modifies b k

  procedure-holds : (p : Proc) → procedure_rule G p ≡ Ok tt → IsWellTypedProcedure G p
  procedure-holds p h =
      let k = parts (head_rule G.types p.head) (λ _. both (each (spec_rule G (parameters p.head)) p.specs) (own_body_rule G p.head (modifies_of p.specs) p.body)) tt h in
      let l = parts (each (spec_rule G (parameters p.head)) p.specs) (λ _. own_body_rule G p.head (modifies_of p.specs) p.body) tt k.2 in
      (head-holds p.head k.1, each-holds (spec_rule G (parameters p.head)) (IsWellTypedSpec G (parameters p.head)) (spec-holds (parameters p.head)) p.specs l.1, own-holds p.head (modifies_of p.specs) p.body l.2)

  procedure-passes : (p : Proc) → IsWellTypedProcedure G p → procedure_rule G p ≡ Ok tt
  procedure-passes p h =
      joined (λ _. both (each (spec_rule G (parameters p.head)) p.specs) (own_body_rule G p.head (modifies_of p.specs) p.body)) (head-passes p.head h.0)
      (joined (λ _. own_body_rule G p.head (modifies_of p.specs) p.body) (each-passes (spec_rule G (parameters p.head)) (IsWellTypedSpec G (parameters p.head)) (spec-passes (parameters p.head)) p.specs h.1)
      (own-passes p.head (modifies_of p.specs) p.body h.2))

-- ---- implementations

and-both : (a b : Test) → (a && b) ≡ true → (a ≡ true) × (b ≡ true)
and-both true b h = (refl, h)
and-both false b h = absurd (cc)

sorts-hold : (ss : List Sort) (xs : List Var) → have_sorts ss xs ≡ true → sorts_of_vars xs ≡ ss
sorts-hold [] [] h = refl
sorts-hold [] (x ∷ xs) h = absurd (cc)
sorts-hold (s ∷ ss) [] h = absurd (cc)
sorts-hold (s ∷ ss) (x ∷ xs) h =
    let k = and-both (same_sort s x.sort) (have_sorts ss xs) h in (λ i. sym (same_sort-is s x.sort k.0) i ∷ sorts-hold ss xs k.1 i)

own-sorts : (xs : List Var) → have_sorts (sorts_of_vars xs) xs ≡ true
own-sorts [] = refl
own-sorts (x ∷ xs) = (λ i. same_sort-refl x.sort i && own-sorts xs i)

have-own : (ss : List Sort) (xs : List Var) → sorts_of_vars xs ≡ ss → have_sorts ss xs ≡ true
have-own ss xs e = subst (λ (l : List Sort). have_sorts l xs ≡ true) e (own-sorts xs)

implementation-holds : (G : Scope) (i : Impl) → implementation_rule G i ≡ Ok tt → IsWellTypedImplementation G i
implementation-holds G i h =
    let k = parts (head_rule G.types i.head) (λ _. and_then (declared_as i.head.name (named G.procedures i.head.name)) (λ q. both (same_types i.head q) (body_rule G i.head q.modifies i.body))) tt h in
    let l = parts (declared_as i.head.name (named G.procedures i.head.name)) (λ q. both (same_types i.head q) (body_rule G i.head q.modifies i.body)) tt k.2 in
    let m = parts (same_types i.head l.0) (λ _. body_rule G i.head l.0.modifies i.body) tt l.2 in
    let s = and-both (have_sorts l.0.ins i.head.ins) (have_sorts l.0.outs i.head.outs) (passed (have_sorts l.0.ins i.head.ins && have_sorts l.0.outs i.head.outs) (Kind i.head.at) m.1) in
    (head-holds G i.head k.1, l.0, declared-as i.head.name (named G.procedures i.head.name) l.0 l.1, sorts-hold l.0.ins i.head.ins s.0, sorts-hold l.0.outs i.head.outs s.1, body-holds G i.head l.0.modifies i.body m.2)

implementation-passes : (G : Scope) (i : Impl) → IsWellTypedImplementation G i → implementation_rule G i ≡ Ok tt
implementation-passes G i h =
    let q = h.1 in
    let same : (have_sorts q.ins i.head.ins && have_sorts q.outs i.head.outs) ≡ true = (λ j. have-own q.ins i.head.ins h.3 j && have-own q.outs i.head.outs h.4 j) in
    joined (λ _. and_then (declared_as i.head.name (named G.procedures i.head.name)) (λ q. both (same_types i.head q) (body_rule G i.head q.modifies i.body))) (head-passes G i.head h.0)
    (joined (λ q. both (same_types i.head q) (body_rule G i.head q.modifies i.body)) (ap (declared_as i.head.name) h.2)
    (joined (λ _. body_rule G i.head q.modifies i.body) (ap (λ (b : Test). if b then done else Err (Kind i.head.at)) same) (body-passes G i.head q.modifies i.body h.5)))

-- ---- declarations

decl-holds : (G : Scope) (d : Decl) → decl_rule G d ≡ Ok tt → IsWellTypedDecl G d
decl-holds G (Types names) h = tt
decl-holds G (Const unique names s) h = known-holds G.types s h
decl-holds G (Function f args r) h =
    let k = parts (known_sorts G.types args) (λ _. known_sort G.types r) tt h in
    (each-holds (known_sort G.types) (IsKnownSort G.types) (known-holds G.types) args k.1, known-holds G.types r k.2)
decl-holds G (Axiom e) h = truth-typed (context G [] site.Axiom) e tt h
decl-holds G (Globals vars) h = vars-hold G.types vars h
decl-holds G (Procedure p) h = procedure-holds G p h
decl-holds G (Implementation i) h = implementation-holds G i h

decl-passes : (G : Scope) (d : Decl) → IsWellTypedDecl G d → decl_rule G d ≡ Ok tt
decl-passes G (Types names) h = refl
decl-passes G (Const unique names s) h = known-passes G.types s h
decl-passes G (Function f args r) h =
    joined (λ _. known_sort G.types r) (each-passes (known_sort G.types) (IsKnownSort G.types) (known-passes G.types) args h.0) (known-passes G.types r h.1)
decl-passes G (Axiom e) h = truth-passes (context G [] site.Axiom) e h
decl-passes G (Globals vars) h = vars-pass G.types vars h
decl-passes G (Procedure p) h = procedure-passes G p h
decl-passes G (Implementation i) h = implementation-passes G i h

-- ---- programs

names-declared : (ds : List Decl) → entry_names (procedures_in ds) ≡ procedure_names ds
names-declared [] = refl
names-declared (Types names ∷ ds) = names-declared ds
names-declared (Const unique names s ∷ ds) = names-declared ds
names-declared (Function f args r ∷ ds) = names-declared ds
names-declared (Axiom e ∷ ds) = names-declared ds
names-declared (Globals vars ∷ ds) = names-declared ds
names-declared (Procedure p ∷ ds) = ap (λ (l : List Text). p.head.name ∷ l) (names-declared ds)
names-declared (Implementation i ∷ ds) = names-declared ds

found-among : {X : Type 0} (es : List (Text × X)) (x : Text) (v : X) → named es x ≡ Some v → is_among (entry_names es) x ≡ true
found-among es x v h = sym (among-entries es x) ∙ ap is_some h

have_procedures : (G : Scope) (declared : Text → Test) → ((x : Text) (q : Callee) → named G.procedures x ≡ Some q → declared x ≡ true) → (ds : List Decl) → AllByRecursion (IsWellTypedDecl G) ds → HaveProcedures declared ds
have_procedures G declared h [] a = tt
have_procedures G declared h (Implementation i ∷ ds) a = (h i.head.name a.0.1 a.0.2, have_procedures G declared h ds a.1)
have_procedures G declared h (Types names ∷ ds) a = have_procedures G declared h ds a.1
have_procedures G declared h (Const unique names s ∷ ds) a = have_procedures G declared h ds a.1
have_procedures G declared h (Function f args r ∷ ds) a = have_procedures G declared h ds a.1
have_procedures G declared h (Axiom e ∷ ds) a = have_procedures G declared h ds a.1
have_procedures G declared h (Globals vars ∷ ds) a = have_procedures G declared h ds a.1
have_procedures G declared h (Procedure p ∷ ds) a = have_procedures G declared h ds a.1

well_typed : (P : Program) → WellTyped P → IsWellTyped P
well_typed P w =
    let k = typed_scope P w in
    let a = all-entered P.decls nothing k.0 k.1 in
    record {
      once = once P.decls a.fresh a.own;
      decls = subst (λ (G : Scope). AllByRecursion (IsWellTypedDecl G) P.decls) (sym a.is) (each-holds (decl_rule k.0) (IsWellTypedDecl k.0) (decl-holds k.0) P.decls k.2);
    }

unbroken : (P : Program) → IsWellTyped P → WellTyped P
unbroken P w =
    let ds = P.decls in
    let G = declared_in ds in
    let declared = is_among (procedure_names ds) in
    let there : (x : Text) (q : Callee) → named G.procedures x ≡ Some q → declared x ≡ true = λ x q h. ap (λ (l : List Text). is_among l x) (sym (names-declared ds)) ∙ found-among (procedures_in ds) x q h in
    let enters : scope_of ds ≡ Ok G = bodies-count declared ds nothing (have_procedures G declared there ds w.decls) ∙ all-enter ds nothing (all-fresh ds w.once) w.once.own in
    ap refusal (joined (λ H. each (decl_rule H) ds) enters (each-passes (decl_rule G) (IsWellTypedDecl G) (decl-passes G) ds w.decls))

pub well_typed_exact : WellTypedIsExact
well_typed_exact P = (well_typed P, unbroken P)
