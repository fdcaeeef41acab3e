-- The core program of a well-typed program is well formed.
use Rattle.std.proofs.Common.{◌≡◌, ℕ, suc, ◌+◌, List, [], ◌∷◌, ◌++◌, map, Option, Some, None, Ok, refl, sym, ◌∙◌, ap, subst, ⊎_elim, arith}
use Rattle.std.specs.Prelude.{Bool, true, false, cond, slice_get}
use Rattle.std.specs.Option.{is_none}
use Rattle.std.specs.List.{AllByRecursion, IsDistinct, filter}
use Rattle.std.specs.Cmp.Lexicographic.{bytes_decides}
use Rattle.std.proofs.lemmas.List.{map-append}
use Rattle.std.proofs.lemmas.Option.{none-some}
use Rattle.std.proofs.lemmas.List.Elements.{filter-append}
use Rattle.sd_extract.proofs.SourceWords.{Sort, BoolSort, Var, Text, same_text, Decl, Const, Function, Axiom, Globals, Procedure, Program, Routine, routine_named, globals_in, uniques_in, Variable, Signature, Nature, Scope, named, context, may_name, known_sort, variables_as, constants_of, known_sorts, decl_rule}
use Rattle.sd_extract.proofs.CoreWords.{CoreFunction, CoreProc, CoreProgram, sorts_of, names_of, IsSort, IsProc, HasCoreType, place_of, at_place, kinds, source_of, size_of, number_from, routine_procs, procs_from, constants_named, functions_in, axioms_in, no_names, core_axiom, core_program, ExtractedIsFormed}
use Rattle.sd_base.proofs.Lists.{all-append, all-back}
use Rattle.sd_base.proofs.Texts.{same_text-refl}
use Rattle.sd_meaning.specs.Inputs.{constants_of_sort}
use Rattle.sd_types.specs.declared.scope.Nature.TheVariants as nature
use Rattle.sd_types.specs.declared.scope.Site.TheVariants as site
use Rattle.sd_types.proofs.TypingLemmas.{parts}
use Rattle.sd_core.specs.Formed.{no_state, functions_as, roots, IsConstant, IsSignature, WellFormed}
use Rattle.sd_extract.proofs.Searches.{none_later, same_front}
use Rattle.sd_extract.proofs.FormedExpressions.{Sees, core_typed}
use Rattle.sd_extract.proofs.FormedTables.{none_append, once_append, keys, OnceEach, entries_distinct, global_entries, function_entries, procedure_entries}
use Rattle.sd_extract.proofs.FormedLookups.{function_found, constant_found, globals_as, no_global, variables_prefix, is_outer}
use Rattle.sd_extract.proofs.FormedPlaces.{IsScope, named_has, if_named-some, variable_sort, outer_named}
use Rattle.sd_extract.proofs.FormedDeclarations.{known_fit, sorts_fit, vars_fit, IsTyped, is_typed, is_scope, procedures_once, truth_typed, routine_fine}
use Rattle.sd_extract.proofs.FormedNumbers.{each_at, all_procs}
use Rattle.sd_extract.proofs.FormedProcedures.{routine_procs_formed}
use Rattle.sd_extract.proofs.Parts.{each_loop_has}

-- ---- names stand once

absent_keys : {X : Type 0} (es : List (Text × X)) (x : Text) → named es x ≡ None → AllByRecursion (λ y. same_text x y ≡ false) (keys es)
absent_keys [] x h = tt
absent_keys (e ∷ es) x h = let n = none_later (same_text x e.0) _ _ h in (n.0, absent_keys es x n.1)

once_distinct : {X : Type 0} (es : List (Text × X)) → OnceEach es → IsDistinct same_text (keys es)
unfolding IsDistinct
once_distinct [] h = tt
once_distinct (e ∷ es) h = (absent_keys es e.0 h.0, once_distinct es h.1)

once_variables : (n : Nature) (vs ws : List Var) (es : List (Text × Variable)) → OnceEach (variables_as n vs ++ es) → ((x : Text) → named es x ≡ None → named (variables_as n ws) x ≡ None) → (OnceEach es → OnceEach (variables_as n ws)) → OnceEach (variables_as n (vs ++ ws))
once_variables n [] ws es h absent rest = rest h
once_variables n (y ∷ vs) ws es h absent rest =
    (variables_prefix n vs ws es y.name None h.0 (absent y.name), once_variables n vs ws es h.1 absent rest)

globals_once : (ds : List Decl) → OnceEach (global_entries ds) → OnceEach (globals_as ds)
globals_once [] h = tt
globals_once (Const u xs s ∷ ds) h = globals_once ds (once_append (constants_of s xs) (global_entries ds) h)
globals_once (Globals vs ∷ ds) h = once_variables nature.Global vs (globals_in ds) (global_entries ds) h (no_global ds) (globals_once ds)
globals_once (_ ∷ ds) h = globals_once ds h

global_keys : (vs : List Var) → keys (variables_as nature.Global vs) ≡ names_of vs
global_keys [] = refl
global_keys (v ∷ vs) = ap (λ (l : List Text). v.name ∷ l) (global_keys vs)

-- ---- functions and constants

no_functions : (s : Sort) (names : List Text) (gs : List CoreFunction) → functions_as false (constants_named names s ++ gs) ≡ functions_as false gs
no_functions s [] gs = refl
no_functions s (c ∷ names) gs = no_functions s names gs

function_keys : (ds : List Decl) → functions_as false (functions_in ds) ≡ keys (function_entries ds)
function_keys [] = refl
function_keys (Const u xs s ∷ ds) = no_functions s xs (functions_in ds) ∙ function_keys ds
function_keys (Function g args r ∷ ds) = ap (λ (l : List Text). g ∷ l) (function_keys ds)
function_keys (_ ∷ ds) = function_keys ds

-- the constants alone
abbrev constants_in : List Decl → List (Text × Variable)
constants_in [] = []
constants_in (Const unique names s ∷ ds) = constants_of s names ++ constants_in ds
constants_in (_ ∷ ds) = constants_in ds

constant_names : (s : Sort) (names : List Text) (gs : List CoreFunction) (es : List (Text × Variable)) → functions_as true gs ≡ keys es → functions_as true (constants_named names s ++ gs) ≡ keys (constants_of s names ++ es)
constant_names s [] gs es h = h
constant_names s (c ∷ names) gs es h = ap (λ (l : List Text). c ∷ l) (constant_names s names gs es h)

constant_keys : (ds : List Decl) → functions_as true (functions_in ds) ≡ keys (constants_in ds)
constant_keys [] = refl
constant_keys (Const u xs s ∷ ds) = constant_names s xs (functions_in ds) (constants_in ds) (constant_keys ds)
constant_keys (_ ∷ ds) = constant_keys ds

same_front_table : {X : Type 0} (ds es fs : List (Text × X)) (x : Text) (o : Option X) → named (ds ++ es) x ≡ o → (named es x ≡ o → named fs x ≡ o) → named (ds ++ fs) x ≡ o
same_front_table [] es fs x o h more = more h
same_front_table (d ∷ ds) es fs x o h more = same_front (same_text x d.0) _ _ _ _ h (λ k. same_front_table ds es fs x o k more)

no_constant : (ds : List Decl) (x : Text) → named (global_entries ds) x ≡ None → named (constants_in ds) x ≡ None
no_constant [] x h = h
no_constant (Const u xs s ∷ ds) x h = same_front_table (constants_of s xs) (global_entries ds) (constants_in ds) x None h (no_constant ds x)
no_constant (Globals vs ∷ ds) x h = no_constant ds x (none_append (variables_as nature.Global vs) (global_entries ds) x h).1
no_constant (_ ∷ ds) x h = no_constant ds x h

once_constants : (s : Sort) (names : List Text) (es fs : List (Text × Variable)) → OnceEach (constants_of s names ++ es) → ((x : Text) → named es x ≡ None → named fs x ≡ None) → (OnceEach es → OnceEach fs) → OnceEach (constants_of s names ++ fs)
once_constants s [] es fs h absent rest = rest h
once_constants s (c ∷ names) es fs h absent rest =
    (same_front_table (constants_of s names) es fs c None h.0 (absent c), once_constants s names es fs h.1 absent rest)

constants_once : (ds : List Decl) → OnceEach (global_entries ds) → OnceEach (constants_in ds)
constants_once [] h = tt
constants_once (Const u xs s ∷ ds) h = once_constants s xs (global_entries ds) (constants_in ds) h (no_constant ds) (constants_once ds)
constants_once (Globals vs ∷ ds) h = constants_once ds (once_append (variables_as nature.Global vs) (global_entries ds) h)
constants_once (_ ∷ ds) h = constants_once ds h

-- ---- types

global_sorts : (G : Scope) (ds : List Decl) → AllByRecursion (λ d. decl_rule G d ≡ Ok tt) ds → AllByRecursion IsSort (sorts_of (globals_in ds))
global_sorts G [] h = tt
global_sorts G (Globals vs ∷ ds) h =
    subst (AllByRecursion IsSort) (sym (map-append (λ v. v.sort) vs (globals_in ds))) (all-append IsSort (sorts_of vs) (sorts_of (globals_in ds)) (vars_fit G.types vs tt h.0) (global_sorts G ds h.1))
global_sorts G (_ ∷ ds) h = global_sorts G ds h.1

constant_signatures : (s : Sort) (names : List Text) (gs : List CoreFunction) → IsSort s → AllByRecursion IsSignature gs → AllByRecursion IsSignature (constants_named names s ++ gs)
constant_signatures s [] gs h k = k
constant_signatures s (c ∷ names) gs h k = ((tt, h), constant_signatures s names gs h k)

signatures : (G : Scope) (ds : List Decl) → AllByRecursion (λ d. decl_rule G d ≡ Ok tt) ds → AllByRecursion IsSignature (functions_in ds)
signatures G [] h = tt
signatures G (Const u xs s ∷ ds) h = constant_signatures s xs (functions_in ds) (known_fit G.types s tt h.0) (signatures G ds h.1)
signatures G (Function g args r ∷ ds) h =
    let k = parts (known_sorts G.types args) (λ _. known_sort G.types r) tt h.0 in
    ((sorts_fit G.types args k.0 k.1, known_fit G.types r tt k.2), signatures G ds h.1)
signatures G (_ ∷ ds) h = signatures G ds h.1

-- ---- unique constants

-- each entry is found by its name
entries_found : {X : Type 0} (es : List (Text × X)) → OnceEach es → AllByRecursion (λ e. named es e.0 ≡ Some e.1) es
entries_found [] h = tt
entries_found {X} (e ∷ es) h =
    (ap (λ (b : Bool). cond b (Some e.1) (named es e.0)) (same_text-refl e.0), later es (entries_found es h.1))
  where
    other : (d : Text × X) → named es d.0 ≡ Some d.1 → (b : Bool) → same_text d.0 e.0 ≡ b → cond b (Some e.1) (named es d.0) ≡ Some d.1
    other d k true t =
        let absent : named es d.0 ≡ None = subst (λ (y : Text). named es y ≡ None) (sym ((bytes_decides d.0 e.0).0 t)) h.0 in
        absurd (none-some d.1 (sym absent ∙ k))
    other d k false t = k

    later : (fs : List (Text × X)) → AllByRecursion (λ d. named es d.0 ≡ Some d.1) fs → AllByRecursion (λ d. named (e ∷ es) d.0 ≡ Some d.1) fs
    later [] k = tt
    later (d ∷ fs) k = (other d k.0 (same_text d.0 e.0) refl, later fs k.1)

module _ (all : List Decl) where
  abbrev Found : (Text × Variable) → Type 0
  Found e = named (global_entries all) e.0 ≡ Some e.1

  uniques_prefix : (s : Sort) (names : List Text) (es : List (Text × Variable)) (us : List Var) → AllByRecursion Found (constants_of s names ++ es) → AllByRecursion (IsConstant (functions_in all)) us → AllByRecursion (IsConstant (functions_in all)) (constants_of_sort names s ++ us)
  uniques_prefix s [] es us h k = k
  uniques_prefix s (c ∷ names) es us h k =
      let f = constant_found all c (record { sort = s; nature = nature.Constant }) h.0 refl in
      ((f.function, f.found, f.result), uniques_prefix s names es us h.1 k)

  uniques_are : (ds : List Decl) → AllByRecursion Found (global_entries ds) → AllByRecursion (IsConstant (functions_in all)) (uniques_in ds)
  uniques_are [] h = tt
  uniques_are (Const true xs s ∷ ds) h =
      uniques_prefix s xs (global_entries ds) (uniques_in ds) h (uniques_are ds (all-back Found (constants_of s xs) (global_entries ds) h))
  uniques_are (Const false xs s ∷ ds) h = uniques_are ds (all-back Found (constants_of s xs) (global_entries ds) h)
  uniques_are (Globals vs ∷ ds) h = uniques_are ds (all-back Found (variables_as nature.Global vs) (global_entries ds) h)
  uniques_are (_ ∷ ds) h = uniques_are ds h

-- ---- axioms and procedures

module _ (P : Program) (G : Scope) (typed : IsTyped P G) where
  abbrev K : CoreProgram
  K = core_program P

  abbrev scope : IsScope P G
  scope = is_scope P G typed

  -- an axiom sees constants alone
  axiom_reads : (x : Text) (v : Variable) → (context G [] site.Axiom).variable x ≡ Some v → HasCoreType K.functions no_state (at_place (place_of no_names x) x) v.sort
  axiom_reads x v h =
      let k = if_named-some site.Axiom (named G.globals x) v h in
      let e = outer_named P G scope x v k.0 in
      ⊎_elim
      (λ (g : v.nature ≡ nature.Global). let m : may_name site.Axiom nature.Global ≡ true = subst (λ (n : Nature). may_name site.Axiom n ≡ true) g k.1 in absurd (cc))
      (λ (c : v.nature ≡ nature.Constant). let f = constant_found P.decls x v e c in (f.function, f.found, f.result))
      (is_outer P.decls x v e)

  axiom_sees : Sees K.functions no_state (context G [] site.Axiom) no_names
  axiom_sees = record {
    variables = axiom_reads;
    entry = λ e. absurd (cc);
    sorts = variable_sort P G scope site.Axiom [] tt;
    functions = λ f sig h. let e : named (function_entries P.decls) f ≡ Some sig = ap (λ (l : List (Text × Signature)). named l f) scope.functions ∙ h in
        let k = function_found P.decls f sig e in
        (k.function, k.found, k.args, k.result, named_has (λ (u : Signature). IsSort u.result) (function_entries P.decls) f sig scope.function_sorts e);
  }

  axioms_typed : (ds : List Decl) → AllByRecursion (λ d. decl_rule G d ≡ Ok tt) ds → AllByRecursion (λ e. HasCoreType K.functions no_state e BoolSort) (map core_axiom (axioms_in ds))
  axioms_typed [] h = tt
  axioms_typed (Axiom e ∷ ds) h =
      (core_typed K.functions no_state (context G [] site.Axiom) no_names axiom_sees e.kind BoolSort (truth_typed (context G [] site.Axiom) e tt h.0), axioms_typed ds h.1)
  axioms_typed (_ ∷ ds) h = axioms_typed ds h.1

  pub procs_formed : (n : ℕ) (p : CoreProc) → slice_get K.procs n ≡ Some p → IsProc K n p
  procs_formed n p e =
      let each = all_procs P (IsProc K) (λ f r is. routine_procs_formed P G typed (global_sorts G P.decls typed.rules) f r is) P.decls 0 (procedures_once P G typed) (λ f d h. refl) in
      let f : 0 + n ≡ n = omega arith in
      subst (λ (m : ℕ). IsProc K m p) f (each_at (IsProc K) 0 K.procs n p each e)

  -- ---- names of procedures

  none_kept : {A : Type 0} (test : A → Bool) (xs : List A) → AllByRecursion (λ x. test x ≡ false) xs → filter test xs ≡ []
  none_kept test [] h = refl
  none_kept test (x ∷ xs) h = rw h.0 (none_kept test xs h.1)

  abbrev name_if : Option Routine → List Text
  name_if None = []
  name_if (Some r) = r.head.name ∷ []

  abbrev root_names : List Decl → List Text
  root_names [] = []
  root_names (Procedure p ∷ ds) = name_if (routine_named P p.head.name) ++ root_names ds
  root_names (_ ∷ ds) = root_names ds

  abbrev names : List CoreProc → List Text
  names ps = map (λ p. p.name) ps

  routine_roots : (n : ℕ) (o : Option Routine) → names (roots (routine_procs P n o)) ≡ name_if o
  routine_roots n None = refl
  routine_roots n (Some r) =
      let S = source_of (globals_in P.decls) n r in
      ap (λ (ps : List CoreProc). r.head.name ∷ names ps) (none_kept (λ p. is_none p.parent) _ (each_loop_has P (number_from P 0 P.decls) S (λ p. is_none p.parent ≡ false) (λ k guard invs returns turn. refl) (suc S.number) (kinds S)))

  all_root_names : (ds : List Decl) (n : ℕ) → names (roots (procs_from P n ds)) ≡ root_names ds
  all_root_names [] n = refl
  all_root_names (Procedure p ∷ ds) n =
      let o = routine_named P p.head.name in
      let mine = routine_procs P n o in
      let rest = procs_from P (n + size_of o) ds in
      ap names (filter-append (λ p. is_none p.parent) mine rest) ∙ map-append (λ p. p.name) (roots mine) (roots rest) ∙ (λ i. routine_roots n o i ++ all_root_names ds (n + size_of o) i)
  all_root_names (_ ∷ ds) n = all_root_names ds n

  absent_names : (ds : List Decl) (x : Text) → named (procedure_entries ds) x ≡ None → AllByRecursion (λ y. same_text x y ≡ false) (root_names ds)
  absent_names [] x h = tt
  absent_names (Procedure p ∷ ds) x h =
      let n = none_later (same_text x p.head.name) _ _ h in
      all-append (λ y. same_text x y ≡ false) (name_if (routine_named P p.head.name)) (root_names ds) (mine n.0 (routine_named P p.head.name) refl) (absent_names ds x n.1)
    where
      mine : same_text x p.head.name ≡ false → (o : Option Routine) → routine_named P p.head.name ≡ o → AllByRecursion (λ y. same_text x y ≡ false) (name_if o)
      mine t None e = tt
      mine t (Some r) e = (ap (same_text x) (sym (routine_fine P G typed p.head.name r e).name) ∙ t, tt)
  absent_names (_ ∷ ds) x h = absent_names ds x h

  names_once : (ds : List Decl) → OnceEach (procedure_entries ds) → IsDistinct same_text (root_names ds)
  unfolding IsDistinct
  names_once [] h = tt
  names_once (Procedure p ∷ ds) h = go (routine_named P p.head.name) refl (names_once ds h.1)
    where
      go : (o : Option Routine) → routine_named P p.head.name ≡ o → IsDistinct same_text (root_names ds) → IsDistinct same_text (name_if o ++ root_names ds)
      go None e k = k
      go (Some r) e k =
          (absent_names ds r.head.name (subst (λ (x : Text). named (procedure_entries ds) x ≡ None) (routine_fine P G typed p.head.name r e).name h.0), k)
  names_once (_ ∷ ds) h = names_once ds h

  pub program_formed : WellFormed K
  program_formed = record {
    global_names = subst (IsDistinct same_text) (global_keys (globals_in P.decls)) (once_distinct (globals_as P.decls) (globals_once P.decls scope.once));
    global_sorts = global_sorts G P.decls typed.rules;
    function_names = subst (IsDistinct same_text) (sym (function_keys P.decls)) (entries_distinct (function_entries P.decls) [] G.functions typed.entered.functions);
    constant_names = subst (IsDistinct same_text) (sym (constant_keys P.decls)) (once_distinct (constants_in P.decls) (constants_once P.decls scope.once));
    signatures = signatures G P.decls typed.rules;
    uniques = uniques_are P.decls P.decls (entries_found (global_entries P.decls) scope.once);
    axioms = axioms_typed P.decls typed.rules;
    proc_names = subst (IsDistinct same_text) (sym (all_root_names P.decls 0)) (names_once P.decls (procedures_once P G typed));
    procs = procs_formed;
  }

pub extracted_formed : ExtractedIsFormed
extracted_formed P w = let t = is_typed P w in program_formed P t.0 t.1
