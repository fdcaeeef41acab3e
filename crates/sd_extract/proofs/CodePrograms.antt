-- The core procedures of a program as code sees them.
use Rattle.std.proofs.Common.{◌≡◌, ◌∙◌, sym, ap, ℕ, suc, ◌+◌, ◌<◌, List, [], ◌∷◌, ◌++◌, append_assoc, length, drop, get_or, map, arith}
use Rattle.std.specs.Prelude.{Some, None}
use Rattle.std.specs.List.{filter_map}
use Rattle.sd_extract.proofs.SourceWords.{Text, Spec, Decl, Procedure, Proc, Program, Var, globals_in, uniques_in, kinds_of, Routine, routine_named}
use Rattle.sd_extract.proofs.CoreWords.{CoreProc, Source, index_in, var_in, modified_names, number_from, size_of, counts_each, source_of, procs_of, routine_procs, procs_from, CoreExpr, Function, CoreProgram, functions_in, axioms_in, core_axiom, core_program}
use Rattle.sd_base.proofs.Lists.{drop-at}

-- a procedure without a body
pub procs_none : (P : Program) (p : Proc) (n : ℕ) (ds : List Decl) (out : List CoreProc) → routine_named P p.head.name ≡ None → out ++ procs_from P n ds ≡ out ++ procs_from P n (Procedure p ∷ ds)
procs_none P p n ds out is =
    let same : n + 0 ≡ n = omega arith in
    ap (λ (ps : List CoreProc). out ++ ps) (sym (ap (λ o. routine_procs P n o ++ procs_from P (n + size_of o) ds) is ∙ ap (λ k. procs_from P k ds) same))

-- a procedure with one
pub procs_some : (P : Program) (p : Proc) (r : Routine) (n next : ℕ) (ds : List Decl) (vars : List Var) (out out' : List CoreProc) → routine_named P p.head.name ≡ Some r → vars ≡ globals_in P.decls
    → out' ≡ out ++ procs_of P (number_from P 0 P.decls) (source_of vars n r) → next ≡ n + suc (counts_each (kinds_of r.body.stmts)).loops → out' ++ procs_from P next ds ≡ out ++ procs_from P n (Procedure p ∷ ds)
procs_some P p r n next ds vars out out' is same made sum =
    (λ i. made i ++ procs_from P (sum i) ds)
    ∙ ((λ i. (out ++ procs_of P (number_from P 0 P.decls) (source_of (same i) n r)) ++ procs_from P (n + size_of (Some r)) ds)
    ∙ (append_assoc out (routine_procs P n (Some r)) (procs_from P (n + size_of (Some r)) ds)
    ∙ ap (λ (ps : List CoreProc). out ++ ps) (sym (ap (λ o. routine_procs P n o ++ procs_from P (n + size_of o) ds) is))))

pub decls_next : (P : Program) (ds : List Decl) (i : ℕ) (d : Decl) (n next : ℕ) (out out' whole : List CoreProc) → i < length ds → d ≡ get_or ds i d
    → ((es : List Decl) → out' ++ procs_from P next es ≡ out ++ procs_from P n (d ∷ es)) → out ++ procs_from P n (drop i ds) ≡ whole → out' ++ procs_from P next (drop (i + 1) ds) ≡ whole
decls_next P ds i d n next out out' whole lt at made so =
    made (drop (i + 1) ds) ∙ (sym (ap (λ (es : List Decl). out ++ procs_from P n es) (drop-at ds i d lt at)) ∙ so)

pub program_made : (P Q : Program) (ds : List Decl) (procs : List CoreProc) (globals : List Var) (functions : List Function) (axioms : List CoreExpr) (uniques : List Var) → Q.decls ≡ P.decls → ds ≡ P.decls → procs ≡ procs_from Q 0 Q.decls
    → globals ≡ globals_in ds → functions ≡ functions_in ds → axioms ≡ map core_axiom (axioms_in ds) → uniques ≡ uniques_in ds
    → ◌≡◌ {A = CoreProgram} (record { procs = procs; globals = globals; functions = functions; axioms = axioms; uniques = uniques }) (core_program P)
program_made P Q ds procs globals functions axioms uniques same is made vars funs truths constants =
    let q : Q ≡ P = λ i. record { decls = same i } in
    λ i. record {
      procs = (made ∙ (λ j. procs_from (q j) 0 (same j))) i;
      globals = (vars ∙ ap globals_in is) i;
      functions = (funs ∙ ap functions_in is) i;
      axioms = (truths ∙ ap (λ (es : List Decl). map core_axiom (axioms_in es)) is) i;
      uniques = (constants ∙ ap uniques_in is) i;
    }

pub source_made : (vars : List Var) (n : ℕ) (r : Routine) (specs : List Spec) (names xs ys : List Text) (modifies : List ℕ) (copied : List Var) → specs ≡ r.declared.specs → names ≡ modified_names specs [] → xs ≡ names → ys ≡ names
    → modifies ≡ filter_map (index_in vars) xs → copied ≡ filter_map (var_in vars) ys
    → ◌≡◌ {A = Source} (record { routine = r; number = n; globals = vars; modifies = modifies; copied = copied }) (source_of vars n r)
source_made vars n r specs names xs ys modifies copied same listed left right mods copies =
    let all = listed ∙ ap (λ (l : List Spec). modified_names l []) same in
    λ i. record {
      routine = r;
      number = n;
      globals = vars;
      modifies = (mods ∙ ap (filter_map (index_in vars)) (left ∙ all)) i;
      copied = (copies ∙ ap (filter_map (var_in vars)) (right ∙ all)) i;
    }
