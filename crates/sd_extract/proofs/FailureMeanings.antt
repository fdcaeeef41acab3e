-- The meanings that count for a program are those that count for its core program.
use Rattle.std.proofs.Common.{List, [], ◌∷◌, map, refl, sym, subst}
use Rattle.std.specs.Prelude.{IsTrue}
use Rattle.std.specs.List.{AllByRecursion}
use Rattle.sd_extract.proofs.SourceWords.{Sort, Var, Text, Value, Meaning, interpretation, truth_of, Decl, Const, Function, Axiom, Expr, Program, value, HasSorts, nowhere, uniques_in}
use Rattle.sd_extract.proofs.CoreWords.{is_true, HaveSorts, constants_named, functions_in, axioms_in, core_axiom, core_program, AxiomsAreKept}
use Rattle.sd_base.specs.Sorts.{HasSort}
use Rattle.sd_base.specs.Meaning.{Table}
use Rattle.sd_base.proofs.Lists.{all-append, all-front, all-back, all-weaker}
use Rattle.sd_meaning.specs.Inputs.{HasSignature, IsTrueOf, AreDistinct}
use Rattle.sd_core.specs.Meanings.{FitsTable, Fits, Differ, IsMeaningOf}
use Rattle.sd_extract.proofs.CodeLists.{all_map}

-- ---- lists

out_of_map : {A B : Type 0} (Q : B → Type 0) (f : A → B) (xs : List A) → AllByRecursion Q (map f xs) → AllByRecursion (λ a. Q (f a)) xs
out_of_map Q f [] a = tt
out_of_map Q f (x ∷ xs) a = (a.0, out_of_map Q f xs a.1)

-- ---- values of types

pub have_sorts : (ss : List Sort) (vs : List Value) → HasSorts ss vs → HaveSorts ss vs
have_sorts [] [] h = refl
have_sorts [] (v ∷ vs) h = absurd h
have_sorts (s ∷ ss) [] h = absurd h
have_sorts (s ∷ ss) (v ∷ vs) h = (h.0, have_sorts ss vs h.1)

pub has_sorts : (ss : List Sort) (vs : List Value) → HaveSorts ss vs → HasSorts ss vs
has_sorts [] [] h = tt
has_sorts [] (v ∷ vs) h = absurd (cc)
has_sorts (s ∷ ss) [] h = absurd h
has_sorts (s ∷ ss) (v ∷ vs) h = (h.0, has_sorts ss vs h.1)

fits_table : (args : List Sort) (result : Sort) (t : Table) → HasSignature args result t → FitsTable args result t
fits_table args result t h =
    (h.0, all-weaker (λ row. HasSorts args row.0 × HasSort result row.1) (λ row. HaveSorts args row.0 × HasSort result row.1) (λ row k. (have_sorts args row.0 k.0, k.1)) t.rows h.1)

has_signature : (args : List Sort) (result : Sort) (t : Table) → FitsTable args result t → HasSignature args result t
has_signature args result t h =
    (h.0, all-weaker (λ row. HaveSorts args row.0 × HasSort result row.1) (λ row. HasSorts args row.0 × HasSort result row.1) (λ row k. (has_sorts args row.0 k.0, k.1)) t.rows h.1)

-- ---- functions, constants and axioms

module _ (P : Program) (M : Meaning) where
  constants_fit : (names : List Text) (sort : Sort) → AllByRecursion (λ c. HasSort sort (M.constant c)) names → AllByRecursion (Fits M) (constants_named names sort)
  constants_fit [] sort h = tt
  constants_fit (c ∷ names) sort h = (h.0, constants_fit names sort h.1)

  constants_have : (names : List Text) (sort : Sort) → AllByRecursion (Fits M) (constants_named names sort) → AllByRecursion (λ c. HasSort sort (M.constant c)) names
  constants_have [] sort h = tt
  constants_have (c ∷ names) sort h = (h.0, constants_have names sort h.1)

  functions_fit : (ds : List Decl) → AllByRecursion (IsTrueOf P M) ds → AllByRecursion (Fits M) (functions_in ds)
  functions_fit [] h = tt
  functions_fit (Function f args result ∷ ds) h = (fits_table args result (M.function f) h.0, functions_fit ds h.1)
  functions_fit (Const unique names sort ∷ ds) h = all-append (Fits M) (constants_named names sort) (functions_in ds) (constants_fit names sort h.0) (functions_fit ds h.1)
  functions_fit (_ ∷ ds) h = functions_fit ds h.1

  abbrev HoldsHere : Expr → Type 0
  HoldsHere e = IsTrue (truth_of (value (interpretation M) nowhere e.kind))

  axioms_hold : (ds : List Decl) → AllByRecursion (IsTrueOf P M) ds → AllByRecursion HoldsHere (axioms_in ds)
  axioms_hold [] h = tt
  axioms_hold (Axiom e ∷ ds) h = (h.0, axioms_hold ds h.1)
  axioms_hold (_ ∷ ds) h = axioms_hold ds h.1

  all_true : (ds : List Decl) → AllByRecursion (Fits M) (functions_in ds) → AllByRecursion HoldsHere (axioms_in ds) → AllByRecursion (IsTrueOf P M) ds
  all_true [] h k = tt
  all_true (Function f args result ∷ ds) h k = (has_signature args result (M.function f) h.0, all_true ds h.1 k)
  all_true (Const unique names sort ∷ ds) h k =
      (constants_have names sort (all-front (Fits M) (constants_named names sort) (functions_in ds) h), all_true ds (all-back (Fits M) (constants_named names sort) (functions_in ds) h) k)
  all_true (Axiom e ∷ ds) h k = (k.0, all_true ds h k.1)
  all_true (_ ∷ ds) h k = (tt, all_true ds h k)

  -- ---- unique constants

  distinct_differ : (cs : List Var) → AreDistinct M cs → Differ M cs
  distinct_differ [] h = tt
  distinct_differ (c ∷ cs) h = (h.0, distinct_differ cs h.1)

  differ_distinct : (cs : List Var) → Differ M cs → AreDistinct M cs
  differ_distinct [] h = tt
  differ_distinct (c ∷ cs) h = (h.0, differ_distinct cs h.1)

  -- ---- a program

  module _ (kept : AxiomsAreKept) where
    core_axioms_hold : AllByRecursion HoldsHere (axioms_in P.decls) → AllByRecursion (λ e. IsTrue (is_true (interpretation M) e)) (map core_axiom (axioms_in P.decls))
    core_axioms_hold h =
        out_of_map IsTrue (is_true (interpretation M)) (map core_axiom (axioms_in P.decls))
        (subst (AllByRecursion IsTrue) (sym (kept P M)) (all_map HoldsHere IsTrue (λ e. truth_of (value (interpretation M) nowhere e.kind)) (λ e k. k) (axioms_in P.decls) h))

    axioms_hold_here : AllByRecursion (λ e. IsTrue (is_true (interpretation M) e)) (map core_axiom (axioms_in P.decls)) → AllByRecursion HoldsHere (axioms_in P.decls)
    axioms_hold_here h =
        out_of_map IsTrue (λ e. truth_of (value (interpretation M) nowhere e.kind)) (axioms_in P.decls)
        (subst (AllByRecursion IsTrue) (kept P M) (all_map (λ e. IsTrue (is_true (interpretation M) e)) IsTrue (is_true (interpretation M)) (λ e k. k) (map core_axiom (axioms_in P.decls)) h))

    pub core_meaning : ((s : Sort) → HasSort s (M.start s)) → AllByRecursion (IsTrueOf P M) P.decls → AreDistinct M (uniques_in P.decls) → IsMeaningOf (core_program P) M
    core_meaning starts h u = record {
      starts = starts;
      functions = functions_fit P.decls h;
      axioms = core_axioms_hold (axioms_hold P.decls h);
      uniques = distinct_differ (uniques_in P.decls) u;
    }

    pub decls_true : IsMeaningOf (core_program P) M → AllByRecursion (IsTrueOf P M) P.decls
    decls_true w = all_true P.decls w.functions (axioms_hold_here w.axioms)

    pub uniques_distinct : IsMeaningOf (core_program P) M → AreDistinct M (uniques_in P.decls)
    uniques_distinct w = differ_distinct (uniques_in P.decls) w.uniques
