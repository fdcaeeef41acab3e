-- the facts of queries are truth-valued
use Rattle.std.proofs.Common.{◌≡◌, ℕ, suc, ◌+◌, List, [], ◌∷◌, ◌++◌, length, ap, refl}
use Rattle.std.specs.Prelude.{Bool, true, false, ◌&&◌, Option, Some, None, map, slice_get, if◌then◌else◌}
use Rattle.std.specs.List.{AllByRecursion}
use Rattle.sd_base.specs.declared.sort.Sort.{Bool as BoolSort}
use Rattle.sd_base.specs.declared.Var.{Var}
use Rattle.sd_core.specs.declared.CoreExpr.{CoreExpr}
use Rattle.sd_core.specs.declared.CoreProc.{CoreProc}
use Rattle.sd_core.specs.declared.Function.{Function}
use Rattle.sd_core.specs.Store.{Store, read}
use Rattle.sd_core.specs.Formed.{WellFormed, HasType, no_state, same_sort, sorts_of}
use Rattle.sd_term.specs.declared.build.Kind.{Kind}
use Rattle.sd_term.specs.declared.build.Kind.TheVariants as kind
use Rattle.sd_term.specs.Tree.{Tree}
use Rattle.sd_term.specs.Sorts.{is_truth_sort, is_truth_valued, sort_of}
use Rattle.sd_term.specs.Build.{not_of, or_of, eq_of, relation_of}
use Rattle.sd_term.proofs.BuildSorts.{not-sort, or-sort}
use Rattle.sd_match.specs.declared.pair.SpotPair.{SpotPair}
use Rattle.sd_cand.specs.declared.candidate.Relation.{Relation}
use Rattle.sd_vcgen.specs.Body.{Site, Context, nothing, symbols, term_in, count_all, body_of}
use Rattle.sd_vcgen.proofs.Typed.{term-sort}
use Rattle.sd_vcgen.proofs.Sorted.{bodies-are-sorted}
use Rattle.sd_vcgen.proofs.Symbols.{symbols-sort}
use Rattle.sd_product.specs.Relations.{term_at, term_of, claim_term}
use Rattle.sd_product.specs.Query.{Claimed, Work, Infallibles, old_context, new_context, is_live, input_count, Side, side_from, first_call, old_side, new_side, under, site_inputs, site_ends, implication, is_about, calls_related, with_each, all_related, no_terms, axioms_of, constant_term, occurs, apart_from, apart, conditions_of, claim_of, premises_of, facts_of, query_by, query_of}
use Rattle.sd_product.specs.Work.{claims_in, work_of, infallibles_in}
use Rattle.sd_product.specs.TruthQueries.{AreTruths, QueriesAreTruths}

truth-of : (t : Tree) → sort_of t ≡ BoolSort → is_truth_valued t ≡ true
truth-of t e = ap is_truth_sort e

truths-append : (ts us : List Tree) → AreTruths ts → AreTruths us → AreTruths (ts ++ us)
truths-append [] us a b = b
truths-append (t ∷ ts) us a b = (a.0, truths-append ts us a.1 b)

if-truth : (c : Bool) (t : Tree) → is_truth_valued t ≡ true → AreTruths (if c then t ∷ [] else [])
if-truth true t e = (e, tt)
if-truth false t e = tt

truths-of : (ts : List Tree) → AllByRecursion (λ t. sort_of t ≡ BoolSort) ts → AreTruths ts
truths-of [] a = tt
truths-of (t ∷ ts) a = (truth-of t a.0, truths-of ts a.1)

-- ---- relations and calls

relation-truth : (k : Kind) (a b : Tree) → is_truth_valued (relation_of k a b) ≡ true
relation-truth kind.Eq a b = refl
relation-truth kind.Le a b = refl
relation-truth kind.Ge a b = refl
relation-truth kind.Imp a b = truth-of (or_of (not_of a) b) (or-sort (not_of a) b)
relation-truth kind.Pmi a b = truth-of (or_of (not_of b) a) (or-sort (not_of b) a)

term_at-truth : (k : Kind) (old new : Store Tree) (o : Option SpotPair) → is_truth_valued (term_at k old new o) ≡ true
term_at-truth k old new None = refl
term_at-truth k old new (Some s) = relation-truth k (read nothing old s.old) (read nothing new s.new)

terms-truth : (places : List SpotPair) (old new : Store Tree) (rs : List Relation) → AreTruths (map (term_of places old new) rs)
terms-truth places old new [] = tt
terms-truth places old new (r ∷ rs) = (term_at-truth r.kind old new (slice_get places r.place), terms-truth places old new rs)

implication-truth : (x : Claimed) (a b : Site) → is_truth_valued (implication x a b) ≡ true
implication-truth x a b =
    let claim = claim_term x.pair.outputs x.candidate.claim (site_ends a) a.flag (site_ends b) b.flag in
    let conditions = map (term_of x.pair.inputs (site_inputs a) (site_inputs b)) x.candidate.when in
    truth-of (implication x a b) (or-sort (not_of a.guard) (or_of (not_of b.guard) (under conditions claim)))

calls-truth : (table : List Bool) (n : ℕ) (xs : List Claimed) (a b : Site) → AreTruths (calls_related table n xs a b)
calls-truth table n [] a b = tt
calls-truth table n (x ∷ xs) a b =
    truths-append _ (calls_related table (suc n) xs a b) (if-truth (is_live table n && is_about x a b) (implication x a b) (implication-truth x a b)) (calls-truth table (suc n) xs a b)

each-truth : (table : List Bool) (xs : List Claimed) (a : Site) (bs : List Site) → AreTruths (with_each table xs a bs)
each-truth table xs a [] = tt
each-truth table xs a (b ∷ bs) = truths-append (calls_related table 0 xs a b) (with_each table xs a bs) (calls-truth table 0 xs a b) (each-truth table xs a bs)

related-truth : (table : List Bool) (xs : List Claimed) (as' bs : List Site) → AreTruths (all_related table xs as' bs)
related-truth table xs [] bs = tt
related-truth table xs (a ∷ as') bs = truths-append (with_each table xs a bs) (all_related table xs as' bs) (each-truth table xs a bs) (related-truth table xs as' bs)

-- ---- axioms and unique constants

axioms-truth : (F : List Function) (es : List CoreExpr) → AllByRecursion (λ e. HasType F no_state e BoolSort) es → AreTruths (map (term_in F no_terms) es)
axioms-truth F [] h = tt
axioms-truth F (e ∷ es) h = (truth-of (term_in F no_terms e) (term-sort F no_state no_terms e BoolSort refl h.0), axioms-truth F es h.1)

from-truth : (facts : List Tree) (c : Var) (ds : List Var) → AreTruths (apart_from facts c ds)
from-truth facts c [] = tt
from-truth facts c (d ∷ ds) =
    let t = not_of (eq_of (constant_term c) (constant_term d)) in
    truths-append (if same_sort c.sort d.sort && (occurs facts c && occurs facts d) then t ∷ [] else []) (apart_from facts c ds) (if-truth (same_sort c.sort d.sort && (occurs facts c && occurs facts d)) t (truth-of t (not-sort (eq_of (constant_term c) (constant_term d))))) (from-truth facts c ds)

apart-truth : (facts : List Tree) (cs : List Var) → AreTruths (apart facts cs)
apart-truth facts [] = tt
apart-truth facts (c ∷ cs) = truths-append (apart_from facts c cs) (apart facts cs) (from-truth facts c cs) (apart-truth facts cs)

-- ---- the facts

assumes-truth : (C : Context) → WellFormed C.program → (q : ℕ) (p : CoreProc) → slice_get C.program.procs q ≡ Some p → (i k : ℕ) → AreTruths (side_from C p i k).body.assumes
assumes-truth C formed q p found i k =
    let ins = symbols i (sorts_of p.ins) in
    let globals = symbols (i + length p.ins) (sorts_of C.program.globals) in
    let sorted = bodies-are-sorted C q p formed found k ins globals (record { ins_sorted = symbols-sort i (sorts_of p.ins); globals_sorted = symbols-sort (i + length p.ins) (sorts_of C.program.globals) }) in
    truths-of (body_of C p k ins globals).assumes sorted.assumes

module _ (w : Work) (table : List Bool) (old_formed : WellFormed w.old) (new_formed : WellFormed w.new) where
  facts-truth : (x : Claimed) (a b : Side) → AreTruths a.body.assumes → AreTruths b.body.assumes → AreTruths (facts_of w table x a b)
  facts-truth x a b h k =
      let premises = premises_of w table x a b in
      let claim = claim_of x a b in
      let calls = related-truth table w.claims a.body.sites b.body.sites in
      let conditions = terms-truth x.pair.inputs a.inputs b.inputs x.candidate.when in
      let are : AreTruths premises =
      truths-append (axioms_of w.old) _ (axioms-truth w.old.functions w.old.axioms old_formed.axioms)
      (truths-append (axioms_of w.new) _ (axioms-truth w.new.functions w.new.axioms new_formed.axioms)
      (truths-append (conditions_of x a b) _ conditions (truths-append a.body.assumes _ h (truths-append b.body.assumes _ k calls)))) in
      truths-append premises _ are
      (truths-append (apart (premises ++ claim ∷ []) w.old.uniques) _ (apart-truth (premises ++ claim ∷ []) w.old.uniques)
      (truths-append (apart (premises ++ claim ∷ []) w.new.uniques) (not_of claim ∷ []) (apart-truth (premises ++ claim ∷ []) w.new.uniques) (truth-of (not_of claim) (not-sort claim), tt)))

  module _ (z : Infallibles) where
    by-truth : (x : Claimed) (o r : Option CoreProc) → slice_get w.old.procs x.pair.old ≡ o → slice_get w.new.procs x.pair.new ≡ r → AreTruths (query_by w z table x o r)
    by-truth x None r e f = tt
    by-truth x (Some p) None e f = tt
    by-truth x (Some p) (Some q) e f =
        let C = old_context w z in
        let D = new_context w z in
        facts-truth x (old_side C D p q) (new_side C D p q) (assumes-truth C old_formed x.pair.old p e 0 (first_call C D p q))
        (assumes-truth D new_formed x.pair.new q f (input_count C.program p) (first_call C D p q + count_all C p.body))

    pub query-truth : (x : Claimed) → AreTruths (query_of w z table x)
    unfolding query_of
    query-truth x = by-truth x (slice_get w.old.procs x.pair.old) (slice_get w.new.procs x.pair.new) refl refl

    queries-truth : (xs : List Claimed) → AllByRecursion AreTruths (map (query_of w z table) xs)
    queries-truth [] = tt
    queries-truth (x ∷ xs) = (query-truth x, queries-truth xs)

pub queries-are-truths : QueriesAreTruths
queries-are-truths h is table = queries-truth (work_of h) table is.old_formed is.new_formed (infallibles_in h) (claims_in h)
