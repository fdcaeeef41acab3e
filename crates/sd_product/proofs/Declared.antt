-- What a program declares is true: its axioms, and that its unique constants differ.
use Rattle.std.proofs.Common.{◌≡◌, ℕ, List, [], ◌∷◌, refl, sym, ap, ◌∙◌}
use Rattle.std.specs.Prelude.{◌≢◌, false, not, ◌&&◌, map, IsTrue}
use Rattle.std.specs.List.{AllByRecursion}
use Rattle.sd_base.proofs.SortLemmas.{same_sort-is}
use Rattle.sd_base.specs.declared.Sort.{Sort, Bool as BoolSort}
use Rattle.sd_base.specs.declared.Var.{Var}
use Rattle.sd_base.specs.Value.{Value, same_value}
use Rattle.sd_base.specs.Cast.{cast}
use Rattle.sd_base.specs.Meaning.{Meaning, interpretation, truth_of}
use Rattle.sd_base.proofs.ValueLemmas.{value_is}
use Rattle.sd_core.specs.declared.CoreExpr.{CoreExpr}
use Rattle.sd_core.specs.declared.CoreProgram.{CoreProgram}
use Rattle.sd_core.specs.Run.{is_true}
use Rattle.sd_core.specs.Formed.{same_sort, no_state, HasType, IsConstant, WellFormed}
use Rattle.sd_core.specs.Meanings.{Differ, IsMeaningOf}
use Rattle.sd_runs.proofs.Fits.{meaning_interprets}
use Rattle.sd_term.specs.Tree.{Tree}
use Rattle.sd_term.specs.Build.{not_of, eq_of}
use Rattle.sd_term.specs.Truth.{Valuation, value, MakesTrue}
use Rattle.sd_term.proofs.Typed.{cast-same, sorted-has}
use Rattle.sd_vcgen.specs.Body.{term_in}
use Rattle.sd_vcgen.specs.Laws.{Reads}
use Rattle.sd_vcgen.proofs.Truths.{not_truth, first_on}
use Rattle.sd_vcgen.proofs.Values.{term-value}
use Rattle.sd_product.specs.Query.{no_terms, axioms_of, occurs, constant_term, apart_from, apart}
use Rattle.sd_product.proofs.Truths.{split, true-value, makes-append, makes-if}

-- a valuation by a meaning reads as that meaning
pub reads-meaning : (P : CoreProgram) (M : Meaning) → IsMeaningOf P M → (symbol : ℕ → Value) → Reads P.functions (record { symbol = symbol; by = interpretation M }) (interpretation M)
reads-meaning P M meaning symbol =
    let fits = meaning_interprets P M meaning in
    record {
      starts = λ s. cast-same s (M.start s) (sorted-has s (M.start s) (fits.starts s));
      constants = λ c g e. cast-same g.result (M.constant c) (sorted-has g.result (M.constant c) (fits.constants c g e));
      functions = λ f g xs e h. cast-same g.result ((interpretation M).apply f xs) (sorted-has g.result ((interpretation M).apply f xs) (fits.functions f g xs e h));
    }

differ-false : (x y : Value) → (x ≢ y) → same_value x y ≡ false
differ-false x y d = split (same_value x y ≡ false) (same_value x y) (λ on. absurd (d (value_is x y on))) (λ off. off)

module _ (P : CoreProgram) (M : Meaning) (v : Valuation) (reads : Reads P.functions v (interpretation M)) where
  axiom-list : (es : List CoreExpr) → AllByRecursion (λ e. HasType P.functions no_state e BoolSort) es → AllByRecursion (λ e. IsTrue (is_true (interpretation M) e)) es → MakesTrue v (map (term_in P.functions no_terms) es)
  axiom-list [] t h = tt
  axiom-list (e ∷ es) t h =
      let same = term-value P.functions v (interpretation M) reads no_state no_terms e BoolSort refl t.0 in
      (true-value (value v (term_in P.functions no_terms e)) (ap truth_of same ∙ h.0), axiom-list es t.1 h.1)

  constant-is : (c : Var) → IsConstant P.functions c → value v (constant_term c) ≡ M.constant c.name
  constant-is c h = ap (λ (s : Sort). cast s (v.by.constant c.name)) (sym h.2) ∙ reads.constants c.name h.0 h.1

  apart_from-true : (facts : List Tree) (c : Var) (ds : List Var) → IsConstant P.functions c → AllByRecursion (IsConstant P.functions) ds → AllByRecursion (λ (d : Var). c.sort ≡ d.sort → M.constant c.name ≢ M.constant d.name) ds → MakesTrue v (apart_from facts c ds)
  apart_from-true facts c [] k ks h = tt
  apart_from-true facts c (d ∷ ds) k ks h =
      makes-append v _ (apart_from facts c ds)
      (makes-if v (same_sort c.sort d.sort && (occurs facts c && occurs facts d)) (not_of (eq_of (constant_term c) (constant_term d))) (λ on.
      let same = same_sort-is c.sort d.sort (first_on (same_sort c.sort d.sort) (occurs facts c && occurs facts d) on) in
      not_truth v (eq_of (constant_term c) (constant_term d))
      ∙ (λ i. not (same_value (constant-is c k i) (constant-is d ks.0 i)))
      ∙ ap not (differ-false (M.constant c.name) (M.constant d.name) (h.0 same))))
      (apart_from-true facts c ds k ks.1 h.1)

  apart-list : (facts : List Tree) (cs : List Var) → AllByRecursion (IsConstant P.functions) cs → Differ M cs → MakesTrue v (apart facts cs)
  apart-list facts [] ks h = tt
  apart-list facts (c ∷ cs) ks h = makes-append v (apart_from facts c cs) (apart facts cs) (apart_from-true facts c cs ks.0 ks.1 h.0) (apart-list facts cs ks.1 h.1)

  pub axioms-true : WellFormed P → IsMeaningOf P M → MakesTrue v (axioms_of P)
  axioms-true formed meaning = axiom-list P.axioms formed.axioms meaning.axioms

  pub apart-true : WellFormed P → IsMeaningOf P M → (facts : List Tree) → MakesTrue v (apart facts P.uniques)
  apart-true formed meaning facts = apart-list facts P.uniques formed.uniques meaning.uniques
