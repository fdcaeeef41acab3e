-- the rows of a branch where a term is added that has no value
use Rattle.std.proofs.Common.{◌≡◌, ℕ, ◌<◌, List, [], ◌∷◌, ◌++◌, refl, ap, ◌∙◌, Bool, true, false, Option, Some, None, pos, negsuc, arith, append-nil, filter, length}
use Rattle.std.specs.Prelude.{if◌then◌else◌}
use Rattle.std.specs.List.{flat_map}
use Rattle.std.proofs.lemmas.List.Concat.{flat_map-append}
use Rattle.sd_term.specs.Heads.{True}
use Rattle.sd_term.specs.Tree.{Tree, leaf, parts_of}
use Rattle.sd_term.specs.Sorts.{IsWellSorted, AllWellSorted}
use Rattle.sd_term.specs.Numbering.{has, AllIn}
use Rattle.sd_term.specs.Closed.{IsClosed}
use Rattle.sd_term.proofs.ClosedTerms.{all-self, parts-in, AllIn-get}
use Rattle.sd_rows.specs.Rows.{is_within}
use Rattle.sd_rows.specs.Forms.{less, at_most}
use Rattle.sd_forms.specs.LinearForms.{form_of}
use Rattle.sd_forms.specs.FactRows.{part_at, is_le, is_int_eq, is_comparison, below_row, back_row, above_row, rows_of}
use Rattle.sd_forms.proofs.TwoParts.{two-parts}
use Rattle.sd_forms.proofs.Growing.{form_of-append}
use Rattle.sd_kernel.specs.Known.{Trail, known}
use Rattle.sd_cube.specs.CubeRows.{rows_if, branch_rows}
use Rattle.sd_arith.proofs.Giving.{comparison-le, comparison-eq}

if-same : {A : Type 0} (c : Bool) (x y v w : A) → (c ≡ true → x ≡ v) → (c ≡ false → y ≡ w) → (if c then x else y) ≡ (if c then v else w)
if-same true x y v w f g = f refl
if-same false x y v w f g = g refl

module _ (terms : List Tree) (u : Tree) (closed : IsClosed terms) where
  abbrev more : List Tree
  more = terms ++ u ∷ []

  module _ (t : Tree) (here : has terms t ≡ true) (sorted : IsWellSorted t) where
    part-form : is_comparison t ≡ true → (k : ℕ) → k < 2 → form_of more (part_at t k) ≡ form_of terms (part_at t k)
    part-form c k lt =
        let two : length (parts_of t) ≡ 2 = two-parts t sorted c in
        let there : has terms (part_at t k) ≡ true = AllIn-get terms (parts_of t) k (leaf True) (parts-in terms t (closed t here)) (omega arith) in
        form_of-append terms (u ∷ []) (part_at t k) (closed (part_at t k) there)

    below-same : is_comparison t ≡ true → below_row more t ≡ below_row terms t
    below-same c i = at_most (pos 0) (less (part-form c 0 (omega arith) i) (part-form c 1 (omega arith) i))

    back-same : is_comparison t ≡ true → back_row more t ≡ back_row terms t
    back-same c i = at_most (pos 0) (less (part-form c 1 (omega arith) i) (part-form c 0 (omega arith) i))

    above-same : is_comparison t ≡ true → above_row more t ≡ above_row terms t
    above-same c i = at_most (negsuc 0) (less (part-form c 1 (omega arith) i) (part-form c 0 (omega arith) i))

    rows_of-same : (b : Bool) → rows_of more t b ≡ rows_of terms t b
    rows_of-same true =
        if-same (is_le t) _ _ _ _ (λ e. ap (λ r. r ∷ []) (below-same (comparison-le t e)))
        (λ n. if-same (is_int_eq t) _ _ _ _ (λ e i. below-same (comparison-eq t e) i ∷ back-same (comparison-eq t e) i ∷ []) (λ m. refl))
    rows_of-same false = if-same (is_le t) _ _ _ _ (λ e. ap (λ r. r ∷ []) (above-same (comparison-le t e))) (λ n. refl)

    rows_if-same : (o : Option Bool) → rows_if more t o ≡ rows_if terms t o
    rows_if-same None = refl
    rows_if-same (Some b) = rows_of-same b

  module _ (trail : Trail) where
    all-same : (ts : List Tree) → AllIn terms ts → AllWellSorted ts → flat_map (λ t. rows_if more t (known trail t)) ts ≡ flat_map (λ t. rows_if terms t (known trail t)) ts
    all-same [] a w = refl
    all-same (t ∷ ts) a w = λ i. rows_if-same t a.0 w.0 (known trail t) i ++ all-same ts a.1 w.1 i

    pub branch_rows-grown : AllWellSorted terms → known trail u ≡ None → branch_rows more trail ≡ branch_rows terms trail
    branch_rows-grown w unknown =
        ap (λ rows. filter is_within rows)
        (flat_map-append (λ t. rows_if more t (known trail t)) terms (u ∷ [])
        ∙ (λ i. all-same terms (all-self terms) w i ++ (rows_if more u (unknown i) ++ []))
        ∙ append-nil (flat_map (λ t. rows_if terms t (known trail t)) terms))
