-- rows that are gathered with their lines
use Rattle.std.proofs.Common.{◌≡◌, ℕ, zero, suc, ◌+◌, ◌<◌, List, [], ◌∷◌, ◌++◌, length, take, refl, sym, ap, ◌∙◌, subst, Bool, true, false, cond, ◌&&◌, ◌||◌, Option, Some, None, slice_get, arith, append_assoc, append-nil, add-one, filter}
use Rattle.std.specs.Prelude.{if◌then◌else◌}
use Rattle.std.proofs.lemmas.List.Elements.{filter-append}
use Rattle.sd_term.specs.Tree.{Tree}
use Rattle.sd_term.specs.Bank.{tree_at}
use Rattle.sd_rows.specs.declared.row.Row.{Row}
use Rattle.sd_rows.specs.Rows.{IsProper, is_within, AllComputable}
use Rattle.sd_forms.specs.FactRows.{is_le, is_int_eq, is_comparison, below_row, back_row, above_row, rows_of}
use Rattle.sd_kernel.specs.declared.step.RowLine.{RowLine}
use Rattle.sd_kernel.specs.declared.step.RowLine.TheVariants.{Fact as FactLine, Back}
use Rattle.sd_kernel.specs.declared.step.StepCause.TheVariants.{Shape, Value}
use Rattle.sd_kernel.specs.Known.{Fact, Trail, known}
use Rattle.sd_kernel.specs.Steps.{made, wrong, named_row, row_of_fact, row_back}
use Rattle.sd_cube.specs.CubeRows.{rows_if}
use Rattle.sd_arith.specs.declared.gather.Gathered.{Gathered}
use Rattle.sd_arith.specs.Lines.{Gives, AllGive}
use Rattle.sd_arith.specs.Places.{IsPlace}
use Rattle.sd_arith.specs.Gathered.{IsGathered, Adds, AddsRows, rows_of_terms}

-- ---- one row

AllGive-snoc : (terms : List Tree) (trail : Trail) (ls : List RowLine) (rs : List Row) (l : RowLine) (r : Row) → AllGive terms trail ls rs → Gives terms trail l r → AllGive terms trail (ls ++ l ∷ []) (rs ++ r ∷ [])
AllGive-snoc terms trail [] [] l r a g = (g, tt)
AllGive-snoc terms trail [] (s ∷ rs) l r a g = absurd a
AllGive-snoc terms trail (k ∷ ls) [] l r a g = absurd a
AllGive-snoc terms trail (k ∷ ls) (s ∷ rs) l r a g = (a.0, AllGive-snoc terms trail ls rs l r a.1 g)

AllComputable-snoc : (rs : List Row) (r : Row) → AllComputable rs → IsProper r.parts → is_within r ≡ true → AllComputable (rs ++ r ∷ [])
AllComputable-snoc [] r a p w = ((p, w), tt)
AllComputable-snoc (s ∷ rs) r a p w = (a.0, AllComputable-snoc rs r a.1 p w)

module _ (terms : List Tree) (trail : Trail) (rows : List Row) where
  filter-one : (r : Row) → is_within r ≡ true → filter is_within (rows ++ r ∷ []) ≡ filter is_within rows ++ r ∷ []
  filter-one r w = filter-append is_within rows (r ∷ []) ∙ ap (λ c. filter is_within rows ++ cond c (r ∷ []) []) w

  pub gathered-kept : (l : RowLine) (r : Row) (old new : Gathered) → is_within r ≡ true → new.rows ≡ old.rows ++ r ∷ [] → new.lines ≡ old.lines ++ l ∷ []
      → Gives terms trail l r → IsProper r.parts → IsGathered terms trail rows old → IsGathered terms trail (rows ++ r ∷ []) new
  gathered-kept l r old new w e f g p h = record {
    kept = e ∙ ap (λ rs. rs ++ r ∷ []) h.kept ∙ sym (filter-one r w);
    given = subst (λ (x : List RowLine × List Row). AllGive terms trail x.0 x.1) (λ i. (sym f i, sym e i)) (AllGive-snoc terms trail old.lines old.rows l r h.given g);
    computable = subst AllComputable (sym e) (AllComputable-snoc old.rows r h.computable p w);
  }

-- no row more
pub gathered-none : (terms : List Tree) (trail : Trail) (rows more : List Row) (old new : Gathered) → more ≡ [] → new ≡ old → IsGathered terms trail rows old → IsGathered terms trail (rows ++ more) new
gathered-none terms trail rows more old new e f h = subst (IsGathered terms trail (rows ++ more)) (sym f) (subst (λ rs. IsGathered terms trail rs old) (sym (ap (λ l. rows ++ l) e ∙ append-nil rows)) h)

-- ---- the rows of one term

module _ (terms : List Tree) (trail : Trail) (t : Tree) (k : ℕ) where
  gives-below : slice_get trail k ≡ Some (t, true) → is_comparison t ≡ true → Gives terms trail (FactLine k) (below_row terms t)
  gives-below e h before = ap (λ (o : Option Fact). named_row o (row_of_fact terms)) e ∙ ap (λ (b : Bool). if b then made (below_row terms t) else wrong Shape) h

  gives-above : slice_get trail k ≡ Some (t, false) → is_le t ≡ true → Gives terms trail (FactLine k) (above_row terms t)
  gives-above e h before =
      ap (λ (o : Option Fact). named_row o (row_of_fact terms)) e
      ∙ ap (λ (b : Bool). if b then made (above_row terms t) else (if is_int_eq t then wrong Value else wrong Shape)) h

  gives-back : slice_get trail k ≡ Some (t, true) → is_int_eq t ≡ true → Gives terms trail (Back k) (back_row terms t)
  gives-back e h before = ap (λ (o : Option Fact). named_row o (row_back terms)) e ∙ ap (λ (b : Bool). if b then made (back_row terms t) else wrong Shape) h

pub comparison-le : (t : Tree) → is_le t ≡ true → is_comparison t ≡ true
comparison-le t e = ap (λ b. b || is_int_eq t) e

pub comparison-eq : (t : Tree) → is_int_eq t ≡ true → is_comparison t ≡ true
comparison-eq t e = ap (λ b. is_le t || b) e ∙ or-true (is_le t)
  where
    or-true : (b : Bool) → b || true ≡ true
    or-true true = refl
    or-true false = refl

module _ (terms : List Tree) (t : Tree) where
  order-rows : (b : Bool) (r : Row) → is_le t ≡ true → r ≡ (if b then below_row terms t else above_row terms t) → r ∷ [] ≡ rows_of terms t b
  order-rows true r h e = ap (λ x. x ∷ []) e ∙ sym (ap (λ (c : Bool). if c then below_row terms t ∷ [] else (if is_int_eq t then below_row terms t ∷ back_row terms t ∷ [] else [])) h)
  order-rows false r h e = ap (λ x. x ∷ []) e ∙ sym (ap (λ (c : Bool). if c then above_row terms t ∷ [] else []) h)

  equality-rows : is_le t ≡ false → is_int_eq t ≡ true → below_row terms t ∷ back_row terms t ∷ [] ≡ rows_of terms t true
  equality-rows h e = sym (λ i. if h i then below_row terms t ∷ [] else (if e i then below_row terms t ∷ back_row terms t ∷ [] else []))

  -- no row of a term that is no order, and is false or no equality
  pub no-rows : (b : Bool) → is_le t ≡ false → b && is_int_eq t ≡ false → rows_of terms t b ≡ []
  no-rows true h e = λ i. if h i then below_row terms t ∷ [] else (if e i then below_row terms t ∷ back_row terms t ∷ [] else [])
  no-rows false h e = ap (λ (c : Bool). if c then above_row terms t ∷ [] else []) h

  pub other-rows : (b : Bool) → (is_comparison t ≡ true → ⊥) → rows_of terms t b ≡ []
  other-rows b n = go (is_le t) (is_int_eq t) refl refl b
    where
      go : (l q : Bool) → is_le t ≡ l → is_int_eq t ≡ q → (b : Bool) → rows_of terms t b ≡ []
      go true q f g b = absurd (n (comparison-le t f))
      go false true f g b = absurd (n (comparison-eq t g))
      go false false f g true = no-rows true f g
      go false false f g false = no-rows false f refl

  gives-order : (trail : Trail) (k : ℕ) (b : Bool) (r : Row) → slice_get trail k ≡ Some (t, b) → is_le t ≡ true → r ≡ (if b then below_row terms t else above_row terms t) → Gives terms trail (FactLine k) r
  gives-order trail k true r e h is = subst (Gives terms trail (FactLine k)) (sym is) (gives-below terms trail t k e (comparison-le t h))
  gives-order trail k false r e h is = subst (Gives terms trail (FactLine k)) (sym is) (gives-above terms trail t k e h)

module _ (terms : List Tree) (t : Tree) (k : ℕ) (trail : Trail) where
  pub order-added : (b : Bool) (r : Row) (old new : Gathered) → is_le t ≡ true → r ≡ (if b then below_row terms t else above_row terms t) → IsProper r.parts → Adds (FactLine k) r old new
      → IsPlace trail t b k → AddsRows terms trail t b old new
  order-added b r old new h e p a at rows g =
      subst (λ rs. IsGathered terms trail (rows ++ rs) new) (order-rows terms t b r h e)
      (a terms trail rows (gives-order terms t trail k b r (at (comparison-le t h)) h e) p g)

  pub equality-added : (r s : Row) (old mid new : Gathered) → is_le t ≡ false → is_int_eq t ≡ true → r ≡ below_row terms t → s ≡ back_row terms t → IsProper r.parts → IsProper s.parts
      → Adds (FactLine k) r old mid → Adds (Back k) s mid new → IsPlace trail t true k → AddsRows terms trail t true old new
  equality-added r s old mid new l h e f p q a b at rows g =
      let is = at (comparison-eq t h) in
      let one = a terms trail rows (subst (Gives terms trail (FactLine k)) (sym e) (gives-below terms trail t k is (comparison-eq t h))) p g in
      let two = b terms trail (rows ++ r ∷ []) (subst (Gives terms trail (Back k)) (sym f) (gives-back terms trail t k is h)) q one in
      subst (λ rs. IsGathered terms trail rs new)
      (append_assoc rows (r ∷ []) (s ∷ []) ∙ ap (λ rs. rows ++ rs) ((λ i. e i ∷ f i ∷ []) ∙ equality-rows terms t l h)) two

-- ---- the rows of all terms

module _ (terms : List Tree) (trail : Trail) where
  rows-suc : (ts : List Tree) (n : ℕ) → n < length ts → rows_of_terms terms trail (take (suc n) ts) ≡ rows_of_terms terms trail (take n ts) ++ rows_if terms (tree_at ts n) (known trail (tree_at ts n))
  rows-suc [] n h = absurd (omega arith)
  rows-suc (t ∷ ts) zero h = append-nil (rows_if terms t (known trail t))
  rows-suc (t ∷ ts) (suc n) h =
      ap (λ rs. rows_if terms t (known trail t) ++ rs) (rows-suc ts n (omega (arith, h)))
      ∙ sym (append_assoc (rows_if terms t (known trail t)) (rows_of_terms terms trail (take n ts)) (rows_if terms (tree_at ts n) (known trail (tree_at ts n))))

  rows-more : (n : ℕ) (v : Option Bool) → n < length terms → known trail (tree_at terms n) ≡ v → rows_of_terms terms trail (take (n + 1) terms) ≡ rows_of_terms terms trail (take n terms) ++ rows_if terms (tree_at terms n) v
  rows-more n v h e =
      ap (λ m. rows_of_terms terms trail (take m terms)) (add-one n) ∙ rows-suc terms n h
      ∙ ap (λ o. rows_of_terms terms trail (take n terms) ++ rows_if terms (tree_at terms n) o) e

  pub gathered-more : (n : ℕ) (b : Bool) (g : Gathered) → n < length terms → known trail (tree_at terms n) ≡ Some b
      → IsGathered terms trail (rows_of_terms terms trail (take n terms) ++ rows_of terms (tree_at terms n) b) g → IsGathered terms trail (rows_of_terms terms trail (take (n + 1) terms)) g
  gathered-more n b g h e a = subst (λ rs. IsGathered terms trail rs g) (sym (rows-more n (Some b) h e)) a

  pub gathered-same : (n : ℕ) (g : Gathered) → n < length terms → known trail (tree_at terms n) ≡ None
      → IsGathered terms trail (rows_of_terms terms trail (take n terms)) g → IsGathered terms trail (rows_of_terms terms trail (take (n + 1) terms)) g
  gathered-same n g h e a = subst (λ rs. IsGathered terms trail rs g) (sym (rows-more n None h e ∙ append-nil (rows_of_terms terms trail (take n terms)))) a
