-- rows that lines derive from the facts of a branch
use Rattle.std.proofs.Common.{◌≡◌, ℕ, zero, suc, List, [], ◌∷◌, ◌++◌, refl, subst, Bool, true, false, ◌&&◌, ◌||◌, Option, Some, None, slice_get, arith}
use Rattle.std.proofs.Common.{ℤ, pos}
use Rattle.std.specs.Prelude.{if◌then◌else◌, int_lt}
use Rattle.std.proofs.lemmas.Int.{ints}
use Rattle.sd_term.specs.Tree.{Tree, and-left, and-right}
use Rattle.sd_rows.specs.declared.row.Row.{Row}
use Rattle.sd_rows.specs.Rows.{Parts, sum_at, Holds, AllHold, is_empty, is_absurd, is_within}
use Rattle.sd_rows.specs.RowOps.{added, reduced}
use Rattle.sd_rows.proofs.Sums.{Holds-added}
use Rattle.sd_rows.proofs.Cuts.{Holds-reduced}
use Rattle.sd_forms.specs.FactRows.{is_le, is_int_eq, below_row, back_row, above_row, rows_of}
use Rattle.sd_kernel.specs.declared.step.RowLine.{RowLine}
use Rattle.sd_kernel.specs.declared.step.RowLine.TheVariants.{Fact as FactLine, Back, Add, Cut}
use Rattle.sd_kernel.specs.declared.step.StepCause.TheVariants.{Shape, Value as Value', Row as RowCause, Wide}
use Rattle.sd_kernel.specs.Known.{Fact, Trail}
use Rattle.sd_kernel.specs.Steps.{bad, leaves, Made, made, wrong, row_of_fact, row_back, named_row, is_multiplier, row_of_line, if_within, gives_row, refuted_by}

-- what a line needed, where it made a row
pub named_row-made : {A : Type 0} (o : Option A) (f : A → Made) (r : Row) → named_row o f ≡ made r → (x : A) × (o ≡ Some x) × (f x ≡ made r)
named_row-made None f r e = cc
named_row-made (Some x) f r e = (x, refl, e)

-- ---- what a refutation leaves: the terms, and no branch

module _ (terms : List Tree) (trail : Trail) (mid : List Tree) (branches : List Trail) where
  abbrev pub Closed : Type 0
  Closed = (terms ≡ mid) × ([] ≡ branches)

  closed-at : leaves terms [] ≡ leaves mid branches → Closed
  closed-at e = (cc, cc)

  last-leaves : (i : ℕ) (m : Made) → gives_row i m (λ r. if is_absurd r then if_within i r (leaves terms []) else bad i RowCause) ≡ leaves mid branches → Closed
  last-leaves i (wrong c) e = cc
  last-leaves i (made r) e = go (is_absurd r) (is_within r) e
    where
      go : (a w : Bool) → (if a then (if w then leaves terms [] else bad i Wide) else bad i RowCause) ≡ leaves mid branches → Closed
      go true true e = closed-at e
      go true false e = cc
      go false w e = cc

  line-leaves : (i : ℕ) (rows : List Row) (ls : List RowLine) (m : Made) → gives_row i m (λ r. if_within i r (refuted_by terms trail (suc i) (rows ++ r ∷ []) ls)) ≡ leaves mid branches
      → (r : Row) × (m ≡ made r) × (refuted_by terms trail (suc i) (rows ++ r ∷ []) ls ≡ leaves mid branches)
  line-leaves i rows ls (wrong c) e = cc
  line-leaves i rows ls (made r) e = go (is_within r) e
    where
      go : (w : Bool) → (if w then refuted_by terms trail (suc i) (rows ++ r ∷ []) ls else bad i Wide) ≡ leaves mid branches → (s : Row) × (made r ≡ made s) × (refuted_by terms trail (suc i) (rows ++ s ∷ []) ls ≡ leaves mid branches)
      go true e = (r, refl, e)
      go false e = cc

  pub rows-closed : (i : ℕ) (rows : List Row) (lines : List RowLine) → refuted_by terms trail i rows lines ≡ leaves mid branches → Closed
  rows-closed i rows [] e = cc
  rows-closed i rows (l ∷ []) e = last-leaves i (row_of_line terms trail rows l) e
  rows-closed i rows (l ∷ k ∷ ls) e = let n = line-leaves i rows (k ∷ ls) (row_of_line terms trail rows l) e in rows-closed (suc i) (rows ++ n.0 ∷ []) (k ∷ ls) n.2

-- ---- rows hold

holds-get : (x : ℕ → ℤ) (rs : List Row) (i : ℕ) (r : Row) → AllHold x rs → slice_get rs i ≡ Some r → Holds x r
holds-get x [] i r h e = cc
holds-get x (s ∷ rs) zero r h e = let f : s ≡ r = cc in subst (Holds x) f h.0
holds-get x (s ∷ rs) (suc i) r h e = holds-get x rs i r h.1 e

holds-snoc : (x : ℕ → ℤ) (rs : List Row) (r : Row) → AllHold x rs → Holds x r → AllHold x (rs ++ r ∷ [])
holds-snoc x [] r h k = (k, tt)
holds-snoc x (s ∷ rs) r h k = (h.0, holds-snoc x rs r h.1 k)

-- no integers meet an absurd row
never : (x : ℕ → ℤ) (r : Row) → is_absurd r ≡ true → Holds x r → ⊥
never x r a h =
    let e : sum_at x r.parts ≡ pos 0 = empty r.parts (and-left (is_empty r.parts) (int_lt r.bound (pos 0)) a) in
    let b : int_lt r.bound (pos 0) ≡ true = and-right (is_empty r.parts) (int_lt r.bound (pos 0)) a in
    omega (arith, ints)
  where
    empty : (ps : Parts) → is_empty ps ≡ true → sum_at x ps ≡ pos 0
    empty [] e = refl
    empty (p ∷ ps) e = let f : false ≡ true = e in cc

-- the rows of each fact hold
abbrev pub FactsHold : (ℕ → ℤ) → List Tree → Trail → Type 0
FactsHold x terms [] = Unit {0}
FactsHold x terms (f ∷ fs) = AllHold x (rows_of terms f.0 f.1) × FactsHold x terms fs

facts-get : (x : ℕ → ℤ) (terms : List Tree) (fs : Trail) (k : ℕ) (f : Fact) → FactsHold x terms fs → slice_get fs k ≡ Some f → AllHold x (rows_of terms f.0 f.1)
facts-get x terms [] k f h e = cc
facts-get x terms (g ∷ fs) zero f h e = let p : g ≡ f = cc in subst (λ (u : Fact). AllHold x (rows_of terms u.0 u.1)) p h.0
facts-get x terms (g ∷ fs) (suc k) f h e = facts-get x terms fs k f h.1 e

module _ (x : ℕ → ℤ) (terms : List Tree) where
  fact-holds : (t : Tree) (b : Bool) (r : Row) → AllHold x (rows_of terms t b) → row_of_fact terms (t, b) ≡ made r → Holds x r
  fact-holds t true r h e = go (is_le t) (is_int_eq t) h e
    where
      go : (l q : Bool) → AllHold x (if l then below_row terms t ∷ [] else (if q then below_row terms t ∷ back_row terms t ∷ [] else [])) → (if l || q then made (below_row terms t) else wrong Shape) ≡ made r → Holds x r
      go true q h e = let f : below_row terms t ≡ r = cc in subst (Holds x) f h.0
      go false true h e = let f : below_row terms t ≡ r = cc in subst (Holds x) f h.0
      go false false h e = cc
  fact-holds t false r h e = go (is_le t) (is_int_eq t) h e
    where
      go : (l q : Bool) → AllHold x (if l then above_row terms t ∷ [] else []) → (if l then made (above_row terms t) else (if q then wrong Value' else wrong Shape)) ≡ made r → Holds x r
      go true q h e = let f : above_row terms t ≡ r = cc in subst (Holds x) f h.0
      go false true h e = cc
      go false false h e = cc

  back-holds : (t : Tree) (b : Bool) (r : Row) → (is_int_eq t ≡ true → is_le t ≡ false) → AllHold x (rows_of terms t b) → row_back terms (t, b) ≡ made r → Holds x r
  back-holds t true r n h e = go (is_int_eq t) (is_le t) n h e
    where
      go : (q l : Bool) → (q ≡ true → l ≡ false) → AllHold x (if l then below_row terms t ∷ [] else (if q then below_row terms t ∷ back_row terms t ∷ [] else [])) → (if q then made (back_row terms t) else wrong Shape) ≡ made r → Holds x r
      go true false n h e = let f : back_row terms t ≡ r = cc in subst (Holds x) f h.1.0
      go true true n h e = let f : true ≡ false = n refl in cc
      go false l n h e = cc
  back-holds t false r n h e = go (is_int_eq t) e
    where
      go : (q : Bool) → (if q then wrong Value' else wrong Shape) ≡ made r → Holds x r
      go true e = cc
      go false e = cc

  module _ (trail : Trail) (facts : FactsHold x terms trail) (n : (t : Tree) → is_int_eq t ≡ true → is_le t ≡ false) where
    line-holds : (rows : List Row) (l : RowLine) (r : Row) → AllHold x rows → row_of_line terms trail rows l ≡ made r → Holds x r
    line-holds rows (FactLine k) r h e =
        let one = named_row-made (slice_get trail k) (row_of_fact terms) r e in
        fact-holds one.0.0 one.0.1 r (facts-get x terms trail k one.0 facts one.1) one.2
    line-holds rows (Back k) r h e =
        let one = named_row-made (slice_get trail k) (row_back terms) r e in
        back-holds one.0.0 one.0.1 r (n one.0.0) (facts-get x terms trail k one.0 facts one.1) one.2
    line-holds rows (Add a i b j) r h e =
        let one = named_row-made (slice_get rows a) (λ p. named_row (slice_get rows b) (λ q. if is_multiplier i && is_multiplier j then made (added i p j q) else wrong RowCause)) r e in
        let two = named_row-made (slice_get rows b) (λ q. if is_multiplier i && is_multiplier j then made (added i one.0 j q) else wrong RowCause) r one.2 in
        go one.0 two.0 (holds-get x rows a one.0 h one.1) (holds-get x rows b two.0 h two.1) (is_multiplier i && is_multiplier j) two.2
      where
        go : (p q : Row) → Holds x p → Holds x q → (m : Bool) → (if m then made (added i p j q) else wrong RowCause) ≡ made r → Holds x r
        go p q hp hq true e = let f : added i p j q ≡ r = cc in subst (Holds x) f (Holds-added x i j p q hp hq)
        go p q hp hq false e = cc
    line-holds rows (Cut a) r h e =
        let one = named_row-made (slice_get rows a) (λ p. made (reduced p)) r e in
        let f : reduced one.0 ≡ r = cc in
        subst (Holds x) f (Holds-reduced x one.0 (holds-get x rows a one.0 h one.1))

    -- no integers meet the facts that lines refute
    pub refuted-unmet : (mid : List Tree) (branches : List Trail) (i : ℕ) (rows : List Row) (lines : List RowLine) → AllHold x rows → refuted_by terms trail i rows lines ≡ leaves mid branches → ⊥
    refuted-unmet mid branches i rows [] h e = cc
    refuted-unmet mid branches i rows (l ∷ []) h e = go (row_of_line terms trail rows l) refl e
      where
        absurd-row : (r : Row) → Holds x r → (a w : Bool) → is_absurd r ≡ a → (if a then (if w then leaves terms [] else bad i Wide) else bad i RowCause) ≡ leaves mid branches → ⊥
        absurd-row r k true w f g = never x r f k
        absurd-row r k false w f g = cc

        go : (m : Made) → row_of_line terms trail rows l ≡ m
            → gives_row i m (λ r. if is_absurd r then if_within i r (leaves terms []) else bad i RowCause) ≡ leaves mid branches → ⊥
        go (wrong c) f g = cc
        go (made r) f g = absurd-row r (line-holds rows l r h f) (is_absurd r) (is_within r) refl g
    refuted-unmet mid branches i rows (l ∷ k ∷ ls) h e =
        let n = line-leaves terms trail mid branches i rows (k ∷ ls) (row_of_line terms trail rows l) e in
        refuted-unmet mid branches (suc i) (rows ++ n.0 ∷ []) (k ∷ ls) (holds-snoc x rows n.0 h (line-holds rows l n.0 h n.1)) n.2
