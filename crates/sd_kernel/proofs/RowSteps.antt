-- what the step on rows does, line by line
use Rattle.std.proofs.Common.{◌≡◌, ℕ, zero, suc, ◌+◌, ◌<◌, ◌≤◌, ◌^◌, List, [], ◌∷◌, ◌++◌, drop, get_or, refl, sym, ap, ◌∙◌, subst, Bool, true, false, not, ◌&&◌, ◌==◌, length, Option, Some, None, arith, slice_get, nat_le, add-one, eq-eqb, length-drop, All}
use Rattle.std.specs.Prelude.{if◌then◌else◌}
use borrow.Author.Tests.{leb-true, eqb-true}
use Rattle.sd_term.specs.Tree.{Tree, and-left, and-right}
use Rattle.sd_rows.specs.declared.row.Row.{Row}
use Rattle.sd_rows.specs.Rows.{IsProper, is_within, is_absurd, AllComputable}
use Rattle.sd_rows.specs.RowOps.{sizes, times, added, reduced}
use Rattle.sd_rows.specs.Divisors.{greatest_divisor}
use Rattle.sd_rows.proofs.Cuts.{greatest_divisor-divides}
use Rattle.sd_rows.proofs.Proper.{IsProper-sum_of, IsProper-times, IsProper-over}
use Rattle.sd_kernel.specs.declared.step.RowLine.{RowLine}
use Rattle.sd_kernel.specs.declared.step.RowLine.TheVariants.{Fact as FactLine, Back}
use Rattle.sd_kernel.specs.declared.step.StepCause.{StepCause}
use Rattle.sd_kernel.specs.declared.step.StepCause.TheVariants.{Number, Row as RowCause, Wide}
use Rattle.sd_kernel.specs.Known.{Trail}
use Rattle.sd_kernel.specs.Steps.{Outcome, bad, leaves, made, wrong, named_row, is_multiplier, row_of_fact, row_back, row_of_line, if_within, gives_row, refuted_by}
use Rattle.sd_kernel.specs.MadeRows.{row_fault}
use Rattle.sd_kernel.specs.declared.known.Fact.{Fact as NumberedFact}
use Rattle.sd_kernel.specs.Facts.{fact_of, trail_of}
use Rattle.sd_term.proofs.Numbers.{slice_get-map, slice_get-map_none}
use Rattle.sd_kernel.proofs.NodeTests.{by-iff}
use Rattle.std.proofs.lemmas.List.{drop_more}

-- ---- rows of a list

pub row-computable : (rs : List Row) (i : ℕ) (r : Row) → Some r ≡ slice_get rs i → AllComputable rs → IsProper r.parts × (is_within r ≡ true)
row-computable [] i r e a = cc
row-computable (s ∷ rs) zero r e a = let f : s ≡ r = cc in subst (λ (t : Row). IsProper t.parts × (is_within t ≡ true)) f a.0
row-computable (s ∷ rs) (suc i) r e a = row-computable rs i r e a.1

pub copy-computable : (rs : List Row) (i : ℕ) (r s : Row) → Some r ≡ slice_get rs i → s ≡ r → AllComputable rs → IsProper s.parts × (is_within s ≡ true)
copy-computable rs i r s e f a = subst (λ (t : Row). IsProper t.parts × (is_within t ≡ true)) (sym f) (row-computable rs i r e a)

-- ---- sums and cuts

at-least-one : (m : ℕ) → is_multiplier m ≡ true → 1 ≤ m
at-least-one m e = leb-true 1 m (and-left (nat_le 1 m) (nat_le m (2 ^ 58)) e)

module _ (rows : List Row) (a i b j : ℕ) (p q : Row) (at_a : Some p ≡ slice_get rows a) (at_b : Some q ≡ slice_get rows b) (m : Bool) (test : m ≡ is_multiplier i && is_multiplier j) where
  pub sum-proper : m ≡ true → AllComputable rows → (t : Row) → t ≡ added i p j q → IsProper t.parts
  sum-proper y c t e =
      subst (λ (r : Row). IsProper r.parts) (sym e)
      (IsProper-sum_of (times i p.parts) (times j q.parts)
      (IsProper-times i p.parts (at-least-one i (and-left (is_multiplier i) (is_multiplier j) (sym test ∙ y))) (row-computable rows a p at_a c).0)
      (IsProper-times j q.parts (at-least-one j (and-right (is_multiplier i) (is_multiplier j) (sym test ∙ y))) (row-computable rows b q at_b c).0))

module _ (rows : List Row) (a : ℕ) (p s t : Row) (at_a : Some p ≡ slice_get rows a) (copy : s ≡ p) (cut : t ≡ reduced s) where
  pub cut-proper : AllComputable rows → IsProper t.parts
  cut-proper c =
      subst (λ (r : Row). IsProper r.parts) (sym (cut ∙ ap reduced copy))
      (IsProper-over (greatest_divisor (sizes p.parts)) p.parts (greatest_divisor-divides (sizes p.parts)) (row-computable rows a p at_a c).0)

-- ---- line by line

-- what is left of a refutation after some lines
abbrev pub rest_of : List Tree → Trail → ℕ → List Row → List RowLine → Outcome
rest_of terms trail i rows [] = leaves terms []
rest_of terms trail i rows (l ∷ ls) = refuted_by terms trail i rows (l ∷ ls)

abbrev is-end : List RowLine → Bool
is-end [] = true
is-end (l ∷ ls) = false

abbrev after-row : List Tree → Trail → ℕ → List Row → List RowLine → Row → Option StepCause → Outcome
after-row terms trail i rows ls r None = rest_of terms trail (suc i) (rows ++ r ∷ []) ls
after-row terms trail i rows ls r (Some c) = bad i c

module _ (terms : List Tree) (trail : Trail) (i : ℕ) (rows : List Row) where
  pub line-made : (l : RowLine) (ls : List RowLine) (r : Row) → row_of_line terms trail rows l ≡ made r → refuted_by terms trail i rows (l ∷ ls) ≡ after-row terms trail i rows ls r (row_fault r (is-end ls))
  line-made l [] r e =
      ap (λ m. gives_row i m (λ r. if is_absurd r then if_within i r (leaves terms []) else bad i RowCause)) e
      ∙ go (is_absurd r) (is_within r)
    where
      go : (a w : Bool) → (if a then (if w then leaves terms [] else bad i Wide) else bad i RowCause) ≡ after-row terms trail i rows [] r (if not a then Some RowCause else (if w then None else Some Wide))
      go true true = refl
      go true false = refl
      go false w = refl
  line-made l (k ∷ ls) r e =
      ap (λ m. gives_row i m (λ r. if_within i r (refuted_by terms trail (suc i) (rows ++ r ∷ []) (k ∷ ls)))) e
      ∙ go (is_within r)
    where
      go : (w : Bool) → (if w then refuted_by terms trail (suc i) (rows ++ r ∷ []) (k ∷ ls) else bad i Wide) ≡ after-row terms trail i rows (k ∷ ls) r (if w then None else Some Wide)
      go true = refl
      go false = refl

end-empty : (ls : List RowLine) → is-end ls ≡ true → length ls ≡ 0
end-empty [] e = refl
end-empty (l ∷ ls) e = let f : false ≡ true = e in cc

empty-end : (ls : List RowLine) → length ls ≡ 0 → is-end ls ≡ true
empty-end [] e = refl
empty-end (l ∷ ls) e = absurd (omega (arith, e))

last-line : (ls : List RowLine) (n : ℕ) → n < length ls → is-end (drop (n + 1) ls) ≡ (n + 1 == length ls)
last-line ls n h =
    by-iff (is-end (drop (n + 1) ls)) (n + 1 == length ls)
    (λ e. eq-eqb (n + 1) (length ls) (omega (arith, end-empty (drop (n + 1) ls) e, length-drop (n + 1) ls, h)))
    (λ e. empty-end (drop (n + 1) ls) (omega (arith, eqb-true (n + 1) (length ls) e, length-drop (n + 1) ls)))

module _ (terms : List Tree) (trail : Trail) (lines : List RowLine) (n : ℕ) (d : RowLine) (rows : List Row) (lt : n < length lines) where
  here : rest_of terms trail (suc n) rows (drop n lines) ≡ refuted_by terms trail (suc n) rows (get_or lines n d ∷ drop (n + 1) lines)
  here = ap (rest_of terms trail (suc n) rows) (drop_more lines n d lt)

  module _ (r : Row) (made_here : row_of_line terms trail rows (get_or lines n d) ≡ made r) where
    rest-made : (o : Option StepCause) → o ≡ row_fault r (n + 1 == length lines) → rest_of terms trail (suc n) rows (drop n lines) ≡ after-row terms trail (suc n) rows (drop (n + 1) lines) r o
    rest-made o e =
        here ∙ line-made terms trail (suc n) rows (get_or lines n d) (drop (n + 1) lines) r made_here
        ∙ ap (λ b. after-row terms trail (suc n) rows (drop (n + 1) lines) r (row_fault r b)) (last-line lines n lt)
        ∙ ap (after-row terms trail (suc n) rows (drop (n + 1) lines) r) (sym e)

    pub rest-fault : (c : StepCause) → Some c ≡ row_fault r (n + 1 == length lines) → rest_of terms trail (suc n) rows (drop n lines) ≡ bad (n + 1) c
    rest-fault c e = rest-made (Some c) e ∙ ap (λ k. bad k c) (sym (add-one n))

    pub rest-next : None ≡ row_fault r (n + 1 == length lines) → (rows' : List Row) → rows' ≡ rows ++ r ∷ []
        → rest_of terms trail (suc n) rows (drop n lines) ≡ rest_of terms trail (suc (n + 1)) rows' (drop (n + 1) lines)
    rest-next e rows' m =
        rest-made None e ∙ ap (λ k. rest_of terms trail (suc k) (rows ++ r ∷ []) (drop (n + 1) lines)) (sym (add-one n))
        ∙ ap (λ l. rest_of terms trail (suc (n + 1)) l (drop (n + 1) lines)) (sym m)

-- a row without a fault is within the bounds
pub within-row : (r : Row) (b : Bool) → None ≡ row_fault r b → is_within r ≡ true
within-row r b e = go (b && not (is_absurd r)) (is_within r) e
  where
    go : (a w : Bool) → None ≡ (if a then Some RowCause else (if w then None else Some Wide)) → w ≡ true
    go a true e = refl
    go true false e = cc
    go false false e = cc

-- ---- rows of facts

module _ (terms : List Tree) (trail : List NumberedFact) (rows : List Row) (k : ℕ) where
  pub fact-some : (f : NumberedFact) → Some f ≡ slice_get trail k → row_of_line terms (trail_of terms trail) rows (FactLine k) ≡ row_of_fact terms (fact_of terms f)
  fact-some f e = ap (λ o. named_row o (row_of_fact terms)) (slice_get-map (fact_of terms) trail k f (sym e))

  pub fact-none : None ≡ slice_get trail k → row_of_line terms (trail_of terms trail) rows (FactLine k) ≡ wrong Number
  fact-none e = ap (λ o. named_row o (row_of_fact terms)) (slice_get-map_none (fact_of terms) trail k (sym e))

  pub back-some : (f : NumberedFact) → Some f ≡ slice_get trail k → row_of_line terms (trail_of terms trail) rows (Back k) ≡ row_back terms (fact_of terms f)
  back-some f e = ap (λ o. named_row o (row_back terms)) (slice_get-map (fact_of terms) trail k f (sym e))

  pub back-none : None ≡ slice_get trail k → row_of_line terms (trail_of terms trail) rows (Back k) ≡ wrong Number
  back-none e = ap (λ o. named_row o (row_back terms)) (slice_get-map_none (fact_of terms) trail k (sym e))

pub fact-below : (trail : List NumberedFact) (k n : ℕ) (f : NumberedFact) → Some f ≡ slice_get trail k → All (λ (g : NumberedFact). g.term < n) trail → f.term < n
fact-below [] k n f e a = absurd (cc)
fact-below (g ∷ trail) zero n f e a = let h : g ≡ f = cc in subst (λ (u : NumberedFact). u.term < n) h (a 0 g (omega arith))
fact-below (g ∷ trail) (suc k) n f e a = fact-below trail k n f e (λ j d lt. a (suc j) d (omega (arith, lt)))
