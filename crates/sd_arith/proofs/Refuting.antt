-- the lines of a refutation close the branch
use Rattle.std.proofs.Common.{◌≡◌, ℕ, zero, suc, ◌+◌, ◌<◌, ◌≤◌, ◌^◌, List, [], ◌∷◌, ◌++◌, map, length, refl, ap, ◌∙◌, subst, Bool, true, false, ◌&&◌, Option, Some, slice_get, nat_le, arith, length-append, All}
use Rattle.std.proofs.Common.{pos, ◌<ℤ◌}
use Rattle.std.specs.Prelude.{slice_index_or, if◌then◌else◌, int_lt}
use Rattle.std.proofs.lemmas.Int.{ints}
use Rattle.std.proofs.lemmas.List.Elements.{All-nil, All-cons}
use borrow.Author.Tests.{leb-false}
use Rattle.sd_term.specs.Tree.{Tree}
use Rattle.sd_rows.specs.declared.row.Row.{Row}
use Rattle.sd_rows.specs.Rows.{nothing, IsAbsurd, is_absurd, is_empty, is_within}
use Rattle.sd_rows.specs.RowOps.{added, reduced}
use Rattle.sd_linear.specs.declared.step.RowStep.{RowStep}
use Rattle.sd_linear.specs.declared.step.RowStep.TheVariants.{Input, Add as AddStep, Cut as CutStep}
use Rattle.sd_linear.specs.RowSteps.{row_made, made_from, IsStep, AreSteps}
use Rattle.sd_linear.specs.Values.{AllWithin}
use Rattle.sd_linear.specs.Answers.{IsRefutation}
use Rattle.sd_linear.proofs.Deriving.{made_from-front, at-end}
use Rattle.sd_kernel.specs.declared.step.RowLine.{RowLine}
use Rattle.sd_kernel.specs.declared.step.RowLine.TheVariants.{Fact as FactLine}
use Rattle.sd_kernel.specs.declared.step.StepCause.TheVariants.{Row as RowCause, Wide}
use Rattle.sd_kernel.specs.Known.{Trail}
use Rattle.sd_kernel.specs.Steps.{bad, leaves, Made, made, wrong, named_row, is_multiplier, row_of_line, if_within, gives_row, refuted_by}
use Rattle.sd_arith.specs.Lines.{Gives, AllGive, line_of, HasInput}

row-there : (rs : List Row) (i : ℕ) → i < length rs → slice_get rs i ≡ Some (slice_index_or rs i nothing)
row-there [] i h = absurd (omega arith)
row-there (r ∷ rs) zero h = refl
row-there (r ∷ rs) (suc i) h = row-there rs i (omega (arith, h))

le_yes : (a b : ℕ) → a ≤ b → nat_le a b ≡ true
le_yes a b h = go (nat_le a b) refl
  where
    go : (t : Bool) → nat_le a b ≡ t → t ≡ true
    go true e = refl
    go false e = absurd (omega (arith, leb-false a b e))

is_absurd-yes : (r : Row) → IsAbsurd r → is_absurd r ≡ true
is_absurd-yes r a = (λ i. is_empty (a.0 i) && int_lt r.bound (pos 0)) ∙ less (int_lt r.bound (pos 0)) refl
  where
    less : (t : Bool) → int_lt r.bound (pos 0) ≡ t → int_lt r.bound (pos 0) ≡ true
    less true e = e
    less false e = let b : r.bound <ℤ pos 0 = a.1 in absurd (omega (arith, ints, e))

within-front : (rs : List Row) (r : Row) (more : List Row) → AllWithin ((rs ++ r ∷ []) ++ more) → is_within r ≡ true
within-front [] r more a = a.0
within-front (s ∷ rs) r more a = within-front rs r more a.1

module _ (terms : List Tree) (trail : Trail) where
  given-at : (ls : List RowLine) (rs : List Row) (i : ℕ) → AllGive terms trail ls rs → i < length rs → Gives terms trail (slice_index_or ls i (FactLine 0)) (slice_index_or rs i nothing)
  given-at [] [] i g h = absurd (omega arith)
  given-at [] (r ∷ rs) i g h = absurd g
  given-at (l ∷ ls) [] i g h = absurd g
  given-at (l ∷ ls) (r ∷ rs) zero g h = g.0
  given-at (l ∷ ls) (r ∷ rs) (suc i) g h = given-at ls rs i g.1 (omega (arith, h))

  module _ (lines : List RowLine) (inputs : List Row) (g : AllGive terms trail lines inputs) where
    -- the line of a step gives the row that the step makes
    line-gives : (before : List Row) (s : RowStep) → IsStep inputs before s → row_of_line terms trail before (line_of lines s) ≡ made (row_made inputs before s)
    line-gives before (Input i) h = given-at lines inputs i g h before
    line-gives before (AddStep a m b n) h =
        ap (λ (o : Option Row). named_row o (λ r. named_row (slice_get before b) (λ s. if is_multiplier m && is_multiplier n then made (added m r n s) else wrong RowCause))) (row-there before a h.0)
        ∙ ap (λ (o : Option Row). named_row o (λ s. if is_multiplier m && is_multiplier n then made (added m (slice_index_or before a nothing) n s) else wrong RowCause)) (row-there before b h.1)
        ∙ (λ i. if (le_yes 1 m h.2 i && le_yes m (2 ^ 58) h.3 i) && (le_yes 1 n h.4 i && le_yes n (2 ^ 58) h.5 i) then made (added m (slice_index_or before a nothing) n (slice_index_or before b nothing)) else wrong RowCause)
    line-gives before (CutStep a) h = ap (λ (o : Option Row). named_row o (λ r. made (reduced r))) (row-there before a h)

    -- a row within the bounds, and then the lines that are left
    line-kept : (i : ℕ) (before : List Row) (s : RowStep) (ls : List RowLine) → IsStep inputs before s → is_within (row_made inputs before s) ≡ true
        → gives_row i (row_of_line terms trail before (line_of lines s)) (λ r. if_within i r (refuted_by terms trail (suc i) (before ++ r ∷ []) ls))
        ≡ refuted_by terms trail (suc i) (before ++ row_made inputs before s ∷ []) ls
    line-kept i before s ls h w =
        ap (λ (m : Made). gives_row i m (λ r. if_within i r (refuted_by terms trail (suc i) (before ++ r ∷ []) ls))) (line-gives before s h)
        ∙ ap (λ (b : Bool). if b then refuted_by terms trail (suc i) (before ++ row_made inputs before s ∷ []) ls else bad i Wide) w

    line-last : (i : ℕ) (before : List Row) (s : RowStep) → IsStep inputs before s → is_within (row_made inputs before s) ≡ true → IsAbsurd (row_made inputs before s)
        → refuted_by terms trail i before (line_of lines s ∷ []) ≡ leaves terms []
    line-last i before s h w a =
        ap (λ (m : Made). gives_row i m (λ r. if is_absurd r then if_within i r (leaves terms []) else bad i RowCause)) (line-gives before s h)
        ∙ (λ j. if is_absurd-yes (row_made inputs before s) a j then (if w j then leaves terms [] else bad i Wide) else bad i RowCause)

    lines-refute : (i : ℕ) (before : List Row) (s : RowStep) (ss : List RowStep) → AreSteps inputs before (s ∷ ss) → AllWithin (made_from inputs before (s ∷ ss))
        → (k : ℕ) → k + 1 ≡ length (made_from inputs before (s ∷ ss)) → IsAbsurd (slice_index_or (made_from inputs before (s ∷ ss)) k nothing)
        → refuted_by terms trail i before (map (line_of lines) (s ∷ ss)) ≡ leaves terms []
    lines-refute i before s [] h w k e a =
        let r : Row = row_made inputs before s in
        let here : k ≡ length before = omega (arith, e, length-append before (r ∷ [])) in
        let last : slice_index_or (before ++ r ∷ []) k nothing ≡ r = ap (λ (n : ℕ). slice_index_or (before ++ r ∷ []) n nothing) here ∙ at-end before r [] in
        line-last i before s h.0 (within-last before r w) (subst IsAbsurd last a)
      where
        within-last : (rs : List Row) (r : Row) → AllWithin (rs ++ r ∷ []) → is_within r ≡ true
        within-last [] r b = b.0
        within-last (q ∷ rs) r b = within-last rs r b.1
    lines-refute i before s (t ∷ ss) h w k e a =
        let r : Row = row_made inputs before s in
        let front = made_from-front inputs (before ++ r ∷ []) (t ∷ ss) in
        line-kept i before s (map (line_of lines) (t ∷ ss)) h.0 (within-front before r front.0 (subst AllWithin front.1 w))
        ∙ lines-refute (suc i) (before ++ r ∷ []) t ss h.1 w k e a

    -- the lines of a refutation close the branch
    pub refutation-closes_branch : (steps : List RowStep) → IsRefutation inputs steps → refuted_by terms trail 1 [] (map (line_of lines) steps) ≡ leaves terms []
    refutation-closes_branch [] h = absurd (omega (arith, h.refutes.ends.1))
    refutation-closes_branch (s ∷ ss) h = lines-refute 1 [] s ss h.refutes.are_steps h.within h.refutes.ends.0 h.refutes.ends.1 h.refutes.ends.2

-- the steps of a refutation take inputs that are there
steps-inputs : (n : ℕ) (inputs before : List Row) (steps : List RowStep) → length inputs ≡ n → AreSteps inputs before steps → All (HasInput n) steps
steps-inputs n inputs before [] e h = All-nil (HasInput n)
steps-inputs n inputs before (s ∷ ss) e h = All-cons (HasInput n) s ss (one s h.0) (steps-inputs n inputs (before ++ row_made inputs before s ∷ []) ss e h.1)
  where
    one : (s : RowStep) → IsStep inputs before s → HasInput n s
    one (Input i) a = omega (arith, a, e)
    one (AddStep a m b k) x = tt
    one (CutStep a) x = tt

given-long : (terms : List Tree) (trail : Trail) (ls : List RowLine) (rs : List Row) → AllGive terms trail ls rs → length rs ≡ length ls
given-long terms trail [] [] g = refl
given-long terms trail [] (r ∷ rs) g = absurd g
given-long terms trail (l ∷ ls) [] g = absurd g
given-long terms trail (l ∷ ls) (r ∷ rs) g = ap suc (given-long terms trail ls rs g.1)

pub refutation-inputs : (terms : List Tree) (trail : Trail) (lines : List RowLine) (inputs : List Row) (steps : List RowStep) → AllGive terms trail lines inputs → IsRefutation inputs steps → All (HasInput (length lines)) steps
refutation-inputs terms trail lines inputs steps g h = steps-inputs (length lines) inputs [] steps (given-long terms trail lines inputs g) h.refutes.are_steps
