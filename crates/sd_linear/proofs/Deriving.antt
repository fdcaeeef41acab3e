-- what more steps derive
use Rattle.std.proofs.Common.{◌≡◌, ℕ, zero, suc, ◌+◌, ◌<◌, ◌≤◌, List, [], ◌∷◌, ◌++◌, length, refl, sym, ap, ◌∙◌, subst, Bool, true, false, arith, append_assoc, append-nil, length-append, unsigned_abs, ℤ, pos, negsuc}
use Rattle.std.specs.Prelude.{slice_index_or, int_div}
use Rattle.std.proofs.lemmas.Int.{ints}
use Rattle.std.proofs.Math.Nat.{div-le_self}
use Rattle.std.proofs.lemmas.Bool.Decides.{nat_tests}
use Rattle.sd_rows.specs.declared.row.Row.{Row}
use Rattle.sd_linear.specs.declared.step.RowStep.{RowStep}
use Rattle.sd_linear.specs.declared.step.RowStep.TheVariants.{Cut}
use Rattle.sd_linear.specs.declared.list.DerivedRow.{DerivedRow}
use Rattle.sd_rows.specs.Rows.{Parts, IsProper, is_within, are_small, nothing, IsAbsurd}
use Rattle.sd_rows.specs.Divisors.{greatest_divisor, floor_div}
use Rattle.sd_rows.specs.RowOps.{reduced, over, sizes}
use Rattle.sd_linear.specs.RowSteps.{row_made, made_from, rows_made, IsStep, AreSteps, Refutes, IsUseful, AreUseful}
use Rattle.sd_linear.specs.Values.{AllWithin}
use Rattle.sd_linear.specs.DerivedRows.{IsDerivedRow, AreDerivedRows, with_cut}
use Rattle.sd_rows.proofs.Cuts.{greatest_divisor-divides}
use Rattle.sd_rows.proofs.Proper.{IsProper-over}

pub length-made_from : (inputs before : List Row) (ss : List RowStep) → length (made_from inputs before ss) ≡ length before + length ss
length-made_from inputs before [] = omega arith
length-made_from inputs before (s ∷ ss) =
    length-made_from inputs (before ++ row_made inputs before s ∷ []) ss ∙ omega (arith, length-append before (row_made inputs before s ∷ []))

pub made_from-append : (inputs before : List Row) (ss ts : List RowStep) → made_from inputs before (ss ++ ts) ≡ made_from inputs (made_from inputs before ss) ts
made_from-append inputs before [] ts = refl
made_from-append inputs before (s ∷ ss) ts = made_from-append inputs (before ++ row_made inputs before s ∷ []) ss ts

-- the rows made so far stay in front
pub made_from-front : (inputs before : List Row) (ss : List RowStep) → (more : List Row) × (made_from inputs before ss ≡ before ++ more)
made_from-front inputs before [] = ([], sym (append-nil before))
made_from-front inputs before (s ∷ ss) =
    let m = made_from-front inputs (before ++ row_made inputs before s ∷ []) ss in
    (row_made inputs before s ∷ m.0, m.1 ∙ append_assoc before (row_made inputs before s ∷ []) m.0)

pub AreSteps-append : (inputs before : List Row) (ss ts : List RowStep) → AreSteps inputs before ss → AreSteps inputs (made_from inputs before ss) ts → AreSteps inputs before (ss ++ ts)
AreSteps-append inputs before [] ts a b = b
AreSteps-append inputs before (s ∷ ss) ts a b = (a.0, AreSteps-append inputs (before ++ row_made inputs before s ∷ []) ss ts a.1 b)

pub AreUseful-append : (inputs before : List Row) (ss ts : List RowStep) → AreUseful inputs before ss → AreUseful inputs (made_from inputs before ss) ts → AreUseful inputs before (ss ++ ts)
AreUseful-append inputs before [] ts a b = b
AreUseful-append inputs before (s ∷ ss) ts a b = (a.0, AreUseful-append inputs (before ++ row_made inputs before s ∷ []) ss ts a.1 b)

pub at-front : (rs more : List Row) (i : ℕ) → i < length rs → slice_index_or (rs ++ more) i nothing ≡ slice_index_or rs i nothing
at-front [] more i h = absurd (omega arith)
at-front (r ∷ rs) more zero h = refl
at-front (r ∷ rs) more (suc i) h = at-front rs more i (omega arith)

pub at-end : (rs : List Row) (r : Row) (more : List Row) → slice_index_or (rs ++ r ∷ more) (length rs) nothing ≡ r
at-end [] r more = refl
at-end (s ∷ rs) r more = at-end rs r more

IsDerivedRow-more : (made more : List Row) (h : DerivedRow) → IsDerivedRow made h → IsDerivedRow (made ++ more) h
IsDerivedRow-more made more h k = record {
  there = omega (arith, k.there, length-append made more);
  row = at-front made more h.step k.there ∙ k.row;
  proper = k.proper;
  within = k.within;
}

pub AreDerivedRows-more : (made more : List Row) (hs : List DerivedRow) → AreDerivedRows made hs → AreDerivedRows (made ++ more) hs
AreDerivedRows-more made more [] a = tt
AreDerivedRows-more made more (h ∷ hs) a = (IsDerivedRow-more made more h a.0, AreDerivedRows-more made more hs a.1)

pub AreDerivedRows-extended : (inputs : List Row) (ss ts : List RowStep) (hs : List DerivedRow) → AreDerivedRows (rows_made inputs ss) hs → AreDerivedRows (rows_made inputs (ss ++ ts)) hs
AreDerivedRows-extended inputs ss ts hs a =
    let m = made_from-front inputs (rows_made inputs ss) ts in
    subst (λ (rs : List Row). AreDerivedRows rs hs) (sym (made_from-append inputs [] ss ts ∙ m.1)) (AreDerivedRows-more (rows_made inputs ss) m.0 hs a)

-- ---- the reduced row

pub IsProper-reduced : (r : Row) → IsProper r.parts → IsProper (reduced r).parts
IsProper-reduced r h = IsProper-over (greatest_divisor (sizes r.parts)) r.parts (greatest_divisor-divides (sizes r.parts)) h

quotient_at_most : (z : ℤ) (d : ℕ) → unsigned_abs (int_div z (pos d)) ≤ unsigned_abs z
quotient_at_most (pos a) d = div-le_self a d
quotient_at_most (negsuc a) d = omega (arith, ints, div-le_self (suc a) d)

floor_at_most : (z : ℤ) (d : ℕ) → unsigned_abs (floor_div z d) ≤ unsigned_abs z
floor_at_most (pos a) d = div-le_self a d
floor_at_most (negsuc a) d = omega (arith, div-le_self a d)

are_small-over : (ps : Parts) (d : ℕ) → are_small ps ≡ true → are_small (over ps d) ≡ true
are_small-over [] d h = refl
are_small-over (p ∷ ps) d h = grind (arith, nat_tests, quotient_at_most p.1 d, are_small-over ps d)

pub is_within-reduced : (r : Row) → is_within r ≡ true → is_within (reduced r) ≡ true
is_within-reduced r h =
    let d : ℕ = greatest_divisor (sizes r.parts) in
    grind (arith, nat_tests, floor_at_most r.bound d, are_small-over r.parts d)

-- ---- a step and its cut

pub AllWithin-append : (rs ss : List Row) → AllWithin rs → AllWithin ss → AllWithin (rs ++ ss)
AllWithin-append [] ss a b = b
AllWithin-append (r ∷ rs) ss a b = (a.0, AllWithin-append rs ss a.1 b)

pub record Derives (inputs : List Row) (new : List RowStep) (r : Row) : Type 0 where
  pub are_steps : AreSteps inputs [] new
  pub within : AllWithin (rows_made inputs new)
  pub useful : AreUseful inputs [] new
  pub count : length (rows_made inputs new) ≡ length new
  pub last : (k : ℕ) × (k + 1 ≡ length (rows_made inputs new)) × (slice_index_or (rows_made inputs new) k nothing ≡ reduced r)

rows_made-push : (inputs : List Row) (old : List RowStep) (how : RowStep) → rows_made inputs (old ++ how ∷ []) ≡ rows_made inputs old ++ row_made inputs (rows_made inputs old) how ∷ []
rows_made-push inputs old how = made_from-append inputs [] old (how ∷ [])

derives-one : (inputs : List Row) (old : List RowStep) (how : RowStep) (r : Row) → row_made inputs (rows_made inputs old) how ≡ r → IsStep inputs (rows_made inputs old) how → AreSteps inputs [] old
    → AllWithin (rows_made inputs old) → is_within r ≡ true → (AreSteps inputs [] (old ++ how ∷ [])) × AllWithin (rows_made inputs (old ++ how ∷ [])) × (slice_index_or (rows_made inputs (old ++ how ∷ [])) (length old) nothing ≡ r)
derives-one inputs old how r e s a w i =
    let before : List Row = rows_made inputs old in
    let n : length before ≡ length old = length-made_from inputs [] old ∙ omega arith in (
      AreSteps-append inputs [] old (how ∷ []) a (s, tt),
      subst AllWithin (sym (rows_made-push inputs old how)) (AllWithin-append before (row_made inputs before how ∷ []) w (ap is_within e ∙ i, tt)),
      ap (λ (l : List Row). slice_index_or l (length old) nothing) (rows_made-push inputs old how)
          ∙ ap (λ (k : ℕ). slice_index_or (before ++ row_made inputs before how ∷ []) k nothing) (sym n)
          ∙ at-end before (row_made inputs before how) []
          ∙ e,
    )

pub derives : (inputs : List Row) (old new : List RowStep) (how : RowStep) (r : Row) (is_cut : Bool) → row_made inputs (rows_made inputs old) how ≡ r → IsStep inputs (rows_made inputs old) how → IsUseful (rows_made inputs old) how
    → AreSteps inputs [] old → AllWithin (rows_made inputs old) → AreUseful inputs [] old → is_within r ≡ true → (is_cut ≡ false → r ≡ reduced r) → (is_cut ≡ true → 1 < greatest_divisor (sizes r.parts))
    → new ≡ old ++ with_cut how (length old) is_cut → Derives inputs new r
derives inputs old new how r false e s u a w v i c o f =
    let d = derives-one inputs old how r e s a w i in
    let n : length (rows_made inputs (old ++ how ∷ [])) ≡ length (old ++ how ∷ []) = length-made_from inputs [] (old ++ how ∷ []) ∙ omega arith in
    subst (λ (l : List RowStep). Derives inputs l r) (sym f)
    (record {
      are_steps = d.0;
      within = d.1;
      useful = AreUseful-append inputs [] old (how ∷ []) v (u, tt);
      count = n;
      last = (length old, omega (arith, length-append old (how ∷ [])), d.2 ∙ c refl);
    })
derives inputs old new how r true e s u a w v i c o f =
    let d = derives-one inputs old how r e s a w i in
    let mid : List RowStep = old ++ how ∷ [] in
    let m : length mid ≡ length old + 1 = length-append old (how ∷ []) in
    let p : length (rows_made inputs mid) ≡ length mid = length-made_from inputs [] mid ∙ omega arith in
    let made : row_made inputs (rows_made inputs mid) (Cut (length old)) ≡ reduced r = ap reduced d.2 in
    let g = derives-one inputs mid (Cut (length old)) (reduced r) made (omega arith) d.0 d.1 (is_within-reduced r i) in
    let n : length (rows_made inputs (mid ++ Cut (length old) ∷ [])) ≡ length (mid ++ Cut (length old) ∷ []) = length-made_from inputs [] (mid ++ Cut (length old) ∷ []) ∙ omega arith in
    let same : new ≡ mid ++ Cut (length old) ∷ [] = f ∙ sym (append_assoc old (how ∷ []) (Cut (length old) ∷ [])) in
    let x : 1 < greatest_divisor (sizes (slice_index_or (rows_made inputs mid) (length old) nothing).parts) = subst (λ (t : Row). 1 < greatest_divisor (sizes t.parts)) (sym d.2) (o refl) in
    subst (λ (l : List RowStep). Derives inputs l r) (sym same)
    (record {
      are_steps = g.0;
      within = g.1;
      useful = AreUseful-append inputs [] mid (Cut (length old) ∷ []) (AreUseful-append inputs [] old (how ∷ []) v (u, tt)) (x, tt);
      count = n;
      last = (length mid, omega (arith, length-append mid (Cut (length old) ∷ [])), g.2);
    })

-- ---- a derived row, and a refutation

pub IsDerivedRow-derived : (inputs : List Row) (new : List RowStep) (r : Row) (h : DerivedRow) → Derives inputs new r → IsProper r.parts → is_within r ≡ true → h.row ≡ reduced r → h.step + 1 ≡ length new
    → IsDerivedRow (rows_made inputs new) h
IsDerivedRow-derived inputs new r h d p w e f = record {
  there = omega (arith, d.count);
  row = let k : h.step ≡ d.last.0 = omega (arith, d.count, d.last.1) in ap (λ (i : ℕ). slice_index_or (rows_made inputs new) i nothing) k ∙ d.last.2 ∙ sym e;
  proper = subst (λ (s : Row). IsProper s.parts) (sym e) (IsProper-reduced r p);
  within = ap is_within e ∙ is_within-reduced r w;
}

pub Refutes-derived : (inputs : List Row) (new : List RowStep) (r : Row) → Derives inputs new r → IsAbsurd (reduced r) → Refutes inputs new
Refutes-derived inputs new r d a = record { are_steps = d.are_steps; ends = (d.last.0, d.last.1, subst IsAbsurd (sym d.last.2) a) }
