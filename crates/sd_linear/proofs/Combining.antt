-- rows in which a column falls away
use Rattle.std.proofs.Common.{◌≡◌, ◌≢◌, ℕ, zero, suc, ◌+◌, ◌<◌, ◌≤◌, ◌^◌, List, [], ◌∷◌, ◌++◌, length, refl, sym, ap, ◌∙◌, subst, Bool, true, false, map, arith, unsigned_abs, filter, drop, get_or, append_assoc, append-nil, add-one, drop-cons, ℤ, pos, ◌≤ℤ◌, ◌<ℤ◌}
use Rattle.std.proofs.lemmas.Int.{ints}
use Rattle.std.specs.List.{flat_map}
use Rattle.std.proofs.lemmas.Bool.Decides.{nat_tests}
use Rattle.sd_rows.specs.declared.row.Row.{Row}
use Rattle.sd_linear.specs.declared.list.DerivedRow.{DerivedRow}
use Rattle.sd_rows.specs.Rows.{Part, Parts, AllAbove, IsAscending, IsProper, are_small, is_within, AllComputable}
use Rattle.sd_rows.specs.RowOps.{added, times, same_number}
use Rattle.sd_linear.specs.Elimination.{factor_of, combined, combined_with, combinations, eliminated, is_positive, is_negative, is_free, Next, continues, ends, after, come_in, all_come_in}
use Rattle.sd_linear.specs.declared.step.RowStep.{RowStep}
use Rattle.sd_linear.specs.declared.elimination.Stop.{Stop}
use Rattle.sd_linear.specs.declared.elimination.Stop.TheVariants.{Memory, Ends}
use Rattle.sd_linear.specs.RowSteps.{rows_made}
use Rattle.sd_linear.specs.DerivedRows.{rows_of, default_row, IsDerivedRow, AreDerivedRows, IsDerivation, Extends, has_column}
use Rattle.sd_linear.specs.Answers.{Stops}
use Rattle.sd_linear.proofs.Coming.{all_come_in-append}
use Rattle.sd_linear.proofs.Deriving.{AreDerivedRows-extended}
use Rattle.sd_rows.proofs.Proper.{IsProper-sum_of, IsProper-times}

pub IsProper-added : (m n : ℕ) (r s : Row) → 1 ≤ m → 1 ≤ n → IsProper r.parts → IsProper s.parts → IsProper (added m r n s).parts
IsProper-added m n r s h k p q = IsProper-sum_of (times m r.parts) (times n s.parts) (IsProper-times m r.parts h p) (IsProper-times n s.parts k q)

pub small-factor : (k : ℕ) (ps : Parts) → are_small ps ≡ true → unsigned_abs (factor_of k ps) ≤ 2 ^ 58
small-factor k [] h = omega arith
small-factor k (p ∷ ps) h = grind (arith, nat_tests, small-factor k ps)

above-none : (k j : ℕ) (ps : Parts) → k ≤ j → AllAbove j ps → factor_of k ps ≡ pos 0
above-none k j [] h a = refl
above-none k j (p ∷ ps) h a = grind (arith, above-none k j ps h a.1)

-- a column below that of a part is in neither that part nor those after it
pub factor_of-none : (k : ℕ) (ps : Parts) (i : ℕ) (z : Part) → i < length ps → IsAscending ps → k < (get_or ps i z).0 → factor_of k (drop i ps) ≡ pos 0
factor_of-none k [] i z h a l = absurd (omega arith)
factor_of-none k (p ∷ ps) zero z h a l = grind (arith, above-none k p.0 ps)
factor_of-none k (p ∷ ps) (suc i) z h a l = factor_of-none k ps i z (omega arith) a.1 l

pub proper-at : (hs : List DerivedRow) (i : ℕ) (h : DerivedRow) → i < length hs → h ≡ get_or hs i h → AllComputable (rows_of hs) → IsProper h.row.parts × (is_within h.row ≡ true)
proper-at [] i h l e a = absurd (omega arith)
proper-at (g ∷ gs) zero h l e a = subst (λ (f : DerivedRow). IsProper f.row.parts × (is_within f.row ≡ true)) (sym e) a.0
proper-at (g ∷ gs) (suc i) h l e a = proper-at gs i h (omega arith) e a.1

pub AllComputable-derived : (made : List Row) (hs : List DerivedRow) → AreDerivedRows made hs → AllComputable (rows_of hs)
AllComputable-derived made [] a = tt
AllComputable-derived made (h ∷ hs) a = ((a.0.proper, a.0.within), AllComputable-derived made hs a.1)

-- ---- the loops

-- the step that was asked for is now that the rows that are left come into the list
pub record Continues (inputs : List Row) (whole : Next) (k : ℕ) (left : List Row) (list : List DerivedRow) (old steps : List RowStep) : Type 0 where
  pub same : whole ≡ all_come_in k left (rows_of list)
  pub derived : IsDerivation inputs steps list
  pub extends : Extends old steps

Extends-trans : (a b c : List RowStep) → Extends a b → Extends b c → Extends a c
Extends-trans a b c e f = (e.0 ++ f.0, f.1 ∙ ap (λ (l : List RowStep). l ++ f.0) e.1 ∙ append_assoc a e.0 f.0)

pub Extends-self : (a : List RowStep) → Extends a a
Extends-self a = ([], sym (append-nil a))

pub continues-all : (inputs : List Row) (whole : Next) (k : ℕ) (rs left all : List Row) (list list' : List DerivedRow) (old steps steps' : List RowStep) → all ≡ rs ++ left
    → Continues inputs whole k all list old steps → all_come_in k rs (rows_of list) ≡ continues (rows_of list') → IsDerivation inputs steps' list' → Extends steps steps'
    → Continues inputs whole k left list' old steps'
continues-all inputs whole k rs left all list list' old steps steps' e c g d x = record {
  same = c.same ∙ ap (λ (l : List Row). all_come_in k l (rows_of list)) e ∙ all_come_in-append k rs left (rows_of list) ∙ ap (λ (n : Next). after n (all_come_in k left)) g;
  derived = d;
  extends = Extends-trans old steps steps' c.extends x;
}

pub continues-skip : (inputs : List Row) (whole : Next) (k : ℕ) (left all : List Row) (list : List DerivedRow) (old steps : List RowStep) → all ≡ left → Continues inputs whole k all list old steps → Continues inputs whole k left list old steps
continues-skip inputs whole k left all list old steps e c = subst (λ (l : List Row). Continues inputs whole k l list old steps) e c

after_one : (k : ℕ) (r : Row) (rows : List Row) (n : Next) → n ≡ come_in k r rows → after n (λ t. continues t) ≡ n
after_one k r rows (continues t) e = refl
after_one k r rows (ends a) e = refl

pub all_come_in-one : (k : ℕ) (r : Row) (rows : List Row) → all_come_in k (r ∷ []) rows ≡ come_in k r rows
all_come_in-one k r rows = after_one k r rows (come_in k r rows) refl

pub stops-all : (inputs : List Row) (whole : Next) (k : ℕ) (rs left all : List Row) (list : List DerivedRow) (old steps : List RowStep) (stop : Stop) → all ≡ rs ++ left
    → Continues inputs whole k all list old steps → Stops inputs stop (all_come_in k rs (rows_of list)) → Stops inputs stop whole
stops-all inputs whole k rs left all list old steps Memory e c s = tt
stops-all inputs whole k rs left all list old steps (Ends answer) e c s =
    (c.same ∙ ap (λ (l : List Row). all_come_in k l (rows_of list)) e ∙ all_come_in-append k rs left (rows_of list) ∙ ap (λ (n : Next). after n (all_come_in k left)) s.0, s.1)

pub IsDerivedRow-extended : (inputs : List Row) (old new : List RowStep) (h : DerivedRow) → Extends old new → IsDerivedRow (rows_made inputs old) h → IsDerivedRow (rows_made inputs new) h
IsDerivedRow-extended inputs old new h e k =
    let a : AreDerivedRows (rows_made inputs (old ++ e.0)) (h ∷ []) = AreDerivedRows-extended inputs old e.0 (h ∷ []) (k, tt) in
    subst (λ (s : List RowStep). IsDerivedRow (rows_made inputs s) h) (sym e.1) a.0

pub AreDerivedRows-extends : (inputs : List Row) (old new : List RowStep) (hs : List DerivedRow) → Extends old new → AreDerivedRows (rows_made inputs old) hs → AreDerivedRows (rows_made inputs new) hs
AreDerivedRows-extends inputs old new hs e k = subst (λ (s : List RowStep). AreDerivedRows (rows_made inputs s) hs) (sym e.1) (AreDerivedRows-extended inputs old e.0 hs k)

pub derived-at : (made : List Row) (hs : List DerivedRow) (i : ℕ) → i < length hs → AreDerivedRows made hs → IsDerivedRow made (get_or hs i default_row)
derived-at made [] i l a = absurd (omega arith)
derived-at made (h ∷ hs) zero l a = a.0
derived-at made (h ∷ hs) (suc i) l a = derived-at made hs i (omega arith) a.1

-- what is left at a place

abbrev pub from_place : ℕ → List DerivedRow → List Row
from_place i hs = rows_of (drop i hs)

pub from_place-next : (hs : List DerivedRow) (i : ℕ) → i < length hs → from_place i hs ≡ (get_or hs i default_row).row ∷ from_place (i + 1) hs
from_place-next hs i l = ap rows_of (drop-cons hs i default_row l) ∙ ap (λ (j : ℕ). (get_or hs i default_row).row ∷ rows_of (drop j hs)) (sym (add-one i))

pub with-here : (k : ℕ) (r s : Row) (ss rows : List Row) → rows ≡ s ∷ ss → is_positive k s ≡ true → combined_with k r rows ≡ combined k r s ∷ combined_with k r ss
with-here k r s ss rows e p = ap (combined_with k r) e ∙ rw p refl

pub with-past : (k : ℕ) (r s : Row) (ss rows : List Row) → rows ≡ s ∷ ss → is_positive k s ≡ false → combined_with k r rows ≡ combined_with k r ss
with-past k r s ss rows e p = ap (combined_with k r) e ∙ rw p refl

abbrev pub combined_from : ℕ → List Row → List Row → List Row
combined_from k all rows = flat_map (λ r. combined_with k r all) (filter (is_negative k) rows)

pub from-here : (k : ℕ) (all : List Row) (s : Row) (ss rows : List Row) → rows ≡ s ∷ ss → is_negative k s ≡ true → combined_from k all rows ≡ combined_with k s all ++ combined_from k all ss
from-here k all s ss rows e p = ap (combined_from k all) e ∙ rw p refl

pub from-past : (k : ℕ) (all : List Row) (s : Row) (ss rows : List Row) → rows ≡ s ∷ ss → is_negative k s ≡ false → combined_from k all rows ≡ combined_from k all ss
from-past k all s ss rows e p = ap (combined_from k all) e ∙ rw p refl

pub item-at : (hs : List DerivedRow) (i : ℕ) (h : DerivedRow) → i < length hs → h ≡ get_or hs i h → get_or hs i default_row ≡ h
item-at hs i h l e = same hs i l ∙ sym e
  where
    same : (gs : List DerivedRow) (j : ℕ) → j < length gs → get_or gs j default_row ≡ get_or gs j h
    same [] j m = absurd (omega arith)
    same (g ∷ gs) zero m = refl
    same (g ∷ gs) (suc j) m = same gs j (omega arith)

pub IsDerivedRow-item : (made : List Row) (hs : List DerivedRow) (i : ℕ) (h : DerivedRow) → i < length hs → h ≡ get_or hs i h → AreDerivedRows made hs → IsDerivedRow made h
IsDerivedRow-item made hs i h l e a = subst (IsDerivedRow made) (item-at hs i h l e) (derived-at made hs i l a)

pub place-is : (hs : List DerivedRow) (i : ℕ) (h : DerivedRow) → i < length hs → h ≡ get_or hs i h → from_place i hs ≡ h.row ∷ from_place (i + 1) hs
place-is hs i h l e = from_place-next hs i l ∙ ap (λ (g : DerivedRow). g.row ∷ from_place (i + 1) hs) (item-at hs i h l e)

pub not_positive : (k : ℕ) (r : Row) (z : ℤ) → z ≡ factor_of k r.parts → z ≤ℤ pos 0 → is_positive k r ≡ false
not_positive k r z e h = grind (arith, ints)

pub not_negative : (k : ℕ) (r : Row) (z : ℤ) → z ≡ factor_of k r.parts → pos 0 ≤ℤ z → is_negative k r ≡ false
not_negative k r z e h = grind (arith, ints)

pub positive : (k : ℕ) (r : Row) (z : ℤ) → z ≡ factor_of k r.parts → pos 0 <ℤ z → is_positive k r ≡ true
positive k r z e h = grind (arith, ints)

pub negative : (k : ℕ) (r : Row) (z : ℤ) → z ≡ factor_of k r.parts → z <ℤ pos 0 → is_negative k r ≡ true
negative k r z e h = grind (arith, ints)

-- ---- the rows without the column

-- one more row that passes a test, or one that does not
pub filter-here : (f : Row → Bool) (made made' : List DerivedRow) (h : DerivedRow) (all rest whole : List Row) → all ≡ h.row ∷ rest → f h.row ≡ true → made' ≡ made ++ h ∷ []
    → rows_of made ++ filter f all ≡ whole → rows_of made' ++ filter f rest ≡ whole
filter-here f made made' h all rest whole e p g w =
    ap (λ (l : List Row). l ++ filter f rest) (ap rows_of g ∙ rows_of-append made (h ∷ []))
    ∙ append_assoc (rows_of made) (h.row ∷ []) (filter f rest)
    ∙ ap (λ (l : List Row). rows_of made ++ l) (sym (ap (filter f) e ∙ (rw p refl)))
    ∙ w
  where
    rows_of-append : (hs gs : List DerivedRow) → rows_of (hs ++ gs) ≡ rows_of hs ++ rows_of gs
    rows_of-append [] gs = refl
    rows_of-append (i ∷ hs) gs = ap (λ (l : List Row). i.row ∷ l) (rows_of-append hs gs)

pub filter-past : (f : Row → Bool) (made : List DerivedRow) (h : DerivedRow) (all rest whole : List Row) → all ≡ h.row ∷ rest → f h.row ≡ false
    → rows_of made ++ filter f all ≡ whole → rows_of made ++ filter f rest ≡ whole
filter-past f made h all rest whole e p w = ap (λ (l : List Row). rows_of made ++ l) (sym (ap (filter f) e ∙ (rw p refl))) ∙ w

pub free : (k : ℕ) (r : Row) (z : ℤ) → z ≡ factor_of k r.parts → z ≡ pos 0 → is_free k r ≡ true
free k r z e h = ap (λ (y : ℤ). same_number y (pos 0)) (sym e ∙ h)

pub not_free : (k : ℕ) (r : Row) (z : ℤ) → z ≡ factor_of k r.parts → z ≢ pos 0 → is_free k r ≡ false
not_free k r z e h = grind (arith, ints)

-- ---- only rows with the column are combined

filter-filter : (f g : Row → Bool) (rows : List Row) → ((r : Row) → f r ≡ true → g r ≡ true) → filter f (filter g rows) ≡ filter f rows
filter-filter f g [] h = refl
filter-filter f g (r ∷ rs) h = grind (arith, h r, filter-filter f g rs h)

positive-has : (k : ℕ) (r : Row) → is_positive k r ≡ true → has_column k r ≡ true
positive-has k r e = grind (arith, ints)

negative-has : (k : ℕ) (r : Row) → is_negative k r ≡ true → has_column k r ≡ true
negative-has k r e = grind (arith, ints)

pub combinations-with : (k : ℕ) (rows with : List Row) → with ≡ filter (has_column k) rows → combined_from k with with ≡ combinations k rows
combinations-with k rows with e =
    ap (λ (l : List Row). combined_from k l l) e
    ∙ ap (λ (l : List Row). flat_map (λ r. combined_with k r (filter (has_column k) rows)) l) (filter-filter (is_negative k) (has_column k) rows (negative-has k))
    ∙ ap (λ (l : List Row). flat_map (λ r. map (combined k r) l) (filter (is_negative k) rows)) (filter-filter (is_positive k) (has_column k) rows (positive-has k))

pub eliminated-is : (k : ℕ) (rows with free : List Row) → with ≡ filter (has_column k) rows → free ≡ filter (is_free k) rows → all_come_in k (combinations k with) free ≡ eliminated k rows
eliminated-is k rows with free e f = ap (all_come_in k (combinations k with)) f ∙ ap (λ (rs : List Row). all_come_in k rs (filter (is_free k) rows)) (combinations-with k rows with e)
