-- a value that is chosen for a column meets the rows with that column
use Rattle.std.proofs.Common.{◌≡◌, ◌≢◌, ℕ, zero, suc, ◌*◌, List, [], ◌∷◌, refl, sym, ap, ◌∙◌, subst, Bool, true, false, arith, ◌==◌, Option, Some, None, ℤ, pos, negsuc, ◌+ℤ◌, ◌-ℤ◌, ◌*ℤ◌, ◌≤ℤ◌, neg_ℤ}
use Rattle.std.specs.Prelude.{if◌then◌else◌, option_and_then}
use Rattle.std.proofs.lemmas.Int.{ints, clamps}
use borrow.Author.Tests.{eqb-true}
use borrow.Author.Differences.{neg_is}
use Rattle.sd_rows.specs.declared.row.Row.{Row}
use Rattle.sd_rows.specs.Rows.{Parts, sum_at, Holds, AllAbove, IsAscending, IsProper}
use Rattle.sd_rows.specs.RowOps.{same_number}
use Rattle.sd_rows.specs.Divisors.{floor_div}
use Rattle.sd_linear.specs.Elimination.{factor_of, is_free, fits, left_of, Range, from, up_to, limited, range_in, nearest}
use Rattle.sd_rows.proofs.Integers.{reassoc, zero_*ℤ, zero_left}
use Rattle.sd_rows.proofs.Cuts.{floor_div-below}

abbrev pub IsAtLeast : Option ℤ → ℤ → Type 0
IsAtLeast None v = Unit {0}
IsAtLeast (Some low) v = low ≤ℤ v

abbrev pub IsAtMost : Option ℤ → ℤ → Type 0
IsAtMost None v = Unit {0}
IsAtMost (Some high) v = v ≤ℤ high

abbrev pub InRange : Range → ℤ → Type 0
InRange (low, high) v = IsAtLeast low v × IsAtMost high v

in-from : (z v : ℤ) (low high : Option ℤ) → InRange (from z (low, high)) v → (z ≤ℤ v) × InRange (low, high) v
in-from z v None high h = (h.0, (tt, h.1))
in-from z v (Some low) high h = (omega (arith, ints, clamps, h.0), (omega (arith, ints, clamps, h.0), h.1))

in-up_to : (z v : ℤ) (low high : Option ℤ) → InRange (up_to z (low, high)) v → (v ≤ℤ z) × InRange (low, high) v
in-up_to z v low None h = (h.1, (h.0, tt))
in-up_to z v low (Some high) h = (omega (arith, ints, clamps, h.1), (h.0, omega (arith, ints, clamps, h.1)))

-- the negative of a number that is at least minus a quotient
neg_times : (c : ℕ) (v : ℤ) → negsuc c *ℤ v ≡ pos (suc c) *ℤ neg_ℤ v
neg_times c v = omega (arith, ints, ap (λ (n : ℕ). suc c * n) (neg_is v).0, ap (λ (n : ℕ). suc c * n) (neg_is v).1)

flipped : (c : ℕ) (s v : ℤ) → neg_ℤ (floor_div s (suc c)) ≤ℤ v → (negsuc c *ℤ v) ≤ℤ s
flipped c s v h =
    let g : neg_ℤ v ≤ℤ floor_div s (suc c) = omega (arith, ints) in
    let f : (pos (suc c) *ℤ neg_ℤ v) ≤ℤ s = floor_div-below (neg_ℤ v) s (suc c) (omega arith) g in
    subst (λ (z : ℤ). z ≤ℤ s) (sym (neg_times c v)) f

in-limited : (c s v : ℤ) (low high : Option ℤ) → c ≢ pos 0 → InRange (limited c s (low, high)) v → ((c *ℤ v) ≤ℤ s) × InRange (low, high) v
in-limited (pos zero) s v low high n h = absurd (n refl)
in-limited (pos (suc c)) s v low high n h = let g = in-up_to (floor_div s (suc c)) v low high h in (floor_div-below v s (suc c) (omega arith) g.0, g.1)
in-limited (negsuc c) s v low high n h = let g = in-from (neg_ℤ (floor_div s (suc c))) v low high h in (flipped c s v g.0, g.1)

-- ---- what is left of a bound

-- x' is v at k, and x elsewhere
pub record Puts (k : ℕ) (v : ℤ) (x x' : ℕ → ℤ) : Type 0 where
  pub here : x' k ≡ v
  pub elsewhere : (j : ℕ) → (j == k) ≡ false → x' j ≡ x j

pub same-above : (k : ℕ) (ps : Parts) → AllAbove k ps → factor_of k ps ≡ pos 0
same-above k [] a = refl
same-above k (p ∷ ps) a = grind (arith, same-above k ps a.1)

pub left-of-sum : (k : ℕ) (v : ℤ) (x x' : ℕ → ℤ) (s t : ℤ) (ps : Parts) → Puts k v x x' → IsAscending ps → left_of k x s ps ≡ Some t → sum_at x' ps +ℤ t ≡ factor_of k ps *ℤ v +ℤ s
left-of-sum k v x x' s t [] p a e = let f : s ≡ t = cc in omega (arith, ints)
left-of-sum k v x x' s t (q ∷ qs) p a e =
    go (q.0 == k) refl (fits (s -ℤ q.1 *ℤ x q.0)) e (λ e'. left-of-sum k v x x' s t qs p a.1 e') (λ e'. left-of-sum k v x x' (s -ℤ q.1 *ℤ x q.0) t qs p a.1 e')
  where
    go : (b : Bool) → (q.0 == k) ≡ b → (c : Bool) → (if b then left_of k x s qs else (if c then left_of k x (s -ℤ q.1 *ℤ x q.0) qs else None)) ≡ Some t
        → (left_of k x s qs ≡ Some t → sum_at x' qs +ℤ t ≡ factor_of k qs *ℤ v +ℤ s)
        → (left_of k x (s -ℤ q.1 *ℤ x q.0) qs ≡ Some t → sum_at x' qs +ℤ t ≡ factor_of k qs *ℤ v +ℤ (s -ℤ q.1 *ℤ x q.0))
        → (q.1 *ℤ x' q.0 +ℤ sum_at x' qs) +ℤ t ≡ (if b then q.1 else factor_of k qs) *ℤ v +ℤ s
    go true f c g h i =
        let z : factor_of k qs ≡ pos 0 = same-above k qs (subst (λ (j : ℕ). AllAbove j qs) (eqb-true q.0 k f) a.0) in
        let y : sum_at x' qs +ℤ t ≡ s = h g ∙ ap (λ (w : ℤ). w *ℤ v +ℤ s) z ∙ ap (λ (w : ℤ). w +ℤ s) (zero_*ℤ v) ∙ zero_left s in
        sym (reassoc (q.1 *ℤ x' q.0) (sum_at x' qs) t) ∙ ap (λ (w : ℤ). q.1 *ℤ x' q.0 +ℤ w) y
        ∙ ap (λ (w : ℤ). q.1 *ℤ w +ℤ s) (ap x' (eqb-true q.0 k f) ∙ p.here)
    go false f true g h i =
        let y : sum_at x' qs +ℤ t ≡ factor_of k qs *ℤ v +ℤ (s -ℤ q.1 *ℤ x q.0) = i g in
        let w : q.1 *ℤ x' q.0 ≡ q.1 *ℤ x q.0 = ap (λ (z : ℤ). q.1 *ℤ z) (p.elsewhere q.0 f) in
        close (q.1 *ℤ x' q.0) (q.1 *ℤ x q.0) (sum_at x' qs) t (factor_of k qs *ℤ v) s w y
      where
        close : (m n u t f s : ℤ) → m ≡ n → u +ℤ t ≡ f +ℤ (s -ℤ n) → (m +ℤ u) +ℤ t ≡ f +ℤ s
        close m n u t f s e g = omega (arith, ints)
    go false f false g h i = absurd (cc)

-- ---- the rows with the column

abbrev pub AllProper : List Row → Type 0
AllProper [] = Unit {0}
AllProper (r ∷ rs) = IsProper r.parts × AllProper rs

-- a row holds if it has the column, whatever holds of the others
abbrev pub HoldIfBound : ℕ → (ℕ → ℤ) → List Row → Type 0
HoldIfBound k x [] = Unit {0}
HoldIfBound k x (r ∷ rs) = (is_free k r ≡ false → Holds x r) × HoldIfBound k x rs

bounded : (k : ℕ) (v : ℤ) (x x' : ℕ → ℤ) (r : Row) (t : ℤ) → Puts k v x x' → IsProper r.parts → left_of k x r.bound r.parts ≡ Some t → (factor_of k r.parts *ℤ v) ≤ℤ t → Holds x' r
bounded k v x x' r t p h e l =
    let s : sum_at x' r.parts +ℤ t ≡ factor_of k r.parts *ℤ v +ℤ r.bound = left-of-sum k v x x' r.bound t r.parts p h.ascending e in omega (arith, ints)

pub range-holds : (k : ℕ) (v : ℤ) (x x' : ℕ → ℤ) (rows : List Row) (low high : Option ℤ) (range : Range) → Puts k v x x' → AllProper rows → range_in k x rows (low, high) ≡ Some range → InRange range v
    → HoldIfBound k x' rows × InRange (low, high) v
range-holds k v x x' [] low high range p a e h = (tt, subst (λ (g : Range). InRange g v) (let f : range ≡ (low, high) = cc in f) h)
range-holds k v x x' (r ∷ rs) low high range p a e h =
    go (is_free k r) refl (left_of k x r.bound r.parts) refl e (λ l m f. range-holds k v x x' rs l m range p a.1 f h)
  where
    go : (b : Bool) → is_free k r ≡ b → (o : Option ℤ) → left_of k x r.bound r.parts ≡ o
        → (if b then range_in k x rs (low, high) else option_and_then (λ s. range_in k x rs (limited (factor_of k r.parts) s (low, high))) o) ≡ Some range
        → ((l m : Option ℤ) → range_in k x rs (l, m) ≡ Some range → HoldIfBound k x' rs × InRange (l, m) v)
        → ((is_free k r ≡ false → Holds x' r) × HoldIfBound k x' rs) × InRange (low, high) v
    go true f o g m i = let j = i low high m in (((λ y. absurd (cc)), j.0), j.1)
    go false f None g m i = absurd (cc)
    go false f (Some t) g m i =
        let n : factor_of k r.parts ≢ pos 0 = λ z. absurd (let q : is_free k r ≡ true = ap (λ (y : ℤ). same_number y (pos 0)) z in cc) in
        let j = i (limited (factor_of k r.parts) t (low, high)).0 (limited (factor_of k r.parts) t (low, high)).1 m in
        let w = in-limited (factor_of k r.parts) t v low high n j.1 in
        (((λ y. bounded k v x x' r t p a.0 g w.0), j.0), w.1)

pub nearest-in : (low high : Option ℤ) (v : ℤ) → nearest (low, high) ≡ Some v → InRange (low, high) v
nearest-in None None v e = (tt, tt)
nearest-in (Some low) None v e = grind (arith, ints, clamps)
nearest-in None (Some high) v e = grind (arith, ints, clamps)
nearest-in (Some low) (Some high) v e = grind (arith, ints, clamps)
