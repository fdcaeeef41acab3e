-- the columns of rows, and how one falls away
use Rattle.std.proofs.Common.{◌≡◌, ◌⊎◌, inl, inr, ℕ, ◌+◌, ◌*◌, ◌/◌, ◌%◌, ◌≤◌, List, [], ◌∷◌, refl, sym, ap, ◌∙◌, subst, true, arith, ◌==◌, unsigned_abs, ℤ, pos, negsuc, ◌+ℤ◌, ◌*ℤ◌, ◌<ℤ◌}
use Rattle.std.specs.Prelude.{if◌then◌else◌}
use Rattle.std.proofs.lemmas.Int.{ints}
use Rattle.std.proofs.lemmas.Nat.{div-add-mod'}
use borrow.Author.Tests.{eqb-true}
use Rattle.sd_rows.specs.declared.row.Row.{Row}
use Rattle.sd_rows.specs.Rows.{Part, Parts, sum_at, AllAbove, IsAscending, HasNoZero, IsProper}
use Rattle.sd_rows.specs.Divisors.{greatest_divisor, divides_all}
use Rattle.sd_rows.specs.RowOps.{unless_zero, with_part, sum_of, times, over, added}
use Rattle.sd_linear.specs.Elimination.{factor_of, with_column, with_columns, columns_and, columns}
use Rattle.sd_rows.proofs.Sums.{sum_at-sum_of, sum_at-times}
use Rattle.sd_rows.proofs.Cuts.{greatest_divisor-divides, and-left, and-right}
use Rattle.sd_rows.proofs.Proper.{IsProper-sum_of, IsProper-times}
use Rattle.sd_linear.proofs.Choosing.{Puts, same-above}

abbrev pub IsIn : ℕ → List ℕ → Type 0
IsIn j [] = ⊥
IsIn j (k ∷ ks) = (j ≡ k) ⊎ IsIn j ks

abbrev pub ColumnsIn : List ℕ → Parts → Type 0
ColumnsIn ks [] = Unit {0}
ColumnsIn ks (p ∷ ps) = IsIn p.0 ks × ColumnsIn ks ps

ColumnsIn-unless_zero : (ks : List ℕ) (p : Part) (ps : Parts) → IsIn p.0 ks → ColumnsIn ks ps → ColumnsIn ks (unless_zero p ps)
ColumnsIn-unless_zero ks p ps h a = grind arith

ColumnsIn-with_part : (ks : List ℕ) (p : Part) (ps : Parts) → IsIn p.0 ks → ColumnsIn ks ps → ColumnsIn ks (with_part p ps)
ColumnsIn-with_part ks p [] h a = (h, tt)
ColumnsIn-with_part ks p (q ∷ qs) h a = grind (arith, ColumnsIn-with_part ks p qs h a.1, ColumnsIn-unless_zero ks (p.0, p.1 +ℤ q.1) qs h a.1)

ColumnsIn-sum_of : (ks : List ℕ) (ps qs : Parts) → ColumnsIn ks ps → ColumnsIn ks qs → ColumnsIn ks (sum_of ps qs)
ColumnsIn-sum_of ks [] qs a b = b
ColumnsIn-sum_of ks (p ∷ ps) qs a b = ColumnsIn-with_part ks p (sum_of ps qs) a.0 (ColumnsIn-sum_of ks ps qs a.1 b)

ColumnsIn-times : (ks : List ℕ) (m : ℕ) (ps : Parts) → ColumnsIn ks ps → ColumnsIn ks (times m ps)
ColumnsIn-times ks m [] a = tt
ColumnsIn-times ks m (p ∷ ps) a = (a.0, ColumnsIn-times ks m ps a.1)

pub ColumnsIn-over : (ks : List ℕ) (d : ℕ) (ps : Parts) → ColumnsIn ks ps → ColumnsIn ks (over ps d)
ColumnsIn-over ks d [] a = tt
ColumnsIn-over ks d (p ∷ ps) a = (a.0, ColumnsIn-over ks d ps a.1)

pub ColumnsIn-added : (ks : List ℕ) (m n : ℕ) (r s : Row) → ColumnsIn ks r.parts → ColumnsIn ks s.parts → ColumnsIn ks (added m r n s).parts
ColumnsIn-added ks m n r s a b = ColumnsIn-sum_of ks (times m r.parts) (times n s.parts) (ColumnsIn-times ks m r.parts a) (ColumnsIn-times ks n s.parts b)

-- ---- the factor of a column is the sum where that column is 1 and each other 0

one_at : ℕ → ℕ → ℤ
one_at k j = if j == k then pos 1 else pos 0

factor-sum : (k : ℕ) (ps : Parts) → IsAscending ps → sum_at (one_at k) ps ≡ factor_of k ps
unfolding one_at
factor-sum k [] a = refl
factor-sum k (p ∷ ps) a = grind (arith, ints, factor-sum k ps a.1, λ (e : p.0 ≡ k). same-above k ps (subst (λ (j : ℕ). AllAbove j ps) e a.0))

pub factor_of-added : (k m n : ℕ) (r s : Row) → 1 ≤ m → 1 ≤ n → IsProper r.parts → IsProper s.parts → factor_of k (added m r n s).parts ≡ pos m *ℤ factor_of k r.parts +ℤ pos n *ℤ factor_of k s.parts
factor_of-added k m n r s h i p q =
    sym (factor-sum k (added m r n s).parts (IsProper-sum_of (times m r.parts) (times n s.parts) (IsProper-times m r.parts h p) (IsProper-times n s.parts i q)).ascending)
    ∙ sum_at-sum_of (one_at k) (times m r.parts) (times n s.parts)
    ∙ ap (λ (v : ℤ). v +ℤ sum_at (one_at k) (times n s.parts)) (sum_at-times (one_at k) m r.parts ∙ ap (λ (v : ℤ). pos m *ℤ v) (factor-sum k r.parts p.ascending))
    ∙ ap (λ (v : ℤ). pos m *ℤ factor_of k r.parts +ℤ v) (sum_at-times (one_at k) n s.parts ∙ ap (λ (v : ℤ). pos n *ℤ v) (factor-sum k s.parts q.ascending))

-- ---- a column falls away

crossed : (p q d : ℕ) → p % d ≡ 0 → q % d ≡ 0 → (q / d) * p ≡ (p / d) * q
crossed p q d e f =
    let a : p / d * d ≡ p = let g : p / d * d + p % d ≡ p = div-add-mod' p d in omega arith in
    let b : q / d * d ≡ q = let g : q / d * d + q % d ≡ q = div-add-mod' q d in omega arith in
    ap (λ (n : ℕ). (q / d) * n) (sym a) ∙ omega arith ∙ ap (λ (n : ℕ). (p / d) * n) b

opposite : (c e : ℤ) (m n : ℕ) → c <ℤ pos 0 → pos 0 <ℤ e → m * unsigned_abs c ≡ n * unsigned_abs e → pos m *ℤ c +ℤ pos n *ℤ e ≡ pos 0
opposite (pos a) e m n h i f = absurd (omega (arith, ints))
opposite (negsuc a) (negsuc b) m n h i f = absurd (omega (arith, ints))
opposite (negsuc a) (pos b) m n h i f = omega (arith, ints)

pub factor_of-combined : (k m n d : ℕ) (r s : Row) → d ≡ greatest_divisor (unsigned_abs (factor_of k r.parts) ∷ unsigned_abs (factor_of k s.parts) ∷ []) → m ≡ unsigned_abs (factor_of k s.parts) / d → n ≡ unsigned_abs (factor_of k r.parts) / d
    → 1 ≤ m → 1 ≤ n → factor_of k r.parts <ℤ pos 0 → pos 0 <ℤ factor_of k s.parts → IsProper r.parts → IsProper s.parts → factor_of k (added m r n s).parts ≡ pos 0
factor_of-combined k m n d r s e f g h i j l p q =
    let a : ℕ = unsigned_abs (factor_of k r.parts) in
    let b : ℕ = unsigned_abs (factor_of k s.parts) in
    let t : divides_all d (a ∷ b ∷ []) ≡ true = ap (λ (y : ℕ). divides_all y (a ∷ b ∷ [])) e ∙ greatest_divisor-divides (a ∷ b ∷ []) in
    let u : a % d ≡ 0 = eqb-true (a % d) 0 (and-left (a % d == 0) (divides_all d (b ∷ [])) t) in
    let v : b % d ≡ 0 = eqb-true (b % d) 0 (and-left (b % d == 0) true (and-right (a % d == 0) (divides_all d (b ∷ [])) t)) in
    factor_of-added k m n r s h i p q
    ∙ opposite (factor_of k r.parts) (factor_of k s.parts) m n j l (ap (λ (y : ℕ). y * a) f ∙ crossed a b d u v ∙ ap (λ (y : ℕ). y * b) (sym g))

pub without : (k : ℕ) (ks : List ℕ) (ps : Parts) → HasNoZero ps → factor_of k ps ≡ pos 0 → ColumnsIn (k ∷ ks) ps → ColumnsIn ks ps
without k ks [] n e a = tt
without k ks (p ∷ ps) n e a = grind (arith, n.0, without k ks ps n.1)

pub sum-elsewhere : (k : ℕ) (v : ℤ) (x x' : ℕ → ℤ) (ps : Parts) → Puts k v x x' → HasNoZero ps → factor_of k ps ≡ pos 0 → sum_at x' ps ≡ sum_at x ps
sum-elsewhere k v x x' [] p n e = refl
sum-elsewhere k v x x' (q ∷ qs) p n e = grind (arith, n.0, p.elsewhere q.0, sum-elsewhere k v x x' qs p n.1)

-- ---- the columns of the rows

IsIn-with_column : (k j : ℕ) (ks : List ℕ) → IsIn j (k ∷ ks) → IsIn j (with_column k ks)
IsIn-with_column k j [] h = h
IsIn-with_column k j (i ∷ is) h = grind (arith, IsIn-with_column k j is)

IsIn-with_columns : (j : ℕ) (ps : Parts) (ks : List ℕ) → IsIn j ks → IsIn j (with_columns ps ks)
IsIn-with_columns j [] ks h = h
IsIn-with_columns j (p ∷ ps) ks h = IsIn-with_columns j ps (with_column p.0 ks) (IsIn-with_column p.0 j ks (inr h))

IsIn-and : (j : ℕ) (ks : List ℕ) (rs : List Row) → IsIn j ks → IsIn j (columns_and ks rs)
IsIn-and j ks [] h = h
IsIn-and j ks (r ∷ rs) h = IsIn-and j (with_columns r.parts ks) rs (IsIn-with_columns j r.parts ks h)

ColumnsIn-more : (ks js : List ℕ) (ps : Parts) → ((j : ℕ) → IsIn j ks → IsIn j js) → ColumnsIn ks ps → ColumnsIn js ps
ColumnsIn-more ks js [] f a = tt
ColumnsIn-more ks js (p ∷ ps) f a = (f p.0 a.0, ColumnsIn-more ks js ps f a.1)

ColumnsIn-with_columns : (ps : Parts) (ks : List ℕ) → ColumnsIn (with_columns ps ks) ps
ColumnsIn-with_columns [] ks = tt
ColumnsIn-with_columns (p ∷ ps) ks = (IsIn-with_columns p.0 ps (with_column p.0 ks) (IsIn-with_column p.0 p.0 ks (inl refl)), ColumnsIn-with_columns ps (with_column p.0 ks))

abbrev pub AllColumnsIn : List ℕ → List Row → Type 0
AllColumnsIn ks [] = Unit {0}
AllColumnsIn ks (r ∷ rs) = ColumnsIn ks r.parts × AllColumnsIn ks rs

in-and : (ks : List ℕ) (rs : List Row) → AllColumnsIn (columns_and ks rs) rs
in-and ks [] = tt
in-and ks (r ∷ rs) =
    (ColumnsIn-more (with_columns r.parts ks) (columns_and (with_columns r.parts ks) rs) r.parts (λ j h. IsIn-and j (with_columns r.parts ks) rs h) (ColumnsIn-with_columns r.parts ks), in-and (with_columns r.parts ks) rs)

pub in-columns : (rs : List Row) → AllColumnsIn (columns rs) rs
in-columns rs = in-and [] rs
