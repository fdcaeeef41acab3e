-- sums, multiples and quotients of proper parts are proper
use Rattle.std.proofs.Common.{◌≡◌, ◌≢◌, ℕ, zero, suc, ◌<◌, ◌≤◌, [], ◌∷◌, refl, sym, ap, ◌∙◌, subst, true, arith, ℤ, pos, negsuc, ◌+ℤ◌, ◌*ℤ◌}
use Rattle.std.proofs.lemmas.Int.{ints}
use Rattle.std.proofs.Math.Nat.{mul-zero}
use Rattle.std.proofs.lemmas.Bool.Decides.{nat_tests}
use Rattle.sd_rows.specs.Rows.{Part, Parts, AllAbove, IsAscending, HasNoZero, IsProper}
use Rattle.sd_rows.specs.Divisors.{divides_all}
use Rattle.sd_rows.specs.RowOps.{unless_zero, with_part, sum_of, times, over, sizes}
use Rattle.sd_rows.proofs.Cuts.{exact, and-left, and-right}

pub AllAbove-lower : (j k : ℕ) (ps : Parts) → j < k → AllAbove k ps → AllAbove j ps
AllAbove-lower j k [] h a = tt
AllAbove-lower j k (p ∷ ps) h a = (omega (arith, a.0), AllAbove-lower j k ps h a.1)

pub AllAbove-unless_zero : (k : ℕ) (p : Part) (ps : Parts) → k < p.0 → AllAbove k ps → AllAbove k (unless_zero p ps)
AllAbove-unless_zero k p ps h a = grind arith

pub AllAbove-with_part : (k : ℕ) (p : Part) (ps : Parts) → k < p.0 → AllAbove k ps → AllAbove k (with_part p ps)
AllAbove-with_part k p [] h a = (h, tt)
AllAbove-with_part k p (q ∷ qs) h a = grind (arith, AllAbove-with_part k p qs h a.1, AllAbove-unless_zero k (p.0, p.1 +ℤ q.1) qs h a.1)

pub IsAscending-unless_zero : (p : Part) (ps : Parts) → AllAbove p.0 ps → IsAscending ps → IsAscending (unless_zero p ps)
IsAscending-unless_zero p ps a h = grind arith

pub IsAscending-with_part : (p : Part) (ps : Parts) → IsAscending ps → IsAscending (with_part p ps)
IsAscending-with_part p [] h = (tt, tt)
IsAscending-with_part p (q ∷ qs) h =
    grind (
      arith,
      nat_tests,
      IsAscending-with_part p qs h.1,
      λ (l : p.0 < q.0). AllAbove-lower p.0 q.0 qs l h.0,
      λ (l : q.0 < p.0). AllAbove-with_part q.0 p qs l h.0,
      λ (e : p.0 ≡ q.0). IsAscending-unless_zero (p.0, p.1 +ℤ q.1) qs (subst (λ (k : ℕ). AllAbove k qs) (sym e) h.0) h.1,
    )

pub HasNoZero-unless_zero : (p : Part) (ps : Parts) → HasNoZero ps → HasNoZero (unless_zero p ps)
HasNoZero-unless_zero p ps h = grind (arith, ints)

pub HasNoZero-with_part : (p : Part) (ps : Parts) → p.1 ≢ pos 0 → HasNoZero ps → HasNoZero (with_part p ps)
HasNoZero-with_part p [] n h = (n, tt)
HasNoZero-with_part p (q ∷ qs) n h = grind (arith, HasNoZero-with_part p qs n h.1, HasNoZero-unless_zero (p.0, p.1 +ℤ q.1) qs h.1)

pub IsProper-sum_of : (ps qs : Parts) → IsProper ps → IsProper qs → IsProper (sum_of ps qs)
IsProper-sum_of [] qs h k = k
IsProper-sum_of (p ∷ ps) qs h k =
    let i : IsProper (sum_of ps qs) = IsProper-sum_of ps qs (record { ascending = h.ascending.1; no_zero = h.no_zero.1 }) k in
    record { ascending = IsAscending-with_part p (sum_of ps qs) i.ascending; no_zero = HasNoZero-with_part p (sum_of ps qs) h.no_zero.0 i.no_zero }

-- ---- multiples

pub AllAbove-times : (k m : ℕ) (ps : Parts) → AllAbove k ps → AllAbove k (times m ps)
AllAbove-times k m [] a = tt
AllAbove-times k m (p ∷ ps) a = (a.0, AllAbove-times k m ps a.1)

times_not_zero : (m : ℕ) (c : ℤ) → 1 ≤ m → c ≢ pos 0 → (pos m *ℤ c) ≢ pos 0
times_not_zero (suc m) (pos zero) h n e = n refl
times_not_zero (suc m) (pos (suc c)) h n e = omega (arith, ints)
times_not_zero (suc m) (negsuc c) h n e = omega (arith, ints)
times_not_zero zero c h n e = omega arith

pub IsProper-times : (m : ℕ) (ps : Parts) → 1 ≤ m → IsProper ps → IsProper (times m ps)
IsProper-times m [] h k = record { ascending = tt; no_zero = tt }
IsProper-times m (p ∷ ps) h k =
    let i : IsProper (times m ps) = IsProper-times m ps h (record { ascending = k.ascending.1; no_zero = k.no_zero.1 }) in
    record { ascending = (AllAbove-times p.0 m ps k.ascending.0, i.ascending); no_zero = (times_not_zero m p.1 h k.no_zero.0, i.no_zero) }

-- ---- quotients

pub AllAbove-over : (k d : ℕ) (ps : Parts) → AllAbove k ps → AllAbove k (over ps d)
AllAbove-over k d [] a = tt
AllAbove-over k d (p ∷ ps) a = (a.0, AllAbove-over k d ps a.1)

pub IsProper-over : (d : ℕ) (ps : Parts) → divides_all d (sizes ps) ≡ true → IsProper ps → IsProper (over ps d)
IsProper-over d [] e k = record { ascending = tt; no_zero = tt }
IsProper-over d (p ∷ ps) e k =
    let i : IsProper (over ps d) = IsProper-over d ps (and-right _ _ e) (record { ascending = k.ascending.1; no_zero = k.no_zero.1 }) in
    record {
      ascending = (AllAbove-over p.0 d ps k.ascending.0, i.ascending);
      no_zero = ((λ z. k.no_zero.0 (sym (exact p.1 d (and-left _ _ e)) ∙ ap (λ (v : ℤ). pos d *ℤ v) z ∙ ap pos (mul-zero d))), i.no_zero);
    }
