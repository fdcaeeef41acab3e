-- two ascending lists of parts are added from the front
use Rattle.std.proofs.Common.{◌≡◌, ◌≢◌, ℕ, ◌<◌, ◌≤◌, [], ◌∷◌, ◌++◌, refl, sym, ap, ◌∙◌, subst, true, arith, append_assoc, length, ℤ, pos, ◌+ℤ◌, ◌*ℤ◌}
use Rattle.std.specs.Prelude.{unsigned_abs, nat_le, ◌^◌}
use Rattle.std.proofs.lemmas.Int.{ints}
use Rattle.std.proofs.lemmas.Bool.Decides.{nat_tests}
use Rattle.sd_rows.specs.Rows.{Part, Parts, AllAbove, IsProper, are_small}
use Rattle.sd_rows.specs.RowOps.{same_number, unless_zero, with_part, sum_of, times}
use Rattle.sd_rows.proofs.Cuts.{and-right}
use Rattle.sd_rows.proofs.Proper.{AllAbove-lower, AllAbove-with_part, AllAbove-times}

pub with_part-front : (p : Part) (ps : Parts) → AllAbove p.0 ps → with_part p ps ≡ p ∷ ps
with_part-front p [] a = refl
with_part-front p (q ∷ qs) a = grind (arith, nat_tests)

with_part-later : (p q : Part) (qs : Parts) → q.0 < p.0 → with_part p (q ∷ qs) ≡ q ∷ with_part p qs
with_part-later p q qs h = grind (arith, nat_tests)

with_part-met : (p q : Part) (qs : Parts) → p.0 ≡ q.0 → with_part p (q ∷ qs) ≡ unless_zero (p.0, p.1 +ℤ q.1) qs
with_part-met p q qs e = grind (arith, nat_tests)

AllAbove-sum_of : (k : ℕ) (ps qs : Parts) → AllAbove k ps → AllAbove k qs → AllAbove k (sum_of ps qs)
AllAbove-sum_of k [] qs a b = b
AllAbove-sum_of k (p ∷ ps) qs a b = AllAbove-with_part k p (sum_of ps qs) a.0 (AllAbove-sum_of k ps qs a.1 b)

sum_of-second : (q : Part) (ps qs : Parts) → AllAbove q.0 ps → sum_of ps (q ∷ qs) ≡ q ∷ sum_of ps qs
sum_of-second q [] qs a = refl
sum_of-second q (p ∷ ps) qs a = ap (with_part p) (sum_of-second q ps qs a.1) ∙ with_part-later p q (sum_of ps qs) a.0

-- ---- the loop's invariant

pub record Merges (m n : ℕ) (made left right whole : Parts) : Type 0 where
  pub sum : made ++ sum_of (times m left) (times n right) ≡ whole
  pub first : IsProper left
  pub second : IsProper right
  pub first_small : are_small left ≡ true
  pub second_small : are_small right ≡ true

rest_of : (p : Part) (ps : Parts) → IsProper (p ∷ ps) → IsProper ps
rest_of p ps h = record { ascending = h.ascending.1; no_zero = h.no_zero.1 }

scaled : ℕ → Part → Part
scaled m p = (p.0, pos m *ℤ p.1)

-- the first list ends, or its column comes first
pub merges-first : (m n : ℕ) (made made' left right whole : Parts) (p : Part) (ps : Parts) → left ≡ p ∷ ps → AllAbove p.0 right → made' ≡ made ++ (p.0, pos m *ℤ p.1) ∷ []
    → Merges m n made left right whole → Merges m n made' ps right whole
merges-first m n made made' left right whole p ps e a g h =
    let j : Merges m n made (p ∷ ps) right whole = subst (λ (l : Parts). Merges m n made l right whole) e h in
    let f : sum_of (times m (p ∷ ps)) (times n right) ≡ (p.0, pos m *ℤ p.1) ∷ sum_of (times m ps) (times n right) =
    with_part-front (p.0, pos m *ℤ p.1) (sum_of (times m ps) (times n right))
    (AllAbove-sum_of p.0 (times m ps) (times n right) (AllAbove-times p.0 m ps j.first.ascending.0) (AllAbove-times p.0 n right a)) in
    record {
      sum = ap (λ (l : Parts). l ++ sum_of (times m ps) (times n right)) g ∙ append_assoc made ((p.0, pos m *ℤ p.1) ∷ []) (sum_of (times m ps) (times n right)) ∙ ap (λ (l : Parts). made ++ l) (sym f) ∙ j.sum;
      first = rest_of p ps j.first;
      second = j.second;
      first_small = and-right (nat_le (unsigned_abs p.1) (2 ^ 58)) (are_small ps) j.first_small;
      second_small = j.second_small;
    }

pub merges-second : (m n : ℕ) (made made' left right whole : Parts) (p q : Part) (ps qs : Parts) → left ≡ p ∷ ps → right ≡ q ∷ qs → q.0 < p.0 → made' ≡ made ++ (q.0, pos n *ℤ q.1) ∷ []
    → Merges m n made left right whole → Merges m n made' left qs whole
merges-second m n made made' left right whole p q ps qs e f a g h =
    let j : Merges m n made left (q ∷ qs) whole = subst (λ (l : Parts). Merges m n made left l whole) f h in
    let i : IsProper (p ∷ ps) = subst IsProper e j.first in
    let b : AllAbove q.0 left = subst (AllAbove q.0) (sym e) (a, AllAbove-lower q.0 p.0 ps a i.ascending.0) in
    let s : sum_of (times m left) (times n (q ∷ qs)) ≡ (q.0, pos n *ℤ q.1) ∷ sum_of (times m left) (times n qs) =
    sum_of-second (q.0, pos n *ℤ q.1) (times m left) (times n qs) (AllAbove-times q.0 m left b) in
    record {
      sum = ap (λ (l : Parts). l ++ sum_of (times m left) (times n qs)) g ∙ append_assoc made ((q.0, pos n *ℤ q.1) ∷ []) (sum_of (times m left) (times n qs)) ∙ ap (λ (l : Parts). made ++ l) (sym s) ∙ j.sum;
      first = j.first;
      second = rest_of q qs j.second;
      first_small = j.first_small;
      second_small = and-right (nat_le (unsigned_abs q.1) (2 ^ 58)) (are_small qs) j.second_small;
    }

sum_of-met : (m n : ℕ) (p q : Part) (ps qs : Parts) → p.0 ≡ q.0 → AllAbove q.0 ps
    → sum_of (times m (p ∷ ps)) (times n (q ∷ qs)) ≡ unless_zero (p.0, pos m *ℤ p.1 +ℤ pos n *ℤ q.1) (sum_of (times m ps) (times n qs))
sum_of-met m n p q ps qs e a =
    ap (with_part (p.0, pos m *ℤ p.1)) (sum_of-second (q.0, pos n *ℤ q.1) (times m ps) (times n qs) (AllAbove-times q.0 m ps a))
    ∙ with_part-met (p.0, pos m *ℤ p.1) (q.0, pos n *ℤ q.1) (sum_of (times m ps) (times n qs)) e

unless_zero-no : (p : Part) (ps : Parts) → p.1 ≢ pos 0 → unless_zero p ps ≡ p ∷ ps
unless_zero-no p ps h = grind (arith, ints)

unless_zero-yes : (p : Part) (ps : Parts) → p.1 ≡ pos 0 → unless_zero p ps ≡ ps
unless_zero-yes p ps h = rw (ap (λ (v : ℤ). same_number v (pos 0)) h) refl

pub merges-both : (m n : ℕ) (made left right whole : Parts) (p q : Part) (ps qs : Parts) → left ≡ p ∷ ps → right ≡ q ∷ qs → q.0 ≤ p.0 → p.0 ≤ q.0 → (pos m *ℤ p.1 +ℤ pos n *ℤ q.1) ≢ pos 0
    → (made' : Parts) → made' ≡ made ++ (p.0, pos m *ℤ p.1 +ℤ pos n *ℤ q.1) ∷ []
    → Merges m n made left right whole → Merges m n made' ps qs whole
merges-both m n made left right whole p q ps qs e f a b z made' g h =
    let j : Merges m n made (p ∷ ps) (q ∷ qs) whole = subst (λ (l : Parts). Merges m n made (p ∷ ps) l whole) f (subst (λ (l : Parts). Merges m n made l right whole) e h) in
    let k : p.0 ≡ q.0 = omega arith in
    let t : Part = (p.0, pos m *ℤ p.1 +ℤ pos n *ℤ q.1) in
    let s : sum_of (times m (p ∷ ps)) (times n (q ∷ qs)) ≡ t ∷ sum_of (times m ps) (times n qs) =
    sum_of-met m n p q ps qs k (subst (λ (i : ℕ). AllAbove i ps) k j.first.ascending.0) ∙ unless_zero-no t (sum_of (times m ps) (times n qs)) z in
    record {
      sum = ap (λ (l : Parts). l ++ sum_of (times m ps) (times n qs)) g ∙ append_assoc made (t ∷ []) (sum_of (times m ps) (times n qs)) ∙ ap (λ (l : Parts). made ++ l) (sym s) ∙ j.sum;
      first = rest_of p ps j.first;
      second = rest_of q qs j.second;
      first_small = and-right (nat_le (unsigned_abs p.1) (2 ^ 58)) (are_small ps) j.first_small;
      second_small = and-right (nat_le (unsigned_abs q.1) (2 ^ 58)) (are_small qs) j.second_small;
    }

pub merges-none : (m n : ℕ) (made left right whole : Parts) (p q : Part) (ps qs : Parts) → left ≡ p ∷ ps → right ≡ q ∷ qs → q.0 ≤ p.0 → p.0 ≤ q.0 → (pos m *ℤ p.1 +ℤ pos n *ℤ q.1) ≡ pos 0
    → Merges m n made left right whole → Merges m n made ps qs whole
merges-none m n made left right whole p q ps qs e f a b z h =
    let j : Merges m n made (p ∷ ps) (q ∷ qs) whole = subst (λ (l : Parts). Merges m n made (p ∷ ps) l whole) f (subst (λ (l : Parts). Merges m n made l right whole) e h) in
    let k : p.0 ≡ q.0 = omega arith in
    let t : Part = (p.0, pos m *ℤ p.1 +ℤ pos n *ℤ q.1) in
    let s : sum_of (times m (p ∷ ps)) (times n (q ∷ qs)) ≡ sum_of (times m ps) (times n qs) =
    sum_of-met m n p q ps qs k (subst (λ (i : ℕ). AllAbove i ps) k j.first.ascending.0) ∙ unless_zero-yes t (sum_of (times m ps) (times n qs)) z in
    record {
      sum = ap (λ (l : Parts). made ++ l) (sym s) ∙ j.sum;
      first = rest_of p ps j.first;
      second = rest_of q qs j.second;
      first_small = and-right (nat_le (unsigned_abs p.1) (2 ^ 58)) (are_small ps) j.first_small;
      second_small = and-right (nat_le (unsigned_abs q.1) (2 ^ 58)) (are_small qs) j.second_small;
    }

pub above-second : (k : ℕ) (right : Parts) (q : Part) (qs : Parts) → right ≡ q ∷ qs → IsProper right → k < q.0 → AllAbove k right
above-second k right q qs e h l =
    let i : IsProper (q ∷ qs) = subst IsProper e h in subst (AllAbove k) (sym e) (l, AllAbove-lower k q.0 qs l i.ascending.0)

pub above-none : (k : ℕ) (right : Parts) → length right ≡ 0 → AllAbove k right
above-none k [] e = tt
above-none k (q ∷ qs) e = absurd (omega arith)
