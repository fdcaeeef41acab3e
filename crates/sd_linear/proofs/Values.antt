-- the values of columns, and what is left of a bound
use Rattle.std.proofs.Common.{◌≡◌, ◌≢◌, ℕ, zero, suc, ◌+◌, ◌<◌, ◌≤◌, ◌^◌, List, [], ◌∷◌, length, drop, get_or, refl, sym, ap, ◌∙◌, Bool, true, false, arith, ◌==◌, unsigned_abs, add-one, drop-cons, Some, None, ℤ, pos, ◌-ℤ◌, ◌*ℤ◌}
use Rattle.std.specs.Prelude.{if◌then◌else◌}
use Rattle.std.proofs.lemmas.List.{drop_all}
use borrow.Author.Tests.{eq-eqb}
use Rattle.std.proofs.lemmas.Bool.{ne_eqb}
use Rattle.std.proofs.lemmas.Bool.Decides.{nat_tests}
use Rattle.sd_rows.specs.declared.row.Row.{Row}
use Rattle.sd_rows.specs.Rows.{Part, Parts, are_small, is_within}
use Rattle.sd_linear.specs.Elimination.{value_of, left_of, fits}
use Rattle.sd_linear.specs.Values.{AllNear}

pub value_of-end : (ks : List ℕ) (vs : List ℤ) (i j : ℕ) → length vs ≤ i → value_of (drop i ks) (drop i vs) j ≡ pos 0
value_of-end ks vs i j h = ap (λ (l : List ℤ). value_of (drop i ks) l j) (drop_all i vs h) ∙ none (drop i ks)
  where
    none : (js : List ℕ) → value_of js [] j ≡ pos 0
    none [] = refl
    none (k ∷ js) = refl

pub value_of-step : (ks : List ℕ) (vs : List ℤ) (i j : ℕ) → i < length ks → i < length vs → get_or ks i 0 ≢ j → value_of (drop i ks) (drop i vs) j ≡ value_of (drop (i + 1) ks) (drop (i + 1) vs) j
value_of-step ks vs i j h l n =
    ap (λ (js : List ℕ). value_of js (drop i vs) j) (drop-cons ks i 0 h)
    ∙ ap (λ (us : List ℤ). value_of (get_or ks i 0 ∷ drop (suc i) ks) us j) (drop-cons vs i (pos 0) l)
    ∙ ap (λ (b : Bool). if b then get_or vs i (pos 0) else value_of (drop (suc i) ks) (drop (suc i) vs) j) (ne_eqb (get_or ks i 0) j n)
    ∙ ap (λ (m : ℕ). value_of (drop m ks) (drop m vs) j) (sym (add-one i))

pub near-value : (ks : List ℕ) (vs : List ℤ) (j : ℕ) → AllNear vs → unsigned_abs (value_of ks vs j) ≤ 2 ^ 56
near-value [] vs j a = omega arith
near-value (k ∷ ks) [] j a = omega arith
near-value (k ∷ ks) (v ∷ vs) j a = grind (arith, near-value ks vs j a.1)

pub small-at : (ps : Parts) (i : ℕ) (z : Part) → i < length ps → are_small ps ≡ true → unsigned_abs (get_or ps i z).1 ≤ 2 ^ 58
small-at [] i z h e = absurd (omega arith)
small-at (p ∷ ps) zero z h e = grind (arith, nat_tests)
small-at (p ∷ ps) (suc i) z h e = grind (arith, λ (f : are_small ps ≡ true). small-at ps i z (omega arith) f)

-- ---- one part

opened : (k : ℕ) (x : ℕ → ℤ) (s : ℤ) (ps : Parts) (i : ℕ) (z : Part) → i < length ps → left_of k x s (drop i ps) ≡ left_of k x s (get_or ps i z ∷ drop (i + 1) ps)
opened k x s ps i z h = ap (left_of k x s) (drop-cons ps i z h) ∙ ap (λ (j : ℕ). left_of k x s (get_or ps i z ∷ drop j ps)) (sym (add-one i))

pub left_of-skip : (k : ℕ) (x : ℕ → ℤ) (s : ℤ) (ps : Parts) (i : ℕ) (z : Part) → i < length ps → (get_or ps i z).0 ≡ k → left_of k x s (drop i ps) ≡ left_of k x s (drop (i + 1) ps)
left_of-skip k x s ps i z h e = opened k x s ps i z h ∙ (let p : Part = get_or ps i z in let t : (p.0 == k) ≡ true = eq-eqb p.0 k e in rw t refl)

pub left_of-part : (k : ℕ) (x : ℕ → ℤ) (s : ℤ) (ps : Parts) (i : ℕ) (z : Part) → i < length ps → (get_or ps i z).0 ≢ k
    → left_of k x s (drop i ps) ≡ (let t = s -ℤ (get_or ps i z).1 *ℤ x (get_or ps i z).0 in if fits t then left_of k x t (drop (i + 1) ps) else None)
left_of-part k x s ps i z h n = opened k x s ps i z h ∙ (let p : Part = get_or ps i z in let t : (p.0 == k) ≡ false = ne_eqb p.0 k n in rw t refl)

pub left_of-some : (k : ℕ) (x : ℕ → ℤ) (s t : ℤ) (ps : Parts) (i : ℕ) (z : Part) → i < length ps → (get_or ps i z).0 ≢ k
    → Some t ≡ (let d = s -ℤ (get_or ps i z).1 *ℤ x (get_or ps i z).0 in if fits d then Some d else None) → left_of k x s (drop i ps) ≡ left_of k x t (drop (i + 1) ps)
left_of-some k x s t ps i z h n e = grind (arith, left_of-part k x s ps i z h n)

pub left_of-none : (k : ℕ) (x : ℕ → ℤ) (s : ℤ) (ps : Parts) (i : ℕ) (z : Part) → i < length ps → (get_or ps i z).0 ≢ k
    → None ≡ (let d = s -ℤ (get_or ps i z).1 *ℤ x (get_or ps i z).0 in if fits d then Some d else None) → left_of k x s (drop i ps) ≡ None
left_of-none k x s ps i z h n e = grind (arith, left_of-part k x s ps i z h n)

pub left_of-fits : (k : ℕ) (x : ℕ → ℤ) (s t : ℤ) (ps : Parts) → fits s ≡ true → left_of k x s ps ≡ Some t → fits t ≡ true
left_of-fits k x s t [] f e = let j : s ≡ t = cc in ap fits (sym j) ∙ f
left_of-fits k x s t (p ∷ ps) f e = grind (arith, left_of-fits k x s t ps, left_of-fits k x (s -ℤ p.1 *ℤ x p.0) t ps)

pub bound-fits : (r : Row) → is_within r ≡ true → fits r.bound ≡ true
bound-fits r w = grind (arith, nat_tests)
