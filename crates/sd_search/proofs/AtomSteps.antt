-- the literals of the atoms, one number after another
use Rattle.std.proofs.Common.{◌≡◌, ℕ, zero, suc, ◌+◌, ◌<◌, List, [], ◌∷◌, ◌++◌, length, drop, get_or, refl, sym, ap, ◌∙◌, Bool, false, cond, Option, None, unwrap_or, arith, add-one}
use Rattle.std.proofs.lemmas.Grind.{common_steps}
use Rattle.sd_term.specs.declared.cube.Literal.{Literal}
use Rattle.sd_term.specs.Tree.{Tree}
use Rattle.sd_term.specs.Bank.{tree_at}
use Rattle.sd_cube.specs.Atoms.{is_atom}
use Rattle.sd_search.specs.Atoms.{atom_literals}

drop-tree : (ts : List Tree) (i : ℕ) → i < length ts → drop i ts ≡ tree_at ts i ∷ drop (i + 1) ts
drop-tree ts i h = grind (arith, common_steps)

drop-value : (ks : List (Option Bool)) (i : ℕ) (k : Option Bool) → i < length ks → k ≡ get_or ks i k → drop i ks ≡ k ∷ drop (i + 1) ks
drop-value ks i k h e = grind (arith, common_steps)

one-more : (terms : List Tree) (ks : List (Option Bool)) (i : ℕ) (k : Option Bool) → i < length terms → length ks ≡ length terms → k ≡ get_or ks i k → (q : Bool) → is_atom (tree_at terms i) ≡ q
    → atom_literals i (drop i terms) (drop i ks) ≡ cond q (record { term = i; value = unwrap_or k false } ∷ atom_literals (i + 1) (drop (i + 1) terms) (drop (i + 1) ks)) (atom_literals (i + 1) (drop (i + 1) terms) (drop (i + 1) ks))
one-more terms ks i k lt as_long e q a =
    (λ j. atom_literals i (drop-tree terms i lt j) (drop-value ks i k (omega (arith, lt, as_long)) e j))
    ∙ (λ j. cond (a j) (record { term = i; value = unwrap_or k false } ∷ atom_literals (sym (add-one i) j) (drop (i + 1) terms) (drop (i + 1) ks)) (atom_literals (sym (add-one i) j) (drop (i + 1) terms) (drop (i + 1) ks)))

pub without-atom : (terms : List Tree) (ks : List (Option Bool)) (i : ℕ) (old whole : List Literal) → i < length terms → length ks ≡ length terms → is_atom (tree_at terms i) ≡ false
    → whole ≡ old ++ atom_literals i (drop i terms) (drop i ks) → whole ≡ old ++ atom_literals (i + 1) (drop (i + 1) terms) (drop (i + 1) ks)
without-atom terms ks i old whole lt as_long a w =
    w ∙ ap (λ x. old ++ x) (one-more terms ks i (get_or ks i None) lt as_long (other ks i (get_or ks i None) (omega (arith, lt, as_long))) false a)
  where
    other : (xs : List (Option Bool)) (m : ℕ) (d : Option Bool) → m < length xs → get_or xs m None ≡ get_or xs m d
    other [] m d h = absurd (omega (arith, h))
    other (x ∷ xs) zero d h = refl
    other (x ∷ xs) (suc m) d h = other xs m d (omega (arith, h))
