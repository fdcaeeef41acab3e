-- classes of terms, merged along true equalities
use Rattle.std.proofs.Common.{◌≡◌, ℕ, ◌+◌, ◌<◌, List, [], ◌∷◌, length, refl, sym, ap, ◌∙◌, subst, Bool, true, false, eqb, ◌⊎◌, inl, inr, Option, if◌then◌else◌, arith}
use Rattle.std.specs.List.{AllByRecursion}
use Rattle.std.proofs.lemmas.Bool.{cases_lt, eqb-true, eq-eqb}
use Rattle.sd_term.specs.declared.node.Op.TheVariants as op
use Rattle.sd_term.specs.Tree.{Tree, same_tree-true}
use Rattle.sd_term.specs.Bank.{tree_at}
use Rattle.sd_term.specs.Distinct.{AreDistinct}
use Rattle.sd_term.proofs.Shared.{same-number}
use Rattle.sd_forms.specs.FactRows.{part_at}
use Rattle.sd_kernel.specs.Known.{Trail, known}
use Rattle.sd_kernel.specs.Steps.{is_eq, leads}
use Rattle.sd_cube.specs.Required.{IsTrueEq, AreJoined}
use Rattle.sd_term.proofs.Numbers.{has-at}
use Rattle.sd_euf.specs.declared.find.Pair.{Pair}
use Rattle.sd_euf.specs.Closed.{AreClasses}
use Rattle.sd_euf.specs.Judged.{HasValues, IsPair}
use Rattle.sd_euf.specs.Links.{IsEqAt, class_at, moved, SidesMeet, AreMerged}
use Rattle.sd_euf.proofs.Shapes.{Place, has-place, value-at}
use Rattle.sd_euf.proofs.Joined.{AreSides, sides-of, other-left, Begins, begins, joined-same, joined-on, joined-by, joined-back}

module _ (terms : List Tree) (values : List (Option Bool)) where
  -- the numbers of the terms
  pub merged-none : (classes : List ℕ) → AreDistinct terms → length classes ≡ length terms → ((k : ℕ) → k < length terms → class_at classes k ≡ k) → AreMerged terms values classes 0
  merged-none classes distinct e f = record {
    long = e;
    equal = λ i j hi hj s. ap (class_at classes) (same-number terms i j distinct hi hj s);
    sides = λ k h. absurd (omega (arith, h));
    joined = λ i j hi hj s trail v. joined-same terms trail (tree_at terms i) (tree_at terms j) (ap (tree_at terms) (sym (f i hi) ∙ s ∙ f j hj));
  }

  -- an equality that isn't true
  pub merged-skip : (classes : List ℕ) (n : ℕ) → AreMerged terms values classes n → (IsEqAt terms values n true → ⊥) → AreMerged terms values classes (n + 1)
  merged-skip classes n m h = record {
    long = m.long;
    equal = m.equal;
    joined = m.joined;
    sides = λ k lt e. elim (cases_lt k n) [
      | inl below ↦ m.sides k below e
      | inr above ↦ (let same : k ≡ n = omega (arith, lt, above) in absurd (h (subst (λ i. IsEqAt terms values i true) same e)))
    ];
  }

  -- a true equality
  module _ (classes more : List ℕ) (n : ℕ) (pair : Pair) (m : AreMerged terms values classes n) (e : IsEqAt terms values n true) (p : IsPair terms op.Eq (tree_at terms n) pair) (long : length more ≡ length classes)
      (moves : (k : ℕ) → k < length classes → class_at more k ≡ moved (class_at classes pair.right) (class_at classes pair.left) (class_at classes k)) where
    abbrev old : ℕ → ℕ
    old k = class_at classes k

    moves-at : (k : ℕ) → k < length terms → class_at more k ≡ moved (old pair.right) (old pair.left) (old k)
    moves-at k h = moves k (subst (λ x. k < x) (sym m.long) h)

    keeps : (i j : ℕ) → i < length terms → j < length terms → old i ≡ old j → class_at more i ≡ class_at more j
    keeps i j hi hj s = moves-at i hi ∙ ap (moved (old pair.right) (old pair.left)) s ∙ sym (moves-at j hj)

    moved-cases : (from to c : ℕ) → ((c ≡ from) × (moved from to c ≡ to)) ⊎ (moved from to c ≡ c)
    moved-cases from to c = go (eqb c from) refl
      where
        go : (b : Bool) → eqb c from ≡ b → ((c ≡ from) × (moved from to c ≡ to)) ⊎ (moved from to c ≡ c)
        go true q = inl (eqb-true c from q, ap (λ b. if b then to else c) q)
        go false q = inr (ap (λ b. if b then to else c) q)

    moved-from : (from to : ℕ) → moved from to from ≡ to
    moved-from from to = ap (λ b. if b then to else from) (eq-eqb from from refl)

    moved-to : (from to : ℕ) → ((to ≡ from) × (moved from to to ≡ to)) ⊎ (moved from to to ≡ to) → moved from to to ≡ to
    moved-to from to (inl a) = a.1
    moved-to from to (inr a) = a

    sides-one : class_at more pair.left ≡ class_at more pair.right
    sides-one =
        moves-at pair.left p.left ∙ moved-to (old pair.right) (old pair.left) (moved-cases (old pair.right) (old pair.left) (old pair.left))
        ∙ sym (moved-from (old pair.right) (old pair.left)) ∙ sym (moves-at pair.right p.right)

    meet : SidesMeet terms more (tree_at terms n)
    meet = record {
      left = pair.left;
      right = pair.right;
      left_below = p.left;
      right_below = p.right;
      left_is = sym (ap (λ t. part_at t 0) p.is);
      right_is = sym (ap (λ t. part_at t 1) p.is);
      one = sides-one;
    }

    -- the left and the right side are joined
    across : (trail : Trail) → HasValues terms trail values → AreJoined terms trail (tree_at terms pair.left) (tree_at terms pair.right)
    across trail v =
        joined-by terms trail (tree_at terms n) (tree_at terms pair.left) (tree_at terms pair.right)
        (e.equality, (has-at terms (tree_at terms n) n e.below refl, sym (value-at terms trail values n v e.below) ∙ e.value))
        (other-left (tree_at terms n) (tree_at terms pair.left) (tree_at terms pair.right) (tree_at terms pair.left) p.is refl)

    pub merged-more : AreMerged terms values more (n + 1)
    merged-more = record {
      long = long ∙ m.long;
      equal = λ i j hi hj s. keeps i j hi hj (m.equal i j hi hj s);
      sides = λ k lt q. elim (cases_lt k n) [
        | inl below ↦ still k (m.sides k below q)
        | inr above ↦ (let same : n ≡ k = omega (arith, lt, above) in subst (λ i. SidesMeet terms more (tree_at terms i)) same meet)
      ];
      joined = λ i j hi hj s trail v. by-cases i j hi hj trail v (sym (moves-at i hi) ∙ s ∙ moves-at j hj) (moved-cases (old pair.right) (old pair.left) (old i)) (moved-cases (old pair.right) (old pair.left) (old j));
    }
      where
        still : (k : ℕ) → SidesMeet terms classes (tree_at terms k) → SidesMeet terms more (tree_at terms k)
        still k s = record {
          left = s.left;
          right = s.right;
          left_below = s.left_below;
          right_below = s.right_below;
          left_is = s.left_is;
          right_is = s.right_is;
          one = keeps s.left s.right s.left_below s.right_below s.one;
        }

        by-cases : (i j : ℕ) → i < length terms → j < length terms → (trail : Trail) → HasValues terms trail values → moved (old pair.right) (old pair.left) (old i) ≡ moved (old pair.right) (old pair.left) (old j)
            → ((old i ≡ old pair.right) × (moved (old pair.right) (old pair.left) (old i) ≡ old pair.left)) ⊎ (moved (old pair.right) (old pair.left) (old i) ≡ old i)
            → ((old j ≡ old pair.right) × (moved (old pair.right) (old pair.left) (old j) ≡ old pair.left)) ⊎ (moved (old pair.right) (old pair.left) (old j) ≡ old j)
            → AreJoined terms trail (tree_at terms i) (tree_at terms j)
        by-cases i j hi hj trail v s (inl a) (inl b) = m.joined i j hi hj (a.0 ∙ sym b.0) trail v
        by-cases i j hi hj trail v s (inr a) (inr b) = m.joined i j hi hj (sym a ∙ s ∙ b) trail v
        by-cases i j hi hj trail v s (inl a) (inr b) =
            joined-on terms trail (tree_at terms i) (tree_at terms pair.right) (tree_at terms j) (m.joined i pair.right hi p.right a.0 trail v)
            (joined-on terms trail (tree_at terms pair.right) (tree_at terms pair.left) (tree_at terms j) (joined-back terms trail (tree_at terms pair.left) (tree_at terms pair.right) (across trail v))
            (m.joined pair.left j p.left hj (sym a.1 ∙ s ∙ b) trail v))
        by-cases i j hi hj trail v s (inr a) (inl b) =
            joined-on terms trail (tree_at terms i) (tree_at terms pair.left) (tree_at terms j) (m.joined i pair.left hi p.left (sym a ∙ s ∙ b.1) trail v)
            (joined-on terms trail (tree_at terms pair.left) (tree_at terms pair.right) (tree_at terms j) (across trail v) (m.joined pair.right j p.right hj (sym b.0) trail v))

  -- ---- all equalities

  along : (classes : List ℕ) (trail : Trail) → AreMerged terms values classes (length terms) → HasValues terms trail values → (a : Tree) (es : List Tree) (c : Tree)
      → AllByRecursion (λ e. IsTrueEq terms trail e) es → leads a es c ≡ true → (i j : ℕ) → i < length terms → j < length terms → tree_at terms i ≡ a → tree_at terms j ≡ c → class_at classes i ≡ class_at classes j
  along classes trail m v a [] c t l i j hi hj ei ej = m.equal i j hi hj (ei ∙ same_tree-true a c l ∙ sym ej)
  along classes trail m v a (e ∷ es) c t l i j hi hj ei ej =
      let s : Begins a e es c = begins a e es c l in
      let p : Place terms e = has-place terms e t.0.1.0 in
      let there : IsEqAt terms values p.at true =
      record { below = p.within; equality = ap is_eq p.is ∙ s.equality; value = value-at terms trail values p.at v p.within ∙ ap (known trail) p.is ∙ t.0.1.1 } in
      let d : SidesMeet terms classes (tree_at terms p.at) = m.sides p.at p.within there in
      go (tree_at terms p.at) p.is d s.next (sides-of e a s.next s.other) (λ k hk ek. along classes trail m v s.next es c t.1 s.rest k j hk hj ek ej)
    where
      go : (u : Tree) → u ≡ e → SidesMeet terms classes u → (b : Tree) → AreSides e a b → ((k : ℕ) → k < length terms → tree_at terms k ≡ b → class_at classes k ≡ class_at classes j) → class_at classes i ≡ class_at classes j
      go u is d b (inl q) rest =
          m.equal i d.left hi d.left_below (ei ∙ sym q.0 ∙ ap (λ x. part_at x 0) (sym is) ∙ sym d.left_is) ∙ d.one ∙ rest d.right d.right_below (d.right_is ∙ ap (λ x. part_at x 1) is ∙ q.1)
      go u is d b (inr q) rest =
          m.equal i d.right hi d.right_below (ei ∙ sym q.0 ∙ ap (λ x. part_at x 1) (sym is) ∙ sym d.right_is) ∙ sym d.one ∙ rest d.left d.left_below (d.left_is ∙ ap (λ x. part_at x 0) is ∙ q.1)

  pub are-classes : (classes : List ℕ) → AreMerged terms values classes (length terms) → (trail : Trail) → HasValues terms trail values → AreClasses terms trail classes
  are-classes classes m trail v = record {
    long = m.long;
    one = λ i j hi hj. (λ s. m.joined i j hi hj s trail v, λ h. along classes trail m v (tree_at terms i) h.0 (tree_at terms j) h.1 h.2 i j hi hj refl refl);
  }
