-- terms over two parts, by their left part
use Rattle.std.proofs.Common.{◌≡◌, ℕ, suc, ◌+◌, ◌<◌, ◌≤◌, List, [], ◌∷◌, ◌++◌, map, length, get_or, set, sym, ap, ◌∙◌, subst, inl, inr, Option, Some, None, arith}
use Rattle.std.proofs.lemmas.Bool.{cases_lt, cases_eq}
use Rattle.std.proofs.lemmas.List.{get_or_append_left, get_or_push, get_or-set_same, get_or-set_other, length-set, length_push}
use Rattle.sd_term.specs.declared.node.TermNode.{TermNode}
use Rattle.sd_term.specs.Tree.{Tree, parts_of}
use Rattle.sd_term.specs.Bank.{tree_at, tree_of}
use Rattle.sd_term.specs.Distinct.{AreDistinct}
use Rattle.sd_term.proofs.Shared.{same-number}
use Rattle.sd_term.proofs.Numbers.{node-parts}
use Rattle.sd_euf.specs.declared.table.LeftTable.{LeftTable}
use Rattle.sd_euf.specs.Table.{HasLeft, IsLastLeft, IsLeftTable}
use Rattle.sd_euf.proofs.Shapes.{part-count}

-- ---- left parts

pub no-left : (terms : List Tree) (node : TermNode) (t : Tree) (ps : List ℕ) → tree_of terms node ≡ t → ps ≡ node.parts → (length ps ≡ 2 → ⊥) → (x : Tree) → HasLeft t x → ⊥
no-left terms node t ps e is n x h = n (ap length is ∙ sym (part-count terms node t e) ∙ ap length h.1)

pub left-is : (terms : List Tree) (node : TermNode) (t : Tree) (ps : List ℕ) (p : ℕ) → tree_of terms node ≡ t → ps ≡ node.parts → length ps ≡ 2 → p ≡ get_or ps 0 p → HasLeft t (tree_at terms p)
left-is terms node t ps p e is two r = go ps two r (node-parts terms node t e ∙ ap (map (λ n. tree_at terms n)) (sym is))
  where
    go : (qs : List ℕ) → length qs ≡ 2 → p ≡ get_or qs 0 p → parts_of t ≡ map (λ n. tree_at terms n) qs → HasLeft t (tree_at terms p)
    go [] l q f = absurd (omega (arith, l))
    go (a ∷ []) l q f = absurd (omega (arith, l))
    go (a ∷ b ∷ []) l q f = let same : p ≡ a = q in (tree_at terms b, f ∙ ap (λ n. tree_at terms n ∷ tree_at terms b ∷ []) (sym same))
    go (a ∷ b ∷ c ∷ qs) l q f = absurd (omega (arith, l))

pub one-left : (t x y : Tree) → HasLeft t x → HasLeft t y → x ≡ y
one-left t x y h k = let same : x ∷ h.0 ∷ [] ≡ y ∷ k.0 ∷ [] = sym h.1 ∙ k.1 in cc

-- ---- one more term

module _ (terms : List Tree) where
  -- a term without the left part
  last-skip : (x : Tree) (n : ℕ) (o : Option ℕ) → (HasLeft (tree_at terms n) x → ⊥) → IsLastLeft terms x n o → IsLastLeft terms x (n + 1) o
  last-skip x n None h a = λ j lt l. elim (cases_lt j n) [ inl below ↦ a j below l | inr above ↦ h (subst (λ i. HasLeft (tree_at terms i) x) (same j lt above) l) ]
    where
      same : (j : ℕ) → j < n + 1 → n ≤ j → j ≡ n
      same j lt above = omega (arith, lt, above)
  last-skip x n (Some p) h a =
      (omega (arith, a.0), a.1, λ j gt lt l. elim (cases_lt j n) [ inl below ↦ a.2 j gt below l | inr above ↦ h (subst (λ i. HasLeft (tree_at terms i) x) (same j lt above) l) ])
    where
      same : (j : ℕ) → j < n + 1 → n ≤ j → j ≡ n
      same j lt above = omega (arith, lt, above)

  last-here : (x : Tree) (n : ℕ) → HasLeft (tree_at terms n) x → IsLastLeft terms x (n + 1) (Some n)
  last-here x n h = (omega arith, h, λ j gt lt l. absurd (omega (arith, gt, lt)))

  module _ (old new : LeftTable) (n : ℕ) (a : IsLeftTable terms old n) where
    earlier-push : (o : Option ℕ) → new.earlier ≡ old.earlier ++ o ∷ [] → (j : ℕ) → j < n → get_or new.earlier j None ≡ get_or old.earlier j None
    earlier-push o e j h = ap (λ l. get_or l j None) e ∙ get_or_append_left old.earlier (o ∷ []) None j (subst (λ m. j < m) (sym a.passed) h)

    earlier-last : (o : Option ℕ) → new.earlier ≡ old.earlier ++ o ∷ [] → get_or new.earlier n None ≡ o
    earlier-last o e = ap (λ l. get_or l n None) e ∙ get_or_push old.earlier o None n a.passed

    passed-more : (o : Option ℕ) → new.earlier ≡ old.earlier ++ o ∷ [] → length new.earlier ≡ n + 1
    passed-more o e = ap length e ∙ length_push old.earlier o ∙ ap (λ m. m + 1) a.passed

    -- the earlier terms, and the new one
    earlier-all : (o : Option ℕ) → new.earlier ≡ old.earlier ++ o ∷ [] → ((x : Tree) → HasLeft (tree_at terms n) x → IsLastLeft terms x n o)
        → (j : ℕ) → j < n + 1 → (x : Tree) → HasLeft (tree_at terms j) x → IsLastLeft terms x j (get_or new.earlier j None)
    earlier-all o e h j lt x l =
        elim (cases_lt j n) [
          | inl below ↦ subst (λ q. IsLastLeft terms x j q) (sym (earlier-push o e j below)) (a.earlier_is j below x l)
          | inr above ↦ here (omega (arith, lt, above))
        ]
      where
        here : n ≡ j → IsLastLeft terms x j (get_or new.earlier j None)
        here same = subst (λ i. IsLastLeft terms x i (get_or new.earlier i None)) same
            (subst (λ q. IsLastLeft terms x n q) (sym (earlier-last o e)) (h x (subst (λ i. HasLeft (tree_at terms i) x) (sym same) l)))

    pub table-skip : new.last ≡ old.last → new.earlier ≡ old.earlier ++ None ∷ [] → ((x : Tree) → HasLeft (tree_at terms n) x → ⊥) → IsLeftTable terms new (n + 1)
    table-skip e f h = record {
      as_long = ap length e ∙ a.as_long;
      passed = passed-more None f;
      last_is = λ k lt. subst (λ l. IsLastLeft terms (tree_at terms k) (n + 1) (get_or l k None)) (sym e) (last-skip (tree_at terms k) n (get_or old.last k None) (h (tree_at terms k)) (a.last_is k lt));
      earlier_is = earlier-all None f (λ x l. absurd (h x l));
    }

    pub table-more : (left : ℕ) (o : Option ℕ) → AreDistinct terms → left < length terms → HasLeft (tree_at terms n) (tree_at terms left) → o ≡ get_or old.last left None
        → new.last ≡ set old.last left (Some n) → new.earlier ≡ old.earlier ++ o ∷ [] → IsLeftTable terms new (n + 1)
    table-more left o distinct lt h is e f = record {
      as_long = ap length e ∙ length-set old.last left (Some n) ∙ a.as_long;
      passed = passed-more o f;
      last_is = λ k below. elim (cases_eq k left) [ inl at ↦ here k at | inr apart ↦ other k below apart ];
      earlier_is = earlier-all o f (λ x l. subst (λ q. IsLastLeft terms x n q) (sym is) (subst (λ t. IsLastLeft terms t n (get_or old.last left None)) (one-left (tree_at terms n) (tree_at terms left) x h l) (a.last_is left lt)));
    }
      where
        here : (k : ℕ) → k ≡ left → IsLastLeft terms (tree_at terms k) (n + 1) (get_or new.last k None)
        here k at =
            subst (λ m. IsLastLeft terms (tree_at terms m) (n + 1) (get_or new.last m None)) (sym at)
            (subst (λ q. IsLastLeft terms (tree_at terms left) (n + 1) q) (sym (ap (λ l. get_or l left None) e ∙ get_or-set_same old.last left (Some n) None (subst (λ m. left < m) (sym a.as_long) lt)))
            (last-here (tree_at terms left) n h))

        other : (k : ℕ) → k < length terms → (k ≡ left → ⊥) → IsLastLeft terms (tree_at terms k) (n + 1) (get_or new.last k None)
        other k below apart =
            subst (λ q. IsLastLeft terms (tree_at terms k) (n + 1) q) (sym (ap (λ l. get_or l k None) e ∙ get_or-set_other old.last left k (Some n) None apart))
            (last-skip (tree_at terms k) n (get_or old.last k None)
            (λ l. apart (same-number terms k left distinct below lt (one-left (tree_at terms n) (tree_at terms k) (tree_at terms left) l h))) (a.last_is k below))

-- ---- the walk along the terms with one left part

-- each term with the tree has a number up to this one
abbrev pub AreUpTo : List Tree → Tree → Tree → Option ℕ → Type 0
AreUpTo terms x t None = (j : ℕ) → j < length terms → tree_at terms j ≡ t → ⊥
AreUpTo terms x t (Some p) = (p < length terms) × HasLeft (tree_at terms p) x × ((j : ℕ) → j < length terms → tree_at terms j ≡ t → j ≤ p)

pub up-to-last : (terms : List Tree) (x t : Tree) (o : Option ℕ) → HasLeft t x → IsLastLeft terms x (length terms) o → AreUpTo terms x t o
up-to-last terms x t None h a = λ j lt e. a j lt (subst (λ u. HasLeft u x) (sym e) h)
up-to-last terms x t (Some p) h a =
    (a.0, a.1, λ j lt e. elim (cases_lt p j) [ inl after ↦ absurd (a.2 j after lt (subst (λ u. HasLeft u x) (sym e) h)) | inr le ↦ le ])

pub up-to-earlier : (terms : List Tree) (x t : Tree) (p : ℕ) (o : Option ℕ) → HasLeft t x → AreUpTo terms x t (Some p) → (tree_at terms p ≡ t → ⊥) → IsLastLeft terms x p o → AreUpTo terms x t o
up-to-earlier terms x t p None h u n a = λ j lt e. a j (before j lt e) (subst (λ v. HasLeft v x) (sym e) h)
  where
    before : (j : ℕ) → j < length terms → tree_at terms j ≡ t → j < p
    before j lt e = elim (cases_lt j p) [ inl b ↦ b | inr ge ↦ absurd (n (ap (tree_at terms) (let s : p ≡ j = omega (arith, u.2 j lt e, ge) in s) ∙ e)) ]
up-to-earlier terms x t p (Some q) h u n a =
    (omega (arith, a.0, u.0), a.1, λ j lt e. elim (cases_lt q j) [ inl after ↦ absurd (a.2 j after (before j lt e) (subst (λ v. HasLeft v x) (sym e) h)) | inr le ↦ le ])
  where
    before : (j : ℕ) → j < length terms → tree_at terms j ≡ t → j < p
    before j lt e = elim (cases_lt j p) [ inl b ↦ b | inr ge ↦ absurd (n (ap (tree_at terms) (let s : p ≡ j = omega (arith, u.2 j lt e, ge) in s) ∙ e)) ]

-- how many places of a walk are left at most
abbrev pub room : Option ℕ → ℕ
room None = 0
room (Some p) = suc p

pub less-room : (terms : List Tree) (x : Tree) (p : ℕ) (o : Option ℕ) → IsLastLeft terms x p o → room o < suc p
less-room terms x p None a = omega arith
less-room terms x p (Some q) a = omega (arith, a.0)
