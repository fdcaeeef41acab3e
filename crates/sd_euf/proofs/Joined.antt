-- chains of true equalities: they append, and go back
use Rattle.std.proofs.Common.{◌≡◌, List, [], ◌∷◌, ◌++◌, refl, sym, ap, ◌∙◌, subst, Bool, true, false, ◌&&◌, ◌⊎◌, inl, inr, Option, Some, None, if◌then◌else◌}
use Rattle.std.specs.List.{AllByRecursion}
use Rattle.std.proofs.lemmas.Option.{same_Some}
use Rattle.sd_term.specs.Tree.{Tree, same_tree, same_tree-true, same_tree-self}
use Rattle.sd_forms.specs.FactRows.{part_at}
use Rattle.sd_kernel.specs.Known.{Trail}
use Rattle.sd_kernel.specs.Steps.{is_eq, other_side, leads}
use Rattle.sd_cube.specs.Required.{IsTrueEq, AreJoined, eq_tree}

pub same-tree : (a b : Tree) → a ≡ b → same_tree a b ≡ true
same-tree a b e = ap (same_tree a) (sym e) ∙ same_tree-self a

-- ---- the other side of an equality

-- a and b are the sides of e, in this order or the other
abbrev pub AreSides : Tree → Tree → Tree → Type 0
AreSides e a b = ((part_at e 0 ≡ a) × (part_at e 1 ≡ b)) ⊎ ((part_at e 1 ≡ a) × (part_at e 0 ≡ b))

other-by : (e a : Tree) (p q : Bool) → same_tree (part_at e 0) a ≡ p → same_tree (part_at e 1) a ≡ q → other_side e a ≡ (if p then Some (part_at e 1) else (if q then Some (part_at e 0) else None))
other-by e a p q f g = λ i. if f i then Some (part_at e 1) else (if g i then Some (part_at e 0) else None)

pub sides-of : (e a b : Tree) → other_side e a ≡ Some b → AreSides e a b
sides-of e a b h = go (same_tree (part_at e 0) a) (same_tree (part_at e 1) a) refl refl
  where
    go : (p q : Bool) → same_tree (part_at e 0) a ≡ p → same_tree (part_at e 1) a ≡ q → AreSides e a b
    go true q f g = inl (same_tree-true (part_at e 0) a f, same_Some (part_at e 1) b (sym (other-by e a true q f g) ∙ h))
    go false true f g = inr (same_tree-true (part_at e 1) a g, same_Some (part_at e 0) b (sym (other-by e a false true f g) ∙ h))
    go false false f g = let n : None ≡ Some b = sym (other-by e a false false f g) ∙ h in cc

pub other-of : (e a b : Tree) → AreSides e a b → other_side e a ≡ Some b
other-of e a b (inl s) = other-by e a true (same_tree (part_at e 1) a) (same-tree (part_at e 0) a s.0) refl ∙ ap Some s.1
other-of e a b (inr s) = go (same_tree (part_at e 0) a) refl
  where
    go : (p : Bool) → same_tree (part_at e 0) a ≡ p → other_side e a ≡ Some b
    go true f = other-by e a true true f (same-tree (part_at e 1) a s.0) ∙ ap Some (s.0 ∙ sym (same_tree-true (part_at e 0) a f) ∙ s.1)
    go false f = other-by e a false true f (same-tree (part_at e 1) a s.0) ∙ ap Some s.1

turned : (e a b : Tree) → AreSides e a b → AreSides e b a
turned e a b (inl s) = inr (s.1, s.0)
turned e a b (inr s) = inl (s.1, s.0)

-- an equality leads back
pub other-back : (e a b : Tree) → other_side e a ≡ Some b → other_side e b ≡ Some a
other-back e a b h = other-of e b a (turned e a b (sides-of e a b h))

pub other-left : (e l r a : Tree) → e ≡ eq_tree l r → l ≡ a → other_side e a ≡ Some r
other-left e l r a is s = other-of e a r (inl (ap (λ t. part_at t 0) is ∙ s, ap (λ t. part_at t 1) is))

pub other-right : (e l r a : Tree) → e ≡ eq_tree l r → r ≡ a → other_side e a ≡ Some l
other-right e l r a is s = other-of e a l (inr (ap (λ t. part_at t 1) is ∙ s, ap (λ t. part_at t 0) is))

pub no-other : (e l r a b : Tree) → e ≡ eq_tree l r → (l ≡ a → ⊥) → (r ≡ a → ⊥) → other_side e a ≡ Some b → ⊥
no-other e l r a b is n m h = go (sides-of e a b h)
  where
    go : AreSides e a b → ⊥
    go (inl s) = n (sym (ap (λ t. part_at t 0) is) ∙ s.0)
    go (inr s) = m (sym (ap (λ t. part_at t 1) is) ∙ s.0)

-- ---- chains

-- the first equality of a chain, and the rest of it
pub record Begins (a e : Tree) (es : List Tree) (c : Tree) : Type 0 where
  pub equality : is_eq e ≡ true
  pub next : Tree
  pub other : other_side e a ≡ Some next
  pub rest : leads next es c ≡ true

pub begins : (a e : Tree) (es : List Tree) (c : Tree) → leads a (e ∷ es) c ≡ true → Begins a e es c
begins a e es c h = go (is_eq e) (other_side e a) refl refl h
  where
    go : (p : Bool) (o : Option Tree) → is_eq e ≡ p → other_side e a ≡ o → p && (elim o [ None ↦ false | Some b ↦ leads b es c ]) ≡ true → Begins a e es c
    go true (Some b) f g k = record { equality = f; next = b; other = g; rest = k }
    go true None f g k = let n : false ≡ true = k in cc
    go false o f g k = let n : false ≡ true = k in cc

pub leads-more : (a e b : Tree) (es : List Tree) (c : Tree) → is_eq e ≡ true → other_side e a ≡ Some b → leads b es c ≡ true → leads a (e ∷ es) c ≡ true
leads-more a e b es c f g h =
    ap (λ p. p && (elim (other_side e a) [ None ↦ false | Some d ↦ leads d es c ])) f ∙ ap (λ (o : Option Tree). elim o [ None ↦ false | Some d ↦ leads d es c ]) g ∙ h

pub leads-append : (a : Tree) (es : List Tree) (b : Tree) (fs : List Tree) (c : Tree) → leads a es b ≡ true → leads b fs c ≡ true → leads a (es ++ fs) c ≡ true
leads-append a [] b fs c h k = subst (λ t. leads t fs c ≡ true) (sym (same_tree-true a b h)) k
leads-append a (e ∷ es) b fs c h k =
    let s : Begins a e es b = begins a e es b h in
    leads-more a e s.next (es ++ fs) c s.equality s.other (leads-append s.next es b fs c s.rest k)

pub all-append : {A : Type 0} (P : A → Type 0) (xs ys : List A) → AllByRecursion P xs → AllByRecursion P ys → AllByRecursion P (xs ++ ys)
all-append P [] ys h k = k
all-append P (x ∷ xs) ys h k = (h.0, all-append P xs ys h.1 k)

module _ (terms : List Tree) (trail : Trail) where
  pub joined-same : (a c : Tree) → a ≡ c → AreJoined terms trail a c
  joined-same a c e = ([], tt, same-tree a c e)

  pub joined-on : (a b c : Tree) → AreJoined terms trail a b → AreJoined terms trail b c → AreJoined terms trail a c
  joined-on a b c h k = (h.0 ++ k.0, all-append (λ e. IsTrueEq terms trail e) h.0 k.0 h.1 k.1, leads-append a h.0 b k.0 c h.2 k.2)

  pub joined-by : (e a b : Tree) → IsTrueEq terms trail e → other_side e a ≡ Some b → AreJoined terms trail a b
  joined-by e a b t h = (e ∷ [], (t, tt), leads-more a e b [] b t.0 h (same_tree-self b))

  back-along : (a : Tree) (es : List Tree) (c : Tree) → AllByRecursion (λ e. IsTrueEq terms trail e) es → leads a es c ≡ true → AreJoined terms trail c a
  back-along a [] c t h = joined-same c a (sym (same_tree-true a c h))
  back-along a (e ∷ es) c t h =
      let s : Begins a e es c = begins a e es c h in
      joined-on c s.next a (back-along s.next es c t.1 s.rest) (joined-by e s.next a t.0 (other-back e a s.next s.other))

  pub joined-back : (a c : Tree) → AreJoined terms trail a c → AreJoined terms trail c a
  joined-back a c h = back-along a h.0 c h.1 h.2
