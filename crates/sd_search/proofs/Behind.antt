-- paths of splits, the branches that wait for them, and the literals that were searched before them
use Rattle.std.proofs.Common.{◌≡◌, suc, [], ◌∷◌, ◌++◌, refl, sym, ap, ◌∙◌, true, false, cond, inl, inr, append-nil, append_assoc, arith}
use Rattle.std.specs.Prelude.{Contains}
use Rattle.std.specs.List.{AllByRecursion}
use Rattle.sd_term.specs.Tree.{Tree}
use Rattle.sd_kernel.specs.Known.{Fact, Trail}
use Rattle.sd_search.specs.Path.{waiting, IsBehind, IsPast}

pub past-self : (fs : Trail) → IsPast fs fs
past-self [] = tt
past-self (f ∷ fs) = inr (refl, past-self fs)

pub past-fronts : (fs gs : Trail) (ls : Trail) → IsPast (fs ++ gs) ls → IsPast fs ls
past-fronts [] gs ls p = tt
past-fronts (g ∷ fs) gs [] p = absurd p
past-fronts (g ∷ fs) gs (l ∷ ls) p = go p (λ h. past-fronts fs gs ls h)
  where
    go : IsPast (g ∷ fs ++ gs) (l ∷ ls) → (IsPast (fs ++ gs) ls → IsPast fs ls) → IsPast (g ∷ fs) (l ∷ ls)
    go (inl h) ih = inl h
    go (inr h) ih = inr (h.0, ih h.1)

true-false : {P : Type 0} → true ≡ false → P
true-false e = absurd (cc)

-- the second branch of a split whose first branch is done
pub past-turn : (fs : Trail) (t : Tree) (ls : Trail) → IsPast (fs ++ (t, true) ∷ []) ls → IsBehind (fs ++ (t, false) ∷ []) ls
past-turn [] t [] p = absurd p
past-turn [] t (l ∷ ls) p = go p
  where
    go : IsPast ((t, true) ∷ []) (l ∷ ls) → IsBehind ((t, false) ∷ []) (l ∷ ls)
    go (inl h) = true-false h.2
    go (inr h) = inl (ap (λ (f : Fact). f.0) h.0, ap (λ (f : Fact). f.1) h.0, refl)
past-turn (g ∷ fs) t [] p = absurd p
past-turn (g ∷ fs) t (l ∷ ls) p = go p (λ h. past-turn fs t ls h)
  where
    go : IsPast (g ∷ fs ++ (t, true) ∷ []) (l ∷ ls) → (IsPast (fs ++ (t, true) ∷ []) ls → IsBehind (fs ++ (t, false) ∷ []) ls) → IsBehind (g ∷ fs ++ (t, false) ∷ []) (l ∷ ls)
    go (inl h) ih = inl h
    go (inr h) ih = inr (h.0, ih h.1)

pub behind-past : (fs ls : Trail) → IsBehind fs ls → IsPast fs ls
behind-past [] ls b = absurd b
behind-past (f ∷ fs) [] b = absurd b
behind-past (f ∷ fs) (l ∷ ls) b = go b (λ h. behind-past fs ls h)
  where
    go : IsBehind (f ∷ fs) (l ∷ ls) → (IsBehind fs ls → IsPast fs ls) → IsPast (f ∷ fs) (l ∷ ls)
    go (inl h) ih = inl h
    go (inr h) ih = inr (h.0, ih h.1)

pub behind-more : (fs more ls : Trail) → IsBehind fs ls → IsBehind (fs ++ more) ls
behind-more [] more ls b = absurd b
behind-more (f ∷ fs) more [] b = absurd b
behind-more (f ∷ fs) more (l ∷ ls) b = go b (λ h. behind-more fs more ls h)
  where
    go : IsBehind (f ∷ fs) (l ∷ ls) → (IsBehind fs ls → IsBehind (fs ++ more) ls) → IsBehind (f ∷ fs ++ more) (l ∷ ls)
    go (inl h) ih = inl h
    go (inr h) ih = inr (h.0, ih h.1)

contains-first : (fs : Trail) (f g : Fact) → f ≡ g → Contains (f ∷ fs) g
contains-first fs f g e = (0, omega arith, e)

contains-later : (fs : Trail) (f g : Fact) → Contains fs g → Contains (f ∷ fs) g
contains-later fs f g h = (suc h.0, (let lt = h.1 in omega (arith, lt)), h.2)

-- a term that is true in the literals and false on the path
pub record Parts (fs ls : Trail) : Type 0 where
  pub term : Tree
  pub true_there : Contains ls (term, true)
  pub false_here : Contains fs (term, false)

pub behind-parts : (fs ls : Trail) → IsBehind fs ls → Parts fs ls
behind-parts [] ls b = absurd b
behind-parts (f ∷ fs) [] b = absurd b
behind-parts (f ∷ fs) (l ∷ ls) b = go b (λ h. behind-parts fs ls h)
  where
    go : IsBehind (f ∷ fs) (l ∷ ls) → (IsBehind fs ls → Parts fs ls) → Parts (f ∷ fs) (l ∷ ls)
    go (inl h) ih = record {
      term = f.0;
      true_there = contains-first ls l (f.0, true) (λ i. (h.0 i, h.1 i));
      false_here = contains-first fs f (f.0, false) (λ i. (f.0, h.2 i));
    }
    go (inr h) ih = let p = ih h.1 in record {
      term = p.term;
      true_there = contains-later ls l (p.term, true) p.true_there;
      false_here = contains-later fs f (p.term, false) p.false_here;
    }

-- ---- the branches that wait

-- after one more split
pub waiting-last : (before fs : Trail) (f : Fact) → waiting before (fs ++ f ∷ []) ≡ cond f.1 ((before ++ (fs ++ (f.0, false) ∷ [])) ∷ []) [] ++ waiting before fs
waiting-last before [] f = sym (append-nil (cond f.1 ((before ++ (f.0, false) ∷ []) ∷ []) []))
waiting-last before (g ∷ fs) f =
    ap (λ bs. bs ++ cond g.1 ((before ++ (g.0, false) ∷ []) ∷ []) []) (waiting-last (before ++ g ∷ []) fs f)
    ∙ append_assoc (cond f.1 (((before ++ g ∷ []) ++ (fs ++ (f.0, false) ∷ [])) ∷ []) []) (waiting (before ++ g ∷ []) fs) (cond g.1 ((before ++ (g.0, false) ∷ []) ∷ []) [])
    ∙ ap (λ b. cond f.1 (b ∷ []) [] ++ waiting before (g ∷ fs)) (append_assoc before (g ∷ []) (fs ++ (f.0, false) ∷ []))

pub waiting-true : (before fs : Trail) (t : Tree) → waiting before (fs ++ (t, true) ∷ []) ≡ (before ++ (fs ++ (t, false) ∷ [])) ∷ waiting before fs
waiting-true before fs t = waiting-last before fs (t, true)

pub waiting-false : (before fs : Trail) (t : Tree) → waiting before (fs ++ (t, false) ∷ []) ≡ waiting before fs
waiting-false before fs t = waiting-last before fs (t, false)

-- second branches leave nothing to wait for
pub waiting-seconds : (before fs gs : Trail) → AllByRecursion (λ (f : Fact). f.1 ≡ false) gs → waiting before (fs ++ gs) ≡ waiting before fs
waiting-seconds before fs [] h = ap (waiting before) (append-nil fs)
waiting-seconds before fs (g ∷ gs) h =
    ap (waiting before) (sym (append_assoc fs (g ∷ []) gs)) ∙ waiting-seconds before (fs ++ g ∷ []) gs h.1
    ∙ waiting-last before fs g ∙ ap (λ q. cond q ((before ++ (fs ++ (g.0, false) ∷ [])) ∷ []) [] ++ waiting before fs) h.0
