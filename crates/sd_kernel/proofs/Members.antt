-- members of the terms of a proof, and branches whose facts are about them
use Rattle.std.proofs.Common.{◌≡◌, ℕ, zero, suc, List, [], ◌∷◌, ◌++◌, refl, ap, ◌∙◌, subst, Bool, true, false, ◌||◌, ◌⊎◌, inl, inr, Option, Some, None, slice_get}
use Rattle.std.specs.Prelude.{option_and_then}
use Rattle.sd_term.specs.Tree.{Tree, same_tree, same_tree-true, same_tree-self}
use Rattle.sd_term.specs.Numbering.{has, numbered, AllIn}
use Rattle.sd_term.specs.Sorts.{IsWellSorted, AllWellSorted}
use Rattle.sd_term.proofs.Numbers.{numbered-facts}
use Rattle.sd_kernel.specs.Known.{Fact, Trail}
use Rattle.sd_kernel.specs.Steps.{all_at}
use Rattle.sd_kernel.specs.Proof.{start}

-- ---- members

pub or-cases : (a b : Bool) → a || b ≡ true → (a ≡ true) ⊎ (b ≡ true)
or-cases true b e = inl refl
or-cases false b e = inr e

or-right : (a b : Bool) → b ≡ true → a || b ≡ true
or-right true b e = refl
or-right false b e = e

pub has-get : (ts : List Tree) (n : ℕ) (t : Tree) → slice_get ts n ≡ Some t → has ts t ≡ true
has-get [] n t e = cc
has-get (u ∷ ts) zero t e = let f : u ≡ t = cc in ap (λ x. x || has ts t) (ap (λ x. same_tree x t) f ∙ same_tree-self t)
has-get (u ∷ ts) (suc n) t e = or-right (same_tree u t) (has ts t) (has-get ts n t e)

-- ---- well-sorted terms

pub sorted-in : (ts : List Tree) (t : Tree) → AllWellSorted ts → has ts t ≡ true → IsWellSorted t
sorted-in [] t a e = let f : false ≡ true = e in cc
sorted-in (u ∷ ts) t a e = go (or-cases (same_tree u t) (has ts t) e) (λ h. sorted-in ts t a.1 h)
  where
    go : (same_tree u t ≡ true) ⊎ (has ts t ≡ true) → (has ts t ≡ true → IsWellSorted t) → IsWellSorted t
    go (inl s) f = subst IsWellSorted (same_tree-true u t s) a.0
    go (inr k) f = f k

pub sorted-append : (a b : List Tree) → AllWellSorted a → AllWellSorted b → AllWellSorted (a ++ b)
sorted-append [] b p q = q
sorted-append (t ∷ a) b p q = (p.0, sorted-append a b p.1 q)

-- ---- branches

-- the facts are about terms of the list
abbrev pub AreAbout : List Tree → Trail → Type 0
AreAbout terms [] = Unit {0}
AreAbout terms (f ∷ fs) = (has terms f.0 ≡ true) × AreAbout terms fs

abbrev pub AllAbout : List Tree → List Trail → Type 0
AllAbout terms [] = Unit {0}
AllAbout terms (b ∷ bs) = AreAbout terms b × AllAbout terms bs

pub about-snoc : (terms : List Tree) (fs : Trail) (f : Fact) → AreAbout terms fs → has terms f.0 ≡ true → AreAbout terms (fs ++ f ∷ [])
about-snoc terms [] f a h = (h, tt)
about-snoc terms (g ∷ fs) f a h = (a.0, about-snoc terms fs f a.1 h)

pub about-more : (terms mid : List Tree) (fs : Trail) → ((t : Tree) → has terms t ≡ true → has mid t ≡ true) → AreAbout terms fs → AreAbout mid fs
about-more terms mid [] k a = tt
about-more terms mid (f ∷ fs) k a = (k f.0 a.0, about-more terms mid fs k a.1)

pub all-about-more : (terms mid : List Tree) (bs : List Trail) → ((t : Tree) → has terms t ≡ true → has mid t ≡ true) → AllAbout terms bs → AllAbout mid bs
all-about-more terms mid [] k a = tt
all-about-more terms mid (b ∷ bs) k a = (about-more terms mid b k a.0, all-about-more terms mid bs k a.1)

pub all-about-append : (terms : List Tree) (a b : List Trail) → AllAbout terms a → AllAbout terms b → AllAbout terms (a ++ b)
all-about-append terms [] b p q = q
all-about-append terms (x ∷ a) b p q = (p.0, all-about-append terms a b p.1 q)

start-in : (terms facts : List Tree) → AllIn terms facts → AreAbout terms (start facts)
start-in terms [] h = tt
start-in terms (t ∷ ts) h = (h.0, start-in terms ts h.1)

pub start-about : (facts : List Tree) → AreAbout (numbered facts) (start facts)
start-about facts = start-in (numbered facts) facts (numbered-facts facts)

-- ---- terms by number

pub all-at-in : (terms : List Tree) (ns : List ℕ) (ts : List Tree) → all_at terms ns ≡ Some ts → AllIn terms ts
all-at-in terms [] ts e = let f : [] ≡ ts = cc in subst (AllIn terms) f tt
all-at-in terms (n ∷ ns) ts e = go (slice_get terms n) (all_at terms ns) refl refl e (λ us h. all-at-in terms ns us h)
  where
    go : (o : Option Tree) (p : Option (List Tree)) → slice_get terms n ≡ o → all_at terms ns ≡ p → option_and_then (λ t. option_and_then (λ us. Some (t ∷ us)) p) o ≡ Some ts
        → ((us : List Tree) → all_at terms ns ≡ Some us → AllIn terms us) → AllIn terms ts
    go None p h k f ih = cc
    go (Some t) None h k f ih = cc
    go (Some t) (Some us) h k f ih = let g : t ∷ us ≡ ts = cc in subst (AllIn terms) g (has-get terms n t h, ih us k)
