-- Truth values of terms, and lists that grow at their end.
use Rattle.std.proofs.Common.{◌≡◌, List, [], ◌∷◌, ◌++◌, refl, ap, ◌∙◌}
use Rattle.std.specs.Prelude.{Bool, true, false, not, ◌&&◌, ◌||◌}
use Rattle.std.specs.List.{AllByRecursion}
use Rattle.sd_base.specs.Meaning.{truth_of}
use Rattle.sd_term.specs.Tree.{Tree}
use Rattle.sd_term.specs.Build.{not_of, and_of, or_of}
use Rattle.sd_term.specs.Truth.{Valuation}
use Rattle.sd_term.proofs.BuildValues.{not-value, and-value, or-value}
use Rattle.sd_vcgen.specs.Laws.{truth, all_true}

-- ---- lists

pub all_push : {A : Type 0} (Q : A → Type 0) (xs : List A) (x : A) → AllByRecursion Q xs → Q x → AllByRecursion Q (xs ++ x ∷ [])
all_push Q [] x h k = (k, tt)
all_push Q (y ∷ xs) x h k = (h.0, all_push Q xs x h.1 k)

pub all_front : {A : Type 0} (Q : A → Type 0) (xs : List A) (x : A) → AllByRecursion Q (xs ++ x ∷ []) → AllByRecursion Q xs
all_front Q [] x h = tt
all_front Q (y ∷ xs) x h = (h.0, all_front Q xs x h.1)

pub all_last : {A : Type 0} (Q : A → Type 0) (xs : List A) (x : A) → AllByRecursion Q (xs ++ x ∷ []) → Q x
all_last Q [] x h = h.0
all_last Q (y ∷ xs) x h = all_last Q xs x h.1

-- ---- truth values

pub not_truth : (v : Valuation) (t : Tree) → truth v (not_of t) ≡ not (truth v t)
not_truth v t = ap truth_of (not-value v t)

pub and_truth : (v : Valuation) (s t : Tree) → truth v (and_of s t) ≡ (truth v s && truth v t)
and_truth v s t = ap truth_of (and-value v s t)

pub or_truth : (v : Valuation) (s t : Tree) → truth v (or_of s t) ≡ (truth v s || truth v t)
or_truth v s t = ap truth_of (or-value v s t)

pub and_off : (p c g : Bool) → (p && not g) ≡ false → ((p && c) && not g) ≡ false
and_off true true g h = h
and_off true false g h = refl
and_off false c g h = refl

pub and_gone : (p : Bool) → (p && not true) ≡ false
and_gone true = refl
and_gone false = refl

pub off_path : (p c g : Bool) → c ≡ false → ((p && c) && not g) ≡ false
off_path true true g e = cc
off_path true false g e = refl
off_path false c g e = refl

pub or_off : (f g : Bool) → g ≡ false → (f || g) ≡ f
or_off true g e = refl
or_off false g e = e

pub or_on : (f g : Bool) → g ≡ true → (f || g) ≡ true
or_on true g e = refl
or_on false g e = e

pub first_on : (a b : Bool) → (a && b) ≡ true → a ≡ true
first_on true b e = refl
first_on false b e = e

pub second_on : (a b : Bool) → (a && b) ≡ true → b ≡ true
second_on true b e = e
second_on false b e = cc

-- ---- assumptions

pub assumes_push : (v : Valuation) (ts : List Tree) (t : Tree) → all_true v (ts ++ t ∷ []) ≡ (all_true v ts && truth v t)
assumes_push v [] t = and_true (truth v t)
  where
    and_true : (b : Bool) → (b && true) ≡ b
    and_true true = refl
    and_true false = refl
assumes_push v (u ∷ ts) t = ap (λ b. truth v u && b) (assumes_push v ts t) ∙ assoc (truth v u) (all_true v ts) (truth v t)
  where
    assoc : (a b c : Bool) → (a && (b && c)) ≡ ((a && b) && c)
    assoc true b c = refl
    assoc false b c = refl
