-- What a table of places tells, where it has only those things that a test keeps.
use Rattle.std.proofs.Common.{◌≡◌, ◌∙◌, sym, ap, refl, ℕ, suc, ◌+◌, ◌-◌, ◌<◌, ◌≤◌, Bool, true, false, List, [], ◌∷◌, length, arith, map}
use Rattle.std.specs.Prelude.{◌&&◌, Option, Some, None, slice_get, is_none, if◌then◌else◌}
use Rattle.sd_base.specs.Value.{Text, same_text}
use Rattle.sd_base.proofs.Texts.{same_text-flip}
use Rattle.sd_core.specs.declared.CoreProc.{CoreProc}
use Rattle.sd_base.specs.Names.{place_from}
use Rattle.sd_match.specs.Places.{first_named}
use Rattle.sd_match.specs.Pairs.{root_from}
use Rattle.sd_match.proofs.ListLemmas.{some_is}

-- the place of the first kept thing of this name, where places are counted from n on
abbrev pub kept_from : {A : Type 0} → (A → Bool) → (A → Text) → ℕ → List A → Text → Option ℕ
kept_from keep name n [] f = None
kept_from keep name n (x ∷ xs) f = if keep x && same_text f (name x) then Some n else kept_from keep name (suc n) xs f

-- that thing
abbrev pub kept_named : {A : Type 0} → (A → Bool) → (A → Text) → List A → Text → Option A
kept_named keep name [] f = None
kept_named keep name (x ∷ xs) f = if keep x && same_text f (name x) then Some x else kept_named keep name xs f

pub record Stands {A : Type 0} (keep : A → Bool) (name : A → Text) (n : ℕ) (xs : List A) (f : Text) (i : ℕ) : Type 0 where
  pub from : n ≤ i
  pub within : i < n + length xs
  pub is : slice_get xs (i - n) ≡ kept_named keep name xs f

pub kept_stands : {A : Type 0} (keep : A → Bool) (name : A → Text) (n : ℕ) (xs : List A) (f : Text) (i : ℕ) → kept_from keep name n xs f ≡ Some i → Stands keep name n xs f i
kept_stands keep name n [] f i e = absurd (let bad : ◌≡◌ {A = Option ℕ} None (Some i) = e in cc)
kept_stands {A} keep name n (x ∷ xs) f i found = go (keep x && same_text f (name x)) refl found (λ h. kept_stands keep name (suc n) xs f i h)
  where
    go : (b : Bool) → (keep x && same_text f (name x)) ≡ b → (if b then Some n else kept_from keep name (suc n) xs f) ≡ Some i → (kept_from keep name (suc n) xs f ≡ Some i → Stands keep name (suc n) xs f i) → Stands keep name n (x ∷ xs) f i
    go true is here rest =
        let same : n ≡ i = some_is n i here in
        let none : i - n ≡ 0 = omega arith in
        record {
          from = omega arith;
          within = omega arith;
          is = ap (λ k. slice_get (x ∷ xs) k) none ∙ sym (ap (λ b. if b then Some x else kept_named keep name xs f) is);
        }
    go false is there rest =
        let s = rest there in
        let one : i - n ≡ suc (i - suc n) = omega (arith, s.from) in
        record {
          from = omega (arith, s.from);
          within = omega (arith, s.within);
          is = ap (λ k. slice_get (x ∷ xs) k) one ∙ (s.is ∙ sym (ap (λ b. if b then Some x else kept_named keep name xs f) is));
        }

pub kept_within : {A : Type 0} (keep : A → Bool) (name : A → Text) (xs : List A) (f : Text) (i : ℕ) → kept_from keep name 0 xs f ≡ Some i → i < length xs
kept_within keep name xs f i found = let h : i < 0 + length xs = (kept_stands keep name 0 xs f i found).within in omega arith

pub kept_is : {A : Type 0} (keep : A → Bool) (name : A → Text) (xs : List A) (f : Text) (i : ℕ) → kept_from keep name 0 xs f ≡ Some i → slice_get xs i ≡ kept_named keep name xs f
kept_is keep name xs f i found = let none : i - 0 ≡ i = omega arith in ap (λ k. slice_get xs k) (sym none) ∙ (kept_stands keep name 0 xs f i found).is

pub kept_none : {A : Type 0} (keep : A → Bool) (name : A → Text) (n : ℕ) (xs : List A) (f : Text) → kept_from keep name n xs f ≡ None → kept_named keep name xs f ≡ None
kept_none keep name n [] f e = refl
kept_none keep name n (x ∷ xs) f none = go (keep x && same_text f (name x)) refl none (λ h. kept_none keep name (suc n) xs f h)
  where
    go : (b : Bool) → (keep x && same_text f (name x)) ≡ b → (if b then Some n else kept_from keep name (suc n) xs f) ≡ None → (kept_from keep name (suc n) xs f ≡ None → kept_named keep name xs f ≡ None) → kept_named keep name (x ∷ xs) f ≡ None
    go true is h rest = absurd (let bad : ◌≡◌ {A = Option ℕ} (Some n) None = h in cc)
    go false is h rest = ap (λ b. if b then Some x else kept_named keep name xs f) is ∙ rest h

-- ---- what is kept

abbrev pub is_root : CoreProc → Bool
is_root p = is_none p.parent

abbrev pub proc_name : CoreProc → Text
proc_name p = p.name

pub root_kept : (n : ℕ) (ps : List CoreProc) (f : Text) → root_from n ps f ≡ kept_from is_root proc_name n ps f
root_kept n [] f = refl
root_kept n (p ∷ ps) f = ap (λ o. if is_none p.parent && same_text f p.name then Some n else o) (root_kept (suc n) ps f)

pub place_kept : {A : Type 0} (name : A → Text) (n : ℕ) (xs : List A) (f : Text) → place_from n (map name xs) f ≡ kept_from (λ _. true) name n xs f
place_kept name n [] f = refl
place_kept name n (x ∷ xs) f = ap (λ o. if same_text f (name x) then Some n else o) (place_kept name (suc n) xs f)

pub named_kept : {A : Type 0} (name : A → Text) (xs : List A) (f : Text) → first_named name xs f ≡ kept_named (λ _. true) name xs f
named_kept name [] f = refl
named_kept name (x ∷ xs) f = ap (λ o. if same_text f (name x) then Some x else o) (named_kept name xs f)

-- a table after an insertion
pub put_kept : (keep : Bool) (name f : Text) (place : ℕ) (was now : Option ℕ) → keep ≡ true → now ≡ (if same_text name f then Some place else was) → now ≡ (if keep && same_text f name then Some place else was)
put_kept keep name f place was now kept updated =
    updated ∙ ap (λ b. if b then Some place else was) (same_text-flip name f) ∙ sym (ap (λ b. if b && same_text f name then Some place else was) kept)
