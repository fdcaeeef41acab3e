-- The numbers of procedures as code keeps them.
use Rattle.std.proofs.Common.{◌≡◌, ◌∙◌, sym, ap, refl, ℕ, ◌+◌, ◌<◌, ◌≤◌, true, false, cond, List, ◌∷◌, length, drop, get_or}
use Rattle.std.specs.Prelude.{Option, Some, None, unwrap_or, if◌then◌else◌}
use Rattle.std.proofs.Math.ListN.{drop_of_length-le}
use Rattle.sd_extract.proofs.SourceWords.{Text, same_text, Decl, Procedure, Proc, Program, routine_named}
use Rattle.sd_extract.proofs.CoreWords.{number_from, size_of}
use Rattle.sd_base.proofs.Texts.{same_text-is, same_text-flip}
use Rattle.sd_base.proofs.Lists.{drop-at}

pub put_found : (g : Text → Option ℕ) (name f : Text) (number v : ℕ) → g name ≡ Some v → g f ≡ (if same_text f name then Some (unwrap_or (g f) number) else g f)
put_found g name f number v is = elim (same_text f name) as (λ b. same_text f name ≡ b → g f ≡ (if b then Some (unwrap_or (g f) number) else g f)) [
  | true ↦ λ e. let here : g f ≡ Some v = ap g (same_text-is f name e) ∙ is in here ∙ sym (ap (λ (o : Option ℕ). Some (unwrap_or o number)) here)
  | false ↦ λ e. refl
] refl

pub put_new : (g : Text → Option ℕ) (name name' f : Text) (number : ℕ) (now : Option ℕ) → g name ≡ None → name' ≡ name → now ≡ cond (same_text name' f) (Some number) (g f) → now ≡ (if same_text f name then Some (unwrap_or (g f) number) else g f)
put_new g name name' f number now none same updated =
    updated ∙ (ap (λ b. cond b (Some number) (g f)) (ap (λ (n : Text). same_text n f) same ∙ same_text-flip name f)
    ∙ (elim (same_text f name) as (λ b. same_text f name ≡ b → cond b (Some number) (g f) ≡ (if b then Some (unwrap_or (g f) number) else g f)) [
      | true ↦ λ e. sym (ap (λ (o : Option ℕ). Some (unwrap_or o number)) (ap g (same_text-is f name e) ∙ none))
      | false ↦ λ e. refl
    ]) refl)

pub number_more : (P : Program) (p : Proc) (next after size : ℕ) (f : Text) (ds : List Decl) (was now : Option ℕ) → now ≡ (if same_text f p.head.name then Some (unwrap_or was next) else was) → size ≡ size_of (routine_named P p.head.name) → after ≡ next + size
    → unwrap_or now (number_from P after ds f) ≡ unwrap_or was (number_from P next (Procedure p ∷ ds) f)
number_more P p next after size f ds was now put sized sum =
    (λ i. unwrap_or (put i) (number_from P ((sum ∙ ap (λ n. next + n) sized) i) ds f))
    ∙ elim (same_text f p.head.name) as (λ b. unwrap_or (if b then Some (unwrap_or was next) else was) (number_from P (next + size_of (routine_named P p.head.name)) ds f) ≡ unwrap_or was (if b then next else number_from P (next + size_of (routine_named P p.head.name)) ds f)) [ true ↦ refl | false ↦ refl ]

pub numbers_next : (P : Program) (ds : List Decl) (i : ℕ) (d : Decl) (next after : ℕ) (f : Text) (was now : Option ℕ) (whole : ℕ) → i < length ds → d ≡ get_or ds i d
    → unwrap_or now (number_from P after (drop (i + 1) ds) f) ≡ unwrap_or was (number_from P next (d ∷ drop (i + 1) ds) f) → unwrap_or was (number_from P next (drop i ds) f) ≡ whole
    → unwrap_or now (number_from P after (drop (i + 1) ds) f) ≡ whole
numbers_next P ds i d next after f was now whole lt at entered so =
    entered ∙ (sym (ap (λ (es : List Decl). unwrap_or was (number_from P next es f)) (drop-at ds i d lt at)) ∙ so)

pub numbers_done : (P : Program) (ds : List Decl) (i next : ℕ) (f : Text) (was : Option ℕ) (whole : ℕ) → length ds ≤ i → unwrap_or was (number_from P next (drop i ds) f) ≡ whole → unwrap_or was next ≡ whole
numbers_done P ds i next f was whole le so = sym (ap (λ (es : List Decl). unwrap_or was (number_from P next es f)) (drop_of_length-le ds le)) ∙ so
