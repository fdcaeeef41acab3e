-- The core procedures that belong to no loop are those of the text.
use Rattle.std.proofs.Common.{◌≡◌, Bool, true, ℕ, zero, suc, ◌+◌, List, [], ◌∷◌, ◌++◌, Option, Some, None, is_some, refl, sym, ◌∙◌, ap, length, ◌⊎◌, ⊎_elim, inl, inr, arith}
use Rattle.std.specs.Prelude.{slice_get, if◌then◌else◌}
use Rattle.std.specs.Cmp.Lexicographic.{bytes_decides}
use Rattle.std.proofs.lemmas.Option.{none-some, same_Some}
use Rattle.std.proofs.lemmas.Bool.{false_from_ne_true}
use Rattle.sd_extract.proofs.SourceWords.{Text, same_text, Decl, Procedure, Program, Proc, Routine, procedure_in, routine_named, globals_in, named, callee_of, WellTyped}
use Rattle.sd_extract.proofs.CoreWords.{CoreProc, kinds, each_loop_in, source_of, size_of, number_from, routine_procs, procs_from, number_of}
use Rattle.sd_extract.specs.Laws.{RootsAreProcedures}
use Rattle.sd_extract.proofs.FormedTables.{OnceEach, procedure_entries}
use Rattle.sd_extract.proofs.FormedLookups.{procedure_named}
use Rattle.sd_extract.proofs.FormedDeclarations.{is_typed, procedures_once}
use Rattle.sd_extract.proofs.LawLemmas.{name_kept}
use Rattle.sd_extract.proofs.FormedNumbers.{routine_length}
use Rattle.sd_base.proofs.Lists.{all-at}
use Rattle.sd_extract.proofs.Parts.{each_loop_has}

-- ---- where a procedure without a parent stands

-- what stands in two lists stands in the first or in the second
either_list : {A : Type 0} (xs ys : List A) (i : ℕ) (x : A) → slice_get (xs ++ ys) i ≡ Some x → (slice_get xs i ≡ Some x) ⊎ ((k : ℕ) × (i ≡ length xs + k) × (slice_get ys k ≡ Some x))
either_list [] ys i x e = let here : i ≡ 0 + i = omega arith in inr (i, here, e)
either_list (y ∷ xs) ys zero x e = inl e
either_list {A} (y ∷ xs) ys (suc i) x e =
    ⊎_elim (λ (a : slice_get xs i ≡ Some x). inl a)
    (λ (b : (k : ℕ) × (i ≡ length xs + k) × (slice_get ys k ≡ Some x)). let e = b.1 in
    let here : suc i ≡ suc (length xs) + b.0 = omega (arith, e) in inr (b.0, here, b.2))
    (either_list xs ys i x e)

-- Entry i of the core procedures of these declarations, before which n stand, is that of a procedure among them.
abbrev IsRootOf : Program → ℕ → List Decl → ℕ → CoreProc → Type 0
IsRootOf P n ds i p =
    (q : Proc) × (procedure_in ds p.name ≡ Some q) × ((r : Routine) × (routine_named P p.name ≡ Some r)) × (n + i ≡ number_from P n ds p.name)

-- a name that stands once isn't found again
not_again : (ds : List Decl) (f : Text) → named (procedure_entries ds) f ≡ None → procedure_in ds f ≡ None
not_again ds f h = elim (procedure_in ds f) as (λ o. procedure_in ds f ≡ o → o ≡ None) [
  | None ↦ λ e. refl
  | Some p ↦ λ e. absurd (none-some (callee_of p) (sym h ∙ procedure_named ds f p e))
] refl

module _ (P : Program) (w : WellTyped P) where
  -- among the core procedures of one procedure
  first_is : (n : ℕ) (f : Text) (o : Option Routine) (i : ℕ) (p : CoreProc) → routine_named P f ≡ o → slice_get (routine_procs P n o) i ≡ Some p → p.parent ≡ None → (p.name ≡ f) × (i ≡ 0) × ((r : Routine) × (o ≡ Some r))
  first_is n f None i p e g root = absurd (cc)
  first_is n f (Some r) zero p e g root = (ap (λ (x : CoreProc). x.name) (sym (same_Some _ _ g)) ∙ name_kept P f r w e, refl, (r, refl))
  first_is n f (Some r) (suc i) p e g root =
      let S = source_of (globals_in P.decls) n r in
      let number = number_from P 0 P.decls in
      let loop = all-at (λ (q : CoreProc). is_some q.parent ≡ true) (each_loop_in P number S (suc n) (kinds S)) i p (each_loop_has P number S (λ q. is_some q.parent ≡ true) (λ k guard invs returns turn. refl) (suc n) (kinds S)) g in
      let none = ap is_some root in
      absurd (cc)

  module _ (q : Proc) (ds : List Decl) (n i : ℕ) (p : CoreProc) where
    abbrev next : ℕ
    next = n + size_of (routine_named P q.head.name)

    is_first : (p.name ≡ q.head.name) × (i ≡ 0) × ((r : Routine) × (routine_named P q.head.name ≡ Some r)) → IsRootOf P n (Procedure q ∷ ds) i p
    is_first h =
        let t : same_text p.name q.head.name ≡ true = (bytes_decides p.name q.head.name).1 h.0 in
        let z = h.1 in
        let here : n + i ≡ n = omega (arith, z) in
        (q, ap (λ (c : Bool). if c then Some q else procedure_in ds p.name) t, (h.2.0, ap (routine_named P) h.0 ∙ h.2.1), here ∙ sym (ap (λ (c : Bool). if c then n else number_from P next ds p.name) t))

    is_later : procedure_in ds q.head.name ≡ None → (k : ℕ) → i ≡ length (routine_procs P n (routine_named P q.head.name)) + k → IsRootOf P next ds k p → IsRootOf P n (Procedure q ∷ ds) i p
    is_later once k long h =
        let t = false_from_ne_true (same_text p.name q.head.name) (λ t. let again = ap (procedure_in ds) ((bytes_decides p.name q.head.name).0 t) in let declared = h.1 in cc) in
        let size = routine_length P n (routine_named P q.head.name) in
        let before : n + i ≡ next + k = omega (arith, long, size) in
        (h.0, ap (λ (c : Bool). if c then Some q else procedure_in ds p.name) t ∙ h.1, h.2, before ∙ h.3 ∙ sym (ap (λ (c : Bool). if c then n else number_from P next ds p.name) t))

  roots : (ds : List Decl) (n i : ℕ) (p : CoreProc) → OnceEach (procedure_entries ds) → slice_get (procs_from P n ds) i ≡ Some p → p.parent ≡ None → IsRootOf P n ds i p
  roots [] n i p once g root = absurd (none-some p g)
  roots (Procedure q ∷ ds) n i p once g root =
      let here = routine_procs P n (routine_named P q.head.name) in
      let after = n + size_of (routine_named P q.head.name) in
      ⊎_elim (λ (a : slice_get here i ≡ Some p). is_first q ds n i p (first_is n q.head.name (routine_named P q.head.name) i p refl a root))
      (λ (b : (k : ℕ) × (i ≡ length here + k) × (slice_get (procs_from P after ds) k ≡ Some p)).
      is_later q ds n i p (not_again ds q.head.name once.0) b.0 b.1 (roots ds after b.0 p once.1 b.2 root))
      (either_list here (procs_from P after ds) i p g)
  roots (_ ∷ ds) n i p once g root = roots ds n i p once g root

pub roots_are_procedures : RootsAreProcedures
roots_are_procedures P i p w g root =
    let t = is_typed P w in
    let r = roots P w P.decls 0 i p (procedures_once P t.0 t.1) g root in
    let place : 0 + i ≡ number_of P p.name = r.3 in
    let here : 0 + i ≡ i = omega arith in
    (r.2.0, r.2.1, sym here ∙ place)
