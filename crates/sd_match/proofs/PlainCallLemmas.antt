-- Calls of procedures without partners, in plain words.
use Rattle.std.proofs.Common.{◌≡◌, ◌∙◌, sym, ap, refl, subst, ℕ, zero, suc, ◌+◌, ◌≤◌, min, Bool, true, false, List, [], ◌∷◌, ◌⊎◌, inl, inr, ⊎_elim, arith}
use Rattle.std.proofs.lemmas.Option.{none-some, same_Some}
use Rattle.std.proofs.lemmas.Bool.Decides.{nat_tests}
use Rattle.std.proofs.lemmas.List.Elements.{Contains-append_left, Contains-append_right, Contains-append_cases}
use Rattle.std.specs.Prelude.{◌==◌, ◌↔◌, Option, Some, None, slice_get, Contains, if◌then◌else◌}
use Rattle.std.specs.Option.{option_map}
use Rattle.std.specs.List.{filter}
use Rattle.sd_base.specs.Value.{Text}
use Rattle.sd_core.specs.declared.CoreProc.{CoreProc}
use Rattle.sd_core.specs.declared.CoreStmt.{CoreStmt, Assign, If', Call, Assume, Fail, Return, Row_of-CoreStmt, end_of-CoreStmt, more_of-CoreStmt}
use Rattle.sd_core.specs.declared.CoreProgram.{CoreProgram}
use Rattle.sd_core.specs.Formed.{WellFormed, IsFormed, AreFormed, AllFormed}
use Rattle.sd_runs.specs.Calls.{callees, row_callees, callees_of}
use Rattle.sd_runs.proofs.Contained.{contains_first, contains_later, contains_none, contains_cases}
use Rattle.sd_match.specs.Pairs.{owner, least, least_with, is_unmatched, unmatched_calls, name_at, first_unmatched}
use Rattle.sd_match.specs.PlainPairs.{IsInText, BelongsTo, IsUnmatchedCall, CallsNoUnmatched, IsFirstUnmatchedName}
use Rattle.sd_match.proofs.ContainLemmas.{kept_exact}
use Rattle.sd_match.proofs.PlainPairLemmas.{unmatched_exact}

-- ---- a callee is there

abbrev IsThere : CoreProgram → ℕ → Type 0
IsThere P c = (q : CoreProc) × (slice_get P.procs c ≡ Some q)

mutual
  callee_there : (P : CoreProgram) (p : CoreProc) (s : CoreStmt) (c : ℕ) → IsFormed P p s → Contains (callees s) c → IsThere P c
  callee_there P p (Assign xs es) c formed h = contains_none c h
  callee_there P p (If' e n a m b) c formed h = ⊎_elim (λ k. row_there P p a c formed.1 k) (λ k. row_there P p b c formed.2 k) (Contains-append_cases (row_callees a) (row_callees b) c h)
  callee_there P p (Call xs q es) c formed h = ⊎_elim (λ (e : q ≡ c). (formed.callee, ap (slice_get P.procs) (sym e) ∙ formed.found)) (λ k. contains_none c k) (contains_cases c q [] h)
  callee_there P p (Assume e) c formed h = contains_none c h
  callee_there P p Fail c formed h = contains_none c h
  callee_there P p Return c formed h = contains_none c h

  row_there : (P : CoreProgram) (p : CoreProc) {n : _} (ss : Row_of-CoreStmt n) (c : ℕ) → AreFormed P p ss → Contains (row_callees ss) c → IsThere P c
  row_there P p end_of-CoreStmt c formed h = contains_none c h
  row_there P p (more_of-CoreStmt s ss) c formed h = ⊎_elim (λ k. callee_there P p s c formed.0 k) (λ k. row_there P p ss c formed.1 k) (Contains-append_cases (callees s) (row_callees ss) c h)

all_there : (P : CoreProgram) (p : CoreProc) (ss : List CoreStmt) (c : ℕ) → AllFormed P p ss → Contains (callees_of ss) c → IsThere P c
all_there P p [] c formed h = contains_none c h
all_there P p (s ∷ ss) c formed h = ⊎_elim (λ k. callee_there P p s c formed.0 k) (λ k. all_there P p ss c formed.1 k) (Contains-append_cases (callees s) (callees_of ss) c h)

-- ---- the least of some numbers

least_none : (ns : List ℕ) → least ns ≡ None → ns ≡ []
least_none [] e = refl
least_none (n ∷ ns) e = absurd (none-some _ (sym e))

least_with-cases : (n m : ℕ) (o : Option ℕ) → least_with n o ≡ m → (n ≡ m) ⊎ (o ≡ Some m)
least_with-cases n m None e = inl e
least_with-cases n m (Some k) e = go (min n k) refl
  where
    go : (j : ℕ) → min n k ≡ j → (n ≡ m) ⊎ (Some k ≡ Some m)
    go j h = grind arith

least_with-below : (n : ℕ) (o : Option ℕ) → least_with n o ≤ n
least_with-below n None = omega arith
least_with-below n (Some k) = omega arith

least_contained : (ns : List ℕ) (m : ℕ) → least ns ≡ Some m → Contains ns m
least_contained [] m e = absurd (none-some m e)
least_contained (n ∷ ns) m e = ⊎_elim
    (λ (h : n ≡ m). subst (λ k. Contains (n ∷ ns) k) h (contains_first n ns))
    (λ (h : least ns ≡ Some m). contains_later n m ns (least_contained ns m h))
    (least_with-cases n m (least ns) (same_Some _ m e))

least_below : (ns : List ℕ) (m d : ℕ) → least ns ≡ Some m → Contains ns d → m ≤ d
least_below [] m d e h = contains_none d h
least_below (n ∷ ns) m d e h = ⊎_elim
    (λ (k : n ≡ d). let b = least_with-below n (least ns) in let s : least_with n (least ns) ≡ m = same_Some _ m e in omega (arith, b, s, k))
    (λ (k : Contains ns d). later k (λ j some. least_below ns j d some k) (least ns) refl (same_Some _ m e))
    (contains_cases d n ns h)
  where
    later : Contains ns d → ((j : ℕ) → least ns ≡ Some j → j ≤ d) → (o : Option ℕ) → least ns ≡ o → least_with n o ≡ m → m ≤ d
    later k below None none s = contains_none d (subst (λ l. Contains l d) (least_none ns none) k)
    later k below (Some j) some s = let b : j ≤ d = below j some in omega (arith, b, s)

-- ---- calls of a procedure and its loops

record IsCalled (P Q : CoreProgram) (i n : ℕ) (ps : List CoreProc) (c : ℕ) : Type 0 where
  place : ℕ
  caller : CoreProc
  at : slice_get ps place ≡ Some caller
  owned : owner (n + place) caller.parent ≡ i
  calls : Contains (callees_of caller.body) c
  unmatched : is_unmatched P Q (slice_get P.procs c) ≡ true

module _ (P Q : CoreProgram) (i : ℕ) where
  abbrev test : ℕ → Bool
  test c = is_unmatched P Q (slice_get P.procs c)

  later_called : (n : ℕ) (p : CoreProc) (ps : List CoreProc) (c : ℕ) → IsCalled P Q i (suc n) ps c → IsCalled P Q i n (p ∷ ps) c
  later_called n p ps c h =
      let more : suc n + h.place ≡ n + suc h.place = omega arith in
      record { place = suc h.place; caller = h.caller; at = h.at; owned = ap (λ m. owner m h.caller.parent) (sym more) ∙ h.owned; calls = h.calls; unmatched = h.unmatched }

  called : (n : ℕ) (ps : List CoreProc) (c : ℕ) → Contains (unmatched_calls P Q i n ps) c → IsCalled P Q i n ps c
  called n [] c h = contains_none c h
  called n (p ∷ ps) c h = ⊎_elim (λ k. here (owner n p.parent == i) refl k) (λ k. later_called n p ps c (called (suc n) ps c k)) (Contains-append_cases (if owner n p.parent == i then filter test (callees_of p.body) else []) (unmatched_calls P Q i (suc n) ps) c h)
    where
      here : (b : Bool) → (owner n p.parent == i) ≡ b → Contains (if b then filter test (callees_of p.body) else []) c → IsCalled P Q i n (p ∷ ps) c
      here true e k =
          let r = (kept_exact test (callees_of p.body) c).0 k in
          let none : n + 0 ≡ n = omega arith in
          record { place = zero; caller = p; at = refl; owned = ap (λ m. owner m p.parent) none ∙ grind (arith, nat_tests, e); calls = r.0; unmatched = r.1 }
      here false e k = contains_none c k

  is_called : (n : ℕ) (ps : List CoreProc) (c place : ℕ) (caller : CoreProc) → slice_get ps place ≡ Some caller → owner (n + place) caller.parent ≡ i → Contains (callees_of caller.body) c → test c ≡ true → Contains (unmatched_calls P Q i n ps) c
  is_called n [] c place caller at owned calls unmatched = absurd (none-some caller at)
  is_called n (p ∷ ps) c zero caller at owned calls unmatched =
      let same : p ≡ caller = same_Some p caller at in
      let none : n ≡ n + 0 = omega arith in
      let own : owner n p.parent ≡ i = (λ k. owner (none k) (same k).parent) ∙ owned in
      let on : (owner n p.parent == i) ≡ true = grind (arith, nat_tests, own) in
      let kept = (kept_exact test (callees_of p.body) c).1 (subst (λ (y : CoreProc). Contains (callees_of y.body) c) (sym same) calls, unmatched) in
      Contains-append_left (if owner n p.parent == i then filter test (callees_of p.body) else []) (unmatched_calls P Q i (suc n) ps) c (subst (λ b. Contains (if b then filter test (callees_of p.body) else []) c) (sym on) kept)
  is_called n (p ∷ ps) c (suc place) caller at owned calls unmatched =
      let more : suc n + place ≡ n + suc place = omega arith in
      Contains-append_right (if owner n p.parent == i then filter test (callees_of p.body) else []) (unmatched_calls P Q i (suc n) ps) c (is_called (suc n) ps c place caller at (ap (λ m. owner m caller.parent) more ∙ owned) calls unmatched)

-- the procedure of the text that owns a body
owned-belongs : (P : CoreProgram) (i n : ℕ) (p : CoreProc) → slice_get P.procs n ≡ Some p → owner n p.parent ≡ i → BelongsTo P i n p
owned-belongs P i n p at e = (at, go p.parent e)
  where
    go : (o : Option (ℕ × ℕ)) → owner n o ≡ i → (n ≡ i) ⊎ ((k : ℕ) × (o ≡ Some (i, k)))
    go None e = inl e
    go (Some x) e = inr (x.1, λ j. Some (e j, x.1))

pub belongs-owned : (P : CoreProgram) (i n : ℕ) (root p : CoreProc) → IsInText P i root → BelongsTo P i n p → owner n p.parent ≡ i
belongs-owned P i n root p top (at, inl e) =
    let same : p ≡ root = same_Some p root (sym at ∙ ap (slice_get P.procs) e ∙ top.0) in
    ap (λ (y : CoreProc). owner n y.parent) same ∙ ap (owner n) top.1 ∙ e
belongs-owned P i n root p top (at, inr h) = ap (owner n) h.1

-- ---- the first one

-- what is told of procedure i of the text: nothing, or the first one's name
abbrev pub IsTold : CoreProgram → CoreProgram → ℕ → Option Text → Type 0
IsTold P Q i None = CallsNoUnmatched P Q i
IsTold P Q i (Some x) = IsFirstUnmatchedName P Q i x

module _ (P Q : CoreProgram) (formed : WellFormed P) (formed' : WellFormed Q) (i : ℕ) (root : CoreProc) (top : IsInText P i root) where
  calls_exact : (c : ℕ) → Contains (unmatched_calls P Q i 0 P.procs) c ↔ IsUnmatchedCall P Q i c
  calls_exact c = (
    λ h.
        let k = called P Q i 0 P.procs c h in
        let none : k.place ≡ 0 + k.place = omega arith in
        record { place = k.place; caller = k.caller; belongs = owned-belongs P i k.place k.caller k.at (ap (λ m. owner m k.caller.parent) none ∙ k.owned); calls = k.calls; unmatched = (unmatched_exact P Q formed formed' c).0 k.unmatched },
    λ h.
        let none : 0 + h.place ≡ h.place = omega arith in
        is_called P Q i 0 P.procs c h.place h.caller h.belongs.0 (ap (λ m. owner m h.caller.parent) none ∙ belongs-owned P i h.place root h.caller top h.belongs) h.calls ((unmatched_exact P Q formed formed' c).1 h.unmatched),
  )

  pub told : IsTold P Q i (first_unmatched P Q i)
  told = by_least (least (unmatched_calls P Q i 0 P.procs)) refl
    where
      by_least : (o : Option ℕ) → least (unmatched_calls P Q i 0 P.procs) ≡ o → IsTold P Q i (name_at P.procs o)
      by_least None e = λ c h. contains_none c (subst (λ l. Contains l c) (least_none (unmatched_calls P Q i 0 P.procs) e) ((calls_exact c).1 h))
      by_least (Some m) e =
          let call = (calls_exact m).0 (least_contained (unmatched_calls P Q i 0 P.procs) m e) in
          let there = all_there P call.caller call.caller.body m (formed.procs call.place call.caller call.belongs.0).body call.calls in
          subst (IsTold P Q i) (sym (ap (option_map (λ (p : CoreProc). p.name)) there.1)) (record {
            place = m;
            callee = there.0;
            first = (call, λ d h. least_below (unmatched_calls P Q i 0 P.procs) m d e ((calls_exact d).1 h));
            found = there.1;
            name = refl;
          })

-- Only one name is told.
pub one_name : (P Q : CoreProgram) (i : ℕ) (x y : Text) → IsFirstUnmatchedName P Q i x → IsFirstUnmatchedName P Q i y → x ≡ y
one_name P Q i x y a b =
    let below = a.first.1 b.place b.first.0 in
    let above = b.first.1 a.place a.first.0 in
    let place : a.place ≡ b.place = omega (arith, below, above) in
    let callee : a.callee ≡ b.callee = same_Some a.callee b.callee (sym a.found ∙ ap (slice_get P.procs) place ∙ b.found) in
    sym a.name ∙ ap (λ (p : CoreProc). p.name) callee ∙ b.name
