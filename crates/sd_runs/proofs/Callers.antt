-- The lists of callers hold the callers.
use Rattle.std.proofs.Common.{◌≡◌, ℕ, zero, suc, ◌+◌, ◌<◌, ◌⊎◌, inl, inr, List, [], ◌∷◌, ◌++◌, length, replicate, get_or, refl, sym, ◌∙◌, subst, ⊎_elim, arith}
use Rattle.std.specs.Prelude.{set, Contains}
use Rattle.std.proofs.lemmas.List.{length-set, length-replicate, get_or-set_same, get_or-set_other, get_or-replicate}
use Rattle.std.proofs.lemmas.List.Elements.{Contains-append_left, Contains-push, Contains-push_cases}
use Rattle.std.proofs.lemmas.Bool.{cases_eq}
use Rattle.sd_core.specs.declared.CoreProc.{CoreProc}
use Rattle.sd_runs.specs.Calls.{callees_of}
use Rattle.sd_runs.specs.Marks.{callees_at, with_caller, with_callers}
use Rattle.sd_runs.proofs.Contained.{contains_first, contains_later, contains_none, contains_cases}

-- ---- one caller

-- what stands at a place of lists
abbrev pub at : List (List ℕ) → ℕ → List ℕ
at lists q = get_or lists q []

abbrev one_more : List (List ℕ) → (c r : ℕ) → List (List ℕ)
one_more lists c r = set lists c (at lists c ++ r ∷ [])

at_same : (lists : List (List ℕ)) (c r : ℕ) → c < length lists → at (one_more lists c r) c ≡ at lists c ++ r ∷ []
at_same lists c r l = get_or-set_same lists c (at lists c ++ r ∷ []) [] l

at_other : (lists : List (List ℕ)) (c r q : ℕ) → (q ≡ c → ⊥) → at (one_more lists c r) q ≡ at lists q
at_other lists c r q n = get_or-set_other lists c q (at lists c ++ r ∷ []) [] n

pub one_more_length : (lists : List (List ℕ)) (c r : ℕ) → length (one_more lists c r) ≡ length lists
one_more_length lists c r = length-set lists c (at lists c ++ r ∷ [])

-- those in the list stay there
one_kept : (lists : List (List ℕ)) (c r q x : ℕ) → q < length lists → Contains (at lists q) x → Contains (at (one_more lists c r) q) x
one_kept lists c r q x l h = ⊎_elim
    (λ (e : q ≡ c). subst (λ (d : ℕ). Contains (at (one_more lists c r) d) x) (sym e) (subst (λ (ys : List ℕ). Contains ys x) (sym (at_same lists c r (omega arith))) (Contains-append_left (at lists c) (r ∷ []) x (subst (λ (d : ℕ). Contains (at lists d) x) e h))))
    (λ (n : q ≡ c → ⊥). subst (λ (ys : List ℕ). Contains ys x) (sym (at_other lists c r q n)) h)
    (cases_eq q c)

one_cases : (lists : List (List ℕ)) (c r q x : ℕ) → q < length lists → Contains (at (one_more lists c r) q) x → Contains (at lists q) x ⊎ ((c ≡ q) × (x ≡ r))
one_cases lists c r q x l h = ⊎_elim
    (λ (e : q ≡ c).
    let here : Contains (at lists c ++ r ∷ []) x = subst (λ (ys : List ℕ). Contains ys x) (at_same lists c r (omega arith)) (subst (λ (d : ℕ). Contains (at (one_more lists c r) d) x) e h) in
    ⊎_elim
    (λ (k : Contains (at lists c) x). inl (subst (λ (d : ℕ). Contains (at lists d) x) (sym e) k))
    (λ (k : r ≡ x). inr (sym e, sym k))
    (Contains-push_cases (at lists c) r x here))
    (λ (n : q ≡ c → ⊥). inl (subst (λ (ys : List ℕ). Contains ys x) (at_other lists c r q n) h))
    (cases_eq q c)

pub caller_length : (r : ℕ) (cs : List ℕ) (lists : List (List ℕ)) → length (with_caller r cs lists) ≡ length lists
caller_length r [] lists = refl
caller_length r (c ∷ cs) lists = caller_length r cs (one_more lists c r) ∙ one_more_length lists c r

caller_kept : (r : ℕ) (cs : List ℕ) (lists : List (List ℕ)) (q x : ℕ) → q < length lists → Contains (at lists q) x → Contains (at (with_caller r cs lists) q) x
caller_kept r [] lists q x l h = h
caller_kept r (c ∷ cs) lists q x l h = caller_kept r cs (one_more lists c r) q x (omega (arith, one_more_length lists c r)) (one_kept lists c r q x l h)

caller_added : (r : ℕ) (cs : List ℕ) (lists : List (List ℕ)) (q : ℕ) → q < length lists → Contains cs q → Contains (at (with_caller r cs lists) q) r
caller_added r [] lists q l h = contains_none q h
caller_added r (c ∷ cs) lists q l h = ⊎_elim
    (λ (e : c ≡ q). caller_kept r cs (one_more lists c r) q r (omega (arith, one_more_length lists c r)) (subst (λ (d : ℕ). Contains (at (one_more lists c r) d) r) e (subst (λ (ys : List ℕ). Contains ys r) (sym (at_same lists c r (omega arith))) (Contains-push (at lists c) r))))
    (λ (k : Contains cs q). caller_added r cs (one_more lists c r) q (omega (arith, one_more_length lists c r)) k)
    (contains_cases q c cs h)

caller_cases : (r : ℕ) (cs : List ℕ) (lists : List (List ℕ)) (q x : ℕ) → q < length lists → Contains (at (with_caller r cs lists) q) x → Contains (at lists q) x ⊎ ((x ≡ r) × Contains cs q)
caller_cases r [] lists q x l h = inl h
caller_cases r (c ∷ cs) lists q x l h = ⊎_elim
    (λ (k : Contains (at (one_more lists c r) q) x). ⊎_elim
    (λ (j : Contains (at lists q) x). inl j)
    (λ (j : (c ≡ q) × (x ≡ r)). inr (j.1, subst (λ (d : ℕ). Contains (c ∷ cs) d) j.0 (contains_first c cs)))
    (one_cases lists c r q x l k))
    (λ (k : (x ≡ r) × Contains cs q). inr (k.0, contains_later c q cs k.1))
    (caller_cases r cs (one_more lists c r) q x (omega (arith, one_more_length lists c r)) h)

-- ---- all callers

callers_kept : (r : ℕ) (procs : List CoreProc) (lists : List (List ℕ)) (q x : ℕ) → q < length lists → Contains (at lists q) x → Contains (at (with_callers r procs lists) q) x
callers_kept r [] lists q x l h = h
callers_kept r (p ∷ procs) lists q x l h =
    callers_kept (suc r) procs (with_caller r (callees_of p.body) lists) q x (omega (arith, caller_length r (callees_of p.body) lists)) (caller_kept r (callees_of p.body) lists q x l h)

callers_added : (r : ℕ) (procs : List CoreProc) (lists : List (List ℕ)) (q k x : ℕ) → q < length lists → x ≡ r + k → Contains (callees_at procs k) q → Contains (at (with_callers r procs lists) q) x
callers_added r [] lists q k x l e h = contains_none q h
callers_added r (p ∷ procs) lists q zero x l e h =
    let longer : q < length (with_caller r (callees_of p.body) lists) = omega (arith, caller_length r (callees_of p.body) lists) in
    let same : r ≡ x = omega arith in
    callers_kept (suc r) procs (with_caller r (callees_of p.body) lists) q x longer (subst (λ (y : ℕ). Contains (at (with_caller r (callees_of p.body) lists) q) y) same (caller_added r (callees_of p.body) lists q l h))
callers_added r (p ∷ procs) lists q (suc k) x l e h =
    callers_added (suc r) procs (with_caller r (callees_of p.body) lists) q k x (omega (arith, caller_length r (callees_of p.body) lists)) (omega arith) h

callers_cases : (r : ℕ) (procs : List CoreProc) (lists : List (List ℕ)) (q x : ℕ) → q < length lists → Contains (at (with_callers r procs lists) q) x → Contains (at lists q) x ⊎ ((k : ℕ) × (x ≡ r + k) × Contains (callees_at procs k) q)
callers_cases r [] lists q x l h = inl h
callers_cases r (p ∷ procs) lists q x l h = ⊎_elim
    (λ (j : Contains (at (with_caller r (callees_of p.body) lists) q) x). ⊎_elim
    (λ (i : Contains (at lists q) x). inl i)
    (λ (i : (x ≡ r) × Contains (callees_of p.body) q). inr (zero, (omega (arith, i.0)), i.1))
    (caller_cases r (callees_of p.body) lists q x l j))
    (λ (j : (k : ℕ) × (x ≡ suc r + k) × Contains (callees_at procs k) q). inr (suc j.0, (omega (arith, j.1)), j.2))
    (callers_cases (suc r) procs (with_caller r (callees_of p.body) lists) q x (omega (arith, caller_length r (callees_of p.body) lists)) h)

pub callers_length : (r : ℕ) (procs : List CoreProc) (lists : List (List ℕ)) → length (with_callers r procs lists) ≡ length lists
callers_length r [] lists = refl
callers_length r (p ∷ procs) lists = callers_length (suc r) procs (with_caller r (callees_of p.body) lists) ∙ caller_length r (callees_of p.body) lists

-- the list of each procedure has the places of its callers
pub record AreCallers (procs : List CoreProc) (callers : List (List ℕ)) : Type 0 where
  pub size : length callers ≡ length procs
  pub each : (q r : ℕ) → q < length procs → Contains (callees_at procs r) q → Contains (at callers q) r
  pub only : (q r : ℕ) → q < length procs → Contains (at callers q) r → Contains (callees_at procs r) q

pub are_callers : (procs : List CoreProc) → AreCallers procs (with_callers 0 procs (replicate (length procs) []))
are_callers procs =
    let none : List (List ℕ) = replicate (length procs) [] in
    let long : length none ≡ length procs = length-replicate (length procs) [] in
    record {
      size = callers_length 0 procs none ∙ long;
      each = λ q r l h. callers_added 0 procs none q r r (omega arith) (omega arith) h;
      only = λ q r l h. ⊎_elim
          (λ (k : Contains (at none q) r). contains_none r (subst (λ (ys : List ℕ). Contains ys r) (get_or-replicate (length procs) q [] [] l) k))
          (λ (k : (j : ℕ) × (r ≡ 0 + j) × Contains (callees_at procs j) q). let same : k.0 ≡ r = omega (arith, k.1) in subst (λ (s : ℕ). Contains (callees_at procs s) q) same k.2)
          (callers_cases 0 procs none q r (omega arith) h);
    }
