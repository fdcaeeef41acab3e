-- A mark that spreads to callers leaves the infallible procedures unmarked.
use Rattle.std.proofs.Common.{◌≡◌, ℕ, zero, suc, ◌+◌, ◌<◌, ◌⊎◌, inl, inr, List, [], ◌∷◌, ◌++◌, length, replicate, get_or, Option, refl, sym, ap, ◌∙◌, subst, ⊎_elim, arith, length-append}
use Rattle.std.specs.Prelude.{Bool, true, false, not, set, Some, slice_get, Contains, nat_lt, if◌then◌else◌}
use Rattle.std.specs.List.{list_all}
use Rattle.std.proofs.lemmas.List.{length-set, length-replicate, get_or-set_same, get_or-set_other, get_or-replicate, get_or_read}
use Rattle.std.proofs.lemmas.List.Elements.{Contains-append_left, Contains-push, Contains-push_cases}
use Rattle.std.proofs.lemmas.Bool.{cases_eq, ltb-true, lt-ltb, and_from, not-true, and_parts}
use Rattle.sd_core.specs.declared.CoreProc.{CoreProc}
use Rattle.sd_runs.specs.Calls.{callees_of, any_fail}
use Rattle.sd_runs.specs.Infallible.{IsInfallibleBody, IsInfallibleSet, AreIn, AreTheInfallible, entry_at}
use Rattle.sd_runs.specs.Marks.{callees_in, callees_at, Marks, marked, all_marked, may_be_infallible, refuted_from, with_callers}
use Rattle.sd_runs.proofs.Contained.{contains_first, contains_later, contains_none, contains_cases, all_at, all_by, all_in, all_of}
use Rattle.sd_runs.proofs.Callers.{AreCallers, are_callers, at}

-- ---- truth values

true_or_false : (b : Bool) → (b ≡ true) ⊎ (b ≡ false)
true_or_false true = inl refl
true_or_false false = inr refl

clash : {A : Type 0} (b : Bool) → b ≡ true → b ≡ false → A
clash b t f = absurd (let e : true ≡ false = sym t ∙ f in cc)

-- an entry is within its list
pub entry_in : (entries : List Bool) (k : ℕ) → entry_at entries k ≡ true → k < length entries
entry_in [] k e = absurd (cc)
entry_in (b ∷ entries) zero e = omega arith
entry_in (b ∷ entries) (suc k) e = let h = entry_in entries k e in omega arith

-- how many procedures are unmarked
abbrev pub unmarked : List Bool → ℕ
unmarked [] = 0
unmarked (true ∷ entries) = suc (unmarked entries)
unmarked (false ∷ entries) = unmarked entries

unmarked_less : (entries : List Bool) (k : ℕ) → entry_at entries k ≡ true → suc (unmarked (set entries k false)) ≡ unmarked entries
unmarked_less [] k e = absurd (cc)
unmarked_less (true ∷ entries) zero e = refl
unmarked_less (false ∷ entries) zero e = absurd (cc)
unmarked_less (true ∷ entries) (suc k) e = ap suc (unmarked_less entries k e)
unmarked_less (false ∷ entries) (suc k) e = unmarked_less entries k e

-- ---- marks on some procedures

pub record Moves (rs : List ℕ) (from to : Marks) : Type 0 where
  pub size : length to.0 ≡ length from.0
  pub lower : (k : ℕ) → entry_at to.0 k ≡ true → entry_at from.0 k ≡ true
  pub off : (k : ℕ) → Contains rs k → entry_at to.0 k ≡ false
  pub only : (k : ℕ) → entry_at from.0 k ≡ true → entry_at to.0 k ≡ false → Contains rs k × Contains to.1 k
  pub kept : (k : ℕ) → Contains from.1 k → Contains to.1 k
  pub new : (k : ℕ) → Contains to.1 k → Contains from.1 k ⊎ ((k < length from.0) × (entry_at to.0 k ≡ false))
  pub less : length to.1 + unmarked to.0 ≡ length from.1 + unmarked from.0

pub moves_none : (m : Marks) → Moves [] m m
moves_none m = record {
  size = refl;
  lower = λ k e. e;
  off = λ k c. contains_none k c;
  only = λ k t f. clash (entry_at m.0 k) t f;
  kept = λ k c. c;
  new = λ k c. inl c;
  less = refl;
}

module _ (r : ℕ) (qs : List Bool) (ws : List ℕ) (on : entry_at qs r ≡ true) where
  here_off : entry_at (set qs r false) r ≡ false
  here_off = get_or-set_same qs r false false (entry_in qs r on)

  others_same : (k : ℕ) → (k ≡ r → ⊥) → entry_at (set qs r false) k ≡ entry_at qs k
  others_same k n = get_or-set_other qs r k false false n

  move_on : Moves (r ∷ []) (qs, ws) (set qs r false, ws ++ r ∷ [])
  move_on = record {
    size = length-set qs r false;
    lower = λ k e. ⊎_elim
        (λ (s : k ≡ r). clash (entry_at (set qs r false) k) e (subst (λ (j : ℕ). entry_at (set qs r false) j ≡ false) (sym s) here_off))
        (λ (n : k ≡ r → ⊥). sym (others_same k n) ∙ e)
        (cases_eq k r);
    off = λ k c. ⊎_elim
        (λ (s : r ≡ k). subst (λ (j : ℕ). entry_at (set qs r false) j ≡ false) s here_off)
        (λ (d : Contains [] k). contains_none k d)
        (contains_cases k r [] c);
    only = λ k t f. ⊎_elim
        (λ (s : k ≡ r). subst (λ (j : ℕ). Contains (r ∷ []) j × Contains (ws ++ r ∷ []) j) (sym s) (contains_first r [], Contains-push ws r))
        (λ (n : k ≡ r → ⊥). clash (entry_at qs k) t (sym (others_same k n) ∙ f))
        (cases_eq k r);
    kept = λ k c. Contains-append_left ws (r ∷ []) k c;
    new = λ k c. ⊎_elim
        (λ (d : Contains ws k). inl d)
        (λ (s : r ≡ k). inr (subst (λ (j : ℕ). j < length qs) s (entry_in qs r on), subst (λ (j : ℕ). entry_at (set qs r false) j ≡ false) s here_off))
        (Contains-push_cases ws r k c);
    less = let a : length (ws ++ r ∷ []) ≡ length ws + 1 = length-append ws (r ∷ []) in let b = unmarked_less qs r on in omega arith;
  }

move_off : (r : ℕ) (m : Marks) → entry_at m.0 r ≡ false → Moves (r ∷ []) m m
move_off r m e = record {
  size = refl;
  lower = λ k t. t;
  off = λ k c. ⊎_elim
      (λ (s : r ≡ k). subst (λ (j : ℕ). entry_at m.0 j ≡ false) s e)
      (λ (d : Contains [] k). contains_none k d)
      (contains_cases k r [] c);
  only = λ k t f. clash (entry_at m.0 k) t f;
  kept = λ k c. c;
  new = λ k c. inl c;
  less = refl;
}

move_one : (r : ℕ) (m : Marks) → Moves (r ∷ []) m (marked r m)
move_one r m = go (entry_at m.0 r) refl
  where
    go : (b : Bool) → entry_at m.0 r ≡ b → Moves (r ∷ []) m (if b then (set m.0 r false, m.1 ++ r ∷ []) else m)
    go true e = move_on r m.0 m.1 e
    go false e = move_off r m e

moves_then : (r : ℕ) (rs : List ℕ) (a b c : Marks) → Moves (r ∷ []) a b → Moves rs b c → Moves (r ∷ rs) a c
moves_then r rs a b c f g = record {
  size = g.size ∙ f.size;
  lower = λ k e. f.lower k (g.lower k e);
  off = λ k h. ⊎_elim
      (λ (s : r ≡ k). ⊎_elim
      (λ (t : entry_at c.0 k ≡ true). clash (entry_at b.0 k) (g.lower k t) (f.off k (subst (λ (j : ℕ). Contains (r ∷ []) j) s (contains_first r []))))
      (λ (t : entry_at c.0 k ≡ false). t)
      (true_or_false (entry_at c.0 k)))
      (λ (d : Contains rs k). g.off k d)
      (contains_cases k r rs h);
  only = λ k t e. ⊎_elim
      (λ (u : entry_at b.0 k ≡ true). let o = g.only k u e in (contains_later r k rs o.0, o.1))
      (λ (u : entry_at b.0 k ≡ false).
      let o = f.only k t u in
      (⊎_elim (λ (s : r ≡ k). subst (λ (j : ℕ). Contains (r ∷ rs) j) s (contains_first r rs)) (λ (d : Contains [] k). contains_none k d) (contains_cases k r [] o.0), g.kept k o.1))
      (true_or_false (entry_at b.0 k));
  kept = λ k h. g.kept k (f.kept k h);
  new = λ k h. ⊎_elim
      (λ (d : Contains b.1 k). ⊎_elim
      (λ (i : Contains a.1 k). inl i)
      (λ (i : (k < length a.0) × (entry_at b.0 k ≡ false)). inr (
        i.0,
        ⊎_elim
            (λ (t : entry_at c.0 k ≡ true). clash (entry_at b.0 k) (g.lower k t) i.1)
            (λ (t : entry_at c.0 k ≡ false). t)
            (true_or_false (entry_at c.0 k)),
      ))
      (f.new k d))
      (λ (d : (k < length b.0) × (entry_at c.0 k ≡ false)). inr (subst (λ (n : ℕ). k < n) f.size d.0, d.1))
      (g.new k h);
  less = g.less ∙ f.less;
}

pub moves_all : (rs : List ℕ) (m : Marks) → Moves rs m (all_marked rs m)
moves_all [] m = moves_none m
moves_all (r ∷ rs) m = moves_then r rs m (marked r m) (all_marked rs (marked r m)) (move_one r m) (moves_all rs (marked r m))

-- ---- what bodies tell

pub may-parts : (n : ℕ) (p : CoreProc) → may_be_infallible n p ≡ true → (any_fail p.body ≡ false) × ((q : ℕ) → Contains (callees_of p.body) q → q < n)
may-parts n p h =
    let hs = and_parts (not (any_fail p.body)) (list_all (λ q. nat_lt q n) (callees_of p.body)) h in
    (not-true (any_fail p.body) hs.0, λ q c. ltb-true q n (all_at (λ q. nat_lt q n) (callees_of p.body) q (all_of (λ q. nat_lt q n) (callees_of p.body) hs.1) c))

pub infallible-may : (procs : List CoreProc) (infallible : ℕ → Bool) → AreIn procs infallible → (p : CoreProc) → IsInfallibleBody infallible p → may_be_infallible (length procs) p ≡ true
infallible-may procs infallible h p b =
    and_from (not (any_fail p.body)) (list_all (λ q. nat_lt q (length procs)) (callees_of p.body)) (ap not b.no_fail) (all_in infallible (λ q. nat_lt q (length procs)) (λ q e. lt-ltb q (length procs) (h q e)) (callees_of p.body) b.callees)

-- ---- the first marks

refuted-each : (n r : ℕ) (procs : List CoreProc) (k x : ℕ) (p : CoreProc) → x ≡ r + k → slice_get procs k ≡ Some p → may_be_infallible n p ≡ false → Contains (refuted_from n r procs) x
refuted-each n r [] k x p e f m = absurd (cc)
refuted-each n r (o ∷ procs) zero x p e f m =
    let same : o ≡ p = cc in
    let here : r ≡ x = omega arith in
    let off : may_be_infallible n o ≡ false = ap (may_be_infallible n) same ∙ m in
    subst (λ (b : Bool). Contains (if b then refuted_from n (suc r) procs else r ∷ refuted_from n (suc r) procs) x) (sym off) (subst (λ (y : ℕ). Contains (r ∷ refuted_from n (suc r) procs) y) here (contains_first r (refuted_from n (suc r) procs)))
refuted-each n r (o ∷ procs) (suc k) x p e f m = go (may_be_infallible n o) (refuted-each n (suc r) procs k x p (omega arith) f m)
  where
    go : (b : Bool) → Contains (refuted_from n (suc r) procs) x → Contains (if b then refuted_from n (suc r) procs else r ∷ refuted_from n (suc r) procs) x
    go true h = h
    go false h = contains_later r x (refuted_from n (suc r) procs) h

-- the procedure at a place can't be infallible by its body
abbrev Refuted : ℕ → List CoreProc → ℕ → Type 0
Refuted n procs k = (p : CoreProc) × (slice_get procs k ≡ Some p) × (may_be_infallible n p ≡ false)

refuted-only : (n r : ℕ) (procs : List CoreProc) (x : ℕ) → Contains (refuted_from n r procs) x → (k : ℕ) × (x ≡ r + k) × Refuted n procs k
refuted-only n r [] x h = contains_none x h
refuted-only n r (o ∷ procs) x h = go (may_be_infallible n o) refl (λ i. refuted-only n (suc r) procs x i) h
  where
    later : (k : ℕ) × (x ≡ suc r + k) × Refuted n procs k → (k : ℕ) × (x ≡ r + k) × Refuted n (o ∷ procs) k
    later i = (suc i.0, (omega (arith, i.1)), i.2)

    go : (b : Bool) → may_be_infallible n o ≡ b → (Contains (refuted_from n (suc r) procs) x → (k : ℕ) × (x ≡ suc r + k) × Refuted n procs k) → Contains (if b then refuted_from n (suc r) procs else r ∷ refuted_from n (suc r) procs) x → (k : ℕ) × (x ≡ r + k) × Refuted n (o ∷ procs) k
    go true e f i = later (f i)
    go false e f i = ⊎_elim
        (λ (s : r ≡ x). (zero, (omega (arith, s)), (o, refl, e)))
        (λ (j : Contains (refuted_from n (suc r) procs) x). later (f j))
        (contains_cases x r (refuted_from n (suc r) procs) i)

-- ---- the spread

-- so far: what is unmarked has no failure of its own, and each marked callee of it waits
pub record Spreads (procs : List CoreProc) (marks : Marks) : Type 0 where
  pub size : length marks.0 ≡ length procs
  pub own : (r : ℕ) (p : CoreProc) → slice_get procs r ≡ Some p → entry_at marks.0 r ≡ true → any_fail p.body ≡ false
  pub closed : (r q : ℕ) → entry_at marks.0 r ≡ true → Contains (callees_at procs r) q → entry_at marks.0 q ≡ false → Contains marks.1 q
  pub waits : (q : ℕ) → Contains marks.1 q → (q < length procs) × (entry_at marks.0 q ≡ false)
  pub above : (other : ℕ → Bool) → IsInfallibleSet procs other → AreIn procs other → (q : ℕ) → other q ≡ true → entry_at marks.0 q ≡ true

-- there is a procedure at a place
pub found_at : (procs : List CoreProc) (q : ℕ) → q < length procs → (p : CoreProc) × (slice_get procs q ≡ Some p)
found_at [] q l = absurd (omega arith)
found_at (p ∷ procs) zero l = (p, refl)
found_at (p ∷ procs) (suc q) l = found_at procs q (omega arith)

-- a place with a callee has a procedure
caller_found : (procs : List CoreProc) (r q : ℕ) → Contains (callees_at procs r) q → (p : CoreProc) × (slice_get procs r ≡ Some p) × Contains (callees_of p.body) q
caller_found [] r q c = contains_none q c
caller_found (p ∷ procs) zero q c = (p, refl, c)
caller_found (p ∷ procs) (suc r) q c = caller_found procs r q c

pub spread_begins : (procs : List CoreProc) → Spreads procs (all_marked (refuted_from (length procs) 0 procs) (replicate (length procs) true, []))
spread_begins procs =
    let n = length procs in
    let none : Marks = (replicate n true, []) in
    let rs = refuted_from n 0 procs in
    let to = all_marked rs none in
    let m = moves_all rs none in
    let long : length (replicate n true) ≡ n = length-replicate n true in
    let start = λ (q : ℕ) (l : q < n). get_or-replicate n q true false l in
    let may = λ (r : ℕ) (p : CoreProc) (f : slice_get procs r ≡ Some p) (t : entry_at to.0 r ≡ true). ⊎_elim
    (λ (u : may_be_infallible n p ≡ true). may-parts n p u)
    (λ (u : may_be_infallible n p ≡ false). clash (entry_at to.0 r) t (m.off r (refuted-each n 0 procs r r p (omega arith) f u)))
    (true_or_false (may_be_infallible n p)) in
    record {
      size = m.size ∙ long;
      own = λ r p f t. (may r p f t).0;
      closed = λ r q t c e. let p = caller_found procs r q c in (m.only q (start q ((may r p.0 p.1 t).1 q p.2)) e).1;
      waits = λ q c. ⊎_elim
          (λ (d : Contains [] q). contains_none q d)
          (λ (d : (q < length (replicate n true)) × (entry_at to.0 q ≡ false)). (subst (λ (j : ℕ). q < j) long d.0, d.1))
          (m.new q c);
      above = λ other set inside q o. ⊎_elim
          (λ (t : entry_at to.0 q ≡ true). t)
          (λ (t : entry_at to.0 q ≡ false).
          let i = refuted-only n 0 procs q (m.only q (start q (inside q o)) t).0 in
          let here : q ≡ i.0 = omega (arith, i.1) in
          let found : slice_get procs q ≡ Some i.2.0 = subst (λ (j : ℕ). slice_get procs j ≡ Some i.2.0) (sym here) i.2.1 in
          clash (may_be_infallible n i.2.0) (infallible-may procs other inside i.2.0 (set q i.2.0 o found)) i.2.2)
          (true_or_false (entry_at to.0 q));
    }

pub spreads_from : (procs : List CoreProc) (qs : List Bool) (ws : List ℕ) → qs ≡ replicate (length procs) true → ws ≡ [] → (to : Marks) → to ≡ all_marked (refuted_from (length procs) 0 procs) (qs, ws) → Spreads procs to
spreads_from procs qs ws q w to e = subst (Spreads procs) (sym (e ∙ (λ i. all_marked (refuted_from (length procs) 0 procs) (q i, w i)))) (spread_begins procs)

-- the callers of a waiting procedure are marked
pub spread_more : (procs : List CoreProc) (callers : List (List ℕ)) → AreCallers procs callers → (qs : List Bool) (ws : List ℕ) (c : ℕ) → Spreads procs (qs, ws ++ c ∷ []) → Spreads procs (all_marked (at callers c) (qs, ws))
spread_more procs callers are qs ws c s =
    let rs = at callers c in
    let to = all_marked rs (qs, ws) in
    let m = moves_all rs (qs, ws) in
    let last = s.waits c (Contains-push ws c) in
    let stays = λ (q : ℕ) (e : entry_at qs q ≡ false). ⊎_elim
    (λ (t : entry_at to.0 q ≡ true). clash (entry_at qs q) (m.lower q t) e)
    (λ (t : entry_at to.0 q ≡ false). t)
    (true_or_false (entry_at to.0 q)) in
    record {
      size = m.size ∙ s.size;
      own = λ r p f t. s.own r p f (m.lower r t);
      closed = λ r q t d e. ⊎_elim
          (λ (u : entry_at qs q ≡ true). (m.only q u e).1)
          (λ (u : entry_at qs q ≡ false). ⊎_elim
          (λ (i : Contains ws q). m.kept q i)
          (λ (i : c ≡ q). clash (entry_at to.0 r) t (m.off r (are.each c r last.0 (subst (λ (j : ℕ). Contains (callees_at procs r) j) (sym i) d))))
          (Contains-push_cases ws c q (s.closed r q (m.lower r t) d u)))
          (true_or_false (entry_at qs q));
      waits = λ q d. ⊎_elim
          (λ (i : Contains ws q). let w = s.waits q (Contains-append_left ws (c ∷ []) q i) in (w.0, stays q w.1))
          (λ (i : (q < length qs) × (entry_at to.0 q ≡ false)). (subst (λ (j : ℕ). q < j) s.size i.0, i.1))
          (m.new q d);
      above = λ other set inside q o. ⊎_elim
          (λ (t : entry_at to.0 q ≡ true). t)
          (λ (t : entry_at to.0 q ≡ false).
          let calls = are.only c q last.0 (m.only q (s.above other set inside q o) t).0 in
          let p = caller_found procs q c calls in
          let infallible = all_at other (callees_of p.0.body) c (set q p.0 o p.1).callees p.2 in
          clash (entry_at qs c) (s.above other set inside c infallible) last.1)
          (true_or_false (entry_at to.0 q));
    }

-- the measure of the spread
pub spread_less : (rs : List ℕ) (qs : List Bool) (ws : List ℕ) → length (all_marked rs (qs, ws)).1 + unmarked (all_marked rs (qs, ws)).0 ≡ length ws + unmarked qs
spread_less rs qs ws = (moves_all rs (qs, ws)).less

pub spread_done : (procs : List CoreProc) (qs : List Bool) (ws : List ℕ) → length ws ≡ 0 → Spreads procs (qs, ws) → AreTheInfallible procs (entry_at qs)
spread_done procs qs ws long s = record {
  is_set = λ q p t f. record {
    no_fail = s.own q p f t;
    callees = all_by (entry_at qs) (callees_of p.body) (λ d c. ⊎_elim
        (λ (u : entry_at qs d ≡ true). u)
        (λ (u : entry_at qs d ≡ false). let w = s.closed q d t (here q p f d c) u in absurd (omega (arith, w.1)))
        (true_or_false (entry_at qs d)));
  };
  are_in = λ q t. subst (λ (n : ℕ). q < n) s.size (entry_in qs q t);
  greatest = s.above;
}
  where
    here : (q : ℕ) (p : CoreProc) → slice_get procs q ≡ Some p → (d : ℕ) → Contains (callees_of p.body) d → Contains (callees_at procs q) d
    here q p f d c = subst (λ (o : Option CoreProc). Contains (callees_in o) d) (sym f) c

-- ---- a turn of the search

module _ (procs : List CoreProc) (callers : List (List ℕ)) (is : callers ≡ with_callers 0 procs (replicate (length procs) [])) (qs : List Bool) (ws rest : List ℕ) (c : ℕ) (s : Spreads procs (qs, ws)) (popped : ws ≡ rest ++ c ∷ []) where
  before : Spreads procs (qs, rest ++ c ∷ [])
  before = subst (λ (l : List ℕ). Spreads procs (qs, l)) popped s

  pub turn_in : c < length callers
  turn_in =
      let known = are_callers procs in
      let size : length callers ≡ length procs = ap length is ∙ known.size in
      let within = (before.waits c (Contains-push rest c)).0 in
      omega arith

  -- the list of callers that the code reads
  pub turn_reads : (cs : List ℕ) → cs ≡ get_or callers c cs → cs ≡ at callers c
  turn_reads cs e = get_or_read callers c cs turn_in e []

  module _ (cs : List ℕ) (read : cs ≡ at callers c) (to : Marks) (moved : to ≡ all_marked cs (qs, rest)) where
    pub turn_spreads : Spreads procs to
    turn_spreads =
        let known : AreCallers procs callers = subst (AreCallers procs) (sym is) (are_callers procs) in
        subst (Spreads procs) (sym (moved ∙ ap (λ (l : List ℕ). all_marked l (qs, rest)) read)) (spread_more procs callers known qs rest c before)

    pub turn_less : length to.1 + unmarked to.0 < length ws + unmarked qs
    turn_less =
        let same : length to.1 + unmarked to.0 ≡ length rest + unmarked qs = ap (λ (m : Marks). length m.1 + unmarked m.0) moved ∙ spread_less cs qs rest in
        let shorter : length ws ≡ length rest + 1 = ap length popped ∙ length-append rest (c ∷ []) in
        omega arith
