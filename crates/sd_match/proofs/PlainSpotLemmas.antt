-- The inputs and outputs of pairs, in plain words.
use Rattle.std.proofs.Common.{◌≡◌, ◌∙◌, sym, ap, refl, subst, ℕ, zero, suc, ◌+◌, ◌<◌, List, [], ◌∷◌, ◌++◌, append_assoc, append-nil, length, length-append, take, drop, ◌⊎◌, inl, inr, ⊎_elim, arith}
use Rattle.std.proofs.Math.Seq.{take-append_seam, drop-append_seam, take-length, drop-length}
use Rattle.std.proofs.lemmas.List.{append_cancel_left}
use Rattle.std.proofs.lemmas.Option.{none-some, same_Some}
use Rattle.std.specs.Prelude.{◌≢◌, ◌↔◌, Option, Some, None, slice_get, Contains}
use Rattle.std.specs.List.{AllByRecursion}
use Rattle.sd_base.specs.declared.Sort.TheVariants.{Bool as BoolSort}
use Rattle.sd_base.specs.declared.Var.{Var}
use Rattle.sd_core.specs.declared.Spot.TheVariants.{Slot}
use Rattle.sd_core.specs.declared.CoreProc.{CoreProc}
use Rattle.sd_core.specs.declared.CoreProgram.{CoreProgram}
use Rattle.sd_core.specs.Formed.{copy_of, copies_of, left, IsLoop, WellFormed}
use Rattle.sd_core.specs.Failure.{shared_of}
use Rattle.sd_match.specs.declared.pair.SpotPair.{SpotPair}
use Rattle.sd_match.specs.declared.pair.PairState.{PairState}
use Rattle.sd_match.specs.declared.pair.PairState.TheVariants.{Open, Signature, UnmatchedRecursion}
use Rattle.sd_match.specs.declared.pair.Pair.{Pair}
use Rattle.sd_match.specs.Pairs.{by_position, by_name, shared_pairs, modified_globals, root_by, root_of, fixed_ins, fixed_outs, carried_count, in_pairs, out_pairs, inputs_of, outputs_of, pair_with}
use Rattle.sd_match.specs.PlainPairs.{IsLoopOf}
use Rattle.sd_match.specs.PlainSpots.{IsOf, IsAtOnePosition, IsOfOneName, IsSharedGlobal, IsModified, parameters, carried, results, IsLeft, Ascend, SpotsArePlain}
use Rattle.sd_match.proofs.ContainLemmas.{append_exact}
use Rattle.sd_match.proofs.PlainListLemmas.{IsMade, made, root_state, old_is, new_is, state_is}
use Rattle.sd_match.proofs.SpotOrderLemmas.{inputs-order, outputs-order}
use Rattle.sd_match.proofs.SpotListLemmas.{position_exact, name_exact, global_exact, modified_exact}

-- ---- parts of lists

record IsSplit {A : Type 0} (n : ℕ) (whole front rest : List A) : Type 0 where
  front_is : take n whole ≡ front
  rest_is : drop n whole ≡ rest

split : {A : Type 0} (xs ys whole : List A) (n : ℕ) → whole ≡ xs ++ ys → n ≡ length xs → IsSplit n whole xs ys
split xs ys whole n e f = record {
  front_is = (λ k. take (f k) (e k)) ∙ take-append_seam xs ys;
  rest_is = (λ k. drop (f k) (e k)) ∙ drop-append_seam xs ys;
}

all_front : {A : Type 0} (xs : List A) → IsSplit (length xs) xs xs []
all_front xs = record { front_is = take-length xs; rest_is = drop-length xs }

-- ---- in-parameters and out-parameters

in_exact : (a b : ℕ) (olds news xs ys us vs : List Var) (s : SpotPair) → IsSplit a olds xs us → IsSplit b news ys vs → Contains (in_pairs a b olds news) s ↔ (IsAtOnePosition 0 0 xs ys s ⊎ IsOfOneName a b us vs s)
in_exact a b olds news xs ys us vs s old new =
    let same : by_position 0 0 xs ys ++ by_name a b us vs ≡ in_pairs a b olds news = λ k. by_position 0 0 (sym old.front_is k) (sym new.front_is k) ++ by_name a b (sym old.rest_is k) (sym new.rest_is k) in
    subst (λ l. Contains l s ↔ (IsAtOnePosition 0 0 xs ys s ⊎ IsOfOneName a b us vs s)) same
    (append_exact (by_position 0 0 xs ys) (by_name a b us vs) s (position_exact 0 0 xs ys s) (name_exact a b us vs s))

-- the parts of out-parameters
record AreParts (a d : ℕ) (whole xs us ts : List Var) : Type 0 where
  fixed : take a whole ≡ xs
  carried : take d (drop a whole) ≡ us
  rest : drop (a + d) whole ≡ ts

out_exact : (i j a b d e : ℕ) (olds news xs ys us vs ts zs : List Var) (s : SpotPair) → AreParts a d olds xs us ts → AreParts b e news ys vs zs → Contains (out_pairs i j a b d e olds news) s ↔ (IsAtOnePosition i j xs ys s ⊎ (IsOfOneName (i + a) (j + b) us vs s ⊎ IsAtOnePosition (i + (a + d)) (j + (b + e)) ts zs s))
out_exact i j a b d e olds news xs ys us vs ts zs s old new =
    let first = by_position i j xs ys in
    let second = by_name (i + a) (j + b) us vs in
    let third = by_position (i + (a + d)) (j + (b + e)) ts zs in
    let same : first ++ (second ++ third) ≡ out_pairs i j a b d e olds news = λ k. by_position i j (sym old.fixed k) (sym new.fixed k) ++ (by_name (i + a) (j + b) (sym old.carried k) (sym new.carried k) ++ by_position (i + (a + d)) (j + (b + e)) (sym old.rest k) (sym new.rest k)) in
    subst (λ l. Contains l s ↔ (IsAtOnePosition i j xs ys s ⊎ (IsOfOneName (i + a) (j + b) us vs s ⊎ IsAtOnePosition (i + (a + d)) (j + (b + e)) ts zs s))) same
    (append_exact first (second ++ third) s (position_exact i j xs ys s) (append_exact second third s (name_exact (i + a) (j + b) us vs s) (position_exact (i + (a + d)) (j + (b + e)) ts zs s)))

-- nothing stands in an empty list
no_name : (i j : ℕ) (ys : List Var) (s : SpotPair) → IsOfOneName i j [] ys s → ⊥
no_name i j ys s h = none-some h.x h.old

no_position : (i j : ℕ) (ys : List Var) (s : SpotPair) → IsAtOnePosition i j [] ys s → ⊥
no_position i j ys s h = none-some h.x h.old

-- ---- procedures of the texts

module _ (P Q : CoreProgram) (formed : WellFormed Q) (p q : CoreProc) where
  abbrev shared_inputs : List SpotPair
  shared_inputs = shared_pairs P.globals (shared_of P.globals Q.globals)

  abbrev shared_outputs : List SpotPair
  shared_outputs = shared_pairs P.globals (modified_globals p q (shared_of P.globals Q.globals))

  module _ (top : p.parent ≡ None) (top' : q.parent ≡ None) where
    text_inputs : in_pairs (length p.ins) (length q.ins) p.ins q.ins ++ shared_inputs ≡ inputs_of P Q p q
    text_inputs = λ k. in_pairs (fixed_ins p (root_by P (sym top k))) (fixed_ins q (root_by Q (sym top' k))) p.ins q.ins ++ shared_inputs

    text_outputs : out_pairs (length p.ins) (length q.ins) (length p.outs) (length q.outs) 0 0 p.outs q.outs ++ shared_outputs ≡ outputs_of P Q p q
    text_outputs = λ k. out_pairs (length p.ins) (length q.ins) (fixed_outs p (root_by P (sym top k))) (fixed_outs q (root_by Q (sym top' k))) (carried_count p (root_by P (sym top k))) (carried_count q (root_by Q (sym top' k))) p.outs q.outs ++ shared_outputs

    all_parts : (xs : List Var) → AreParts (length xs) 0 xs xs [] []
    all_parts xs = record {
      fixed = take-length xs;
      carried = refl;
      rest = ap (λ n. drop n xs) (let e : length xs + 0 ≡ length xs = omega arith in e) ∙ drop-length xs;
    }

    text_in : (s : SpotPair) → Contains (inputs_of P Q p q) s ↔ (IsAtOnePosition 0 0 p.ins q.ins s ⊎ IsSharedGlobal P Q s)
    text_in s =
        let ins = in_exact (length p.ins) (length q.ins) p.ins q.ins p.ins q.ins [] [] s (all_front p.ins) (all_front q.ins) in
        let both = append_exact (in_pairs (length p.ins) (length q.ins) p.ins q.ins) shared_inputs s ins (global_exact P Q formed s) in (
          λ h. ⊎_elim (λ k. ⊎_elim (λ a. inl a) (λ a. absurd (no_name (length p.ins) (length q.ins) [] s a)) k) (λ g. inr g) (both.0 (subst (λ l. Contains l s) (sym text_inputs) h)),
          λ h. subst (λ l. Contains l s) text_inputs (both.1 (⊎_elim (λ a. inl (inl a)) (λ g. inr g) h)),
        )

    text_out : (s : SpotPair) → Contains (outputs_of P Q p q) s ↔ (IsAtOnePosition (length p.ins) (length q.ins) p.outs q.outs s ⊎ IsModified P Q p q s)
    text_out s =
        let outs = out_exact (length p.ins) (length q.ins) (length p.outs) (length q.outs) 0 0 p.outs q.outs p.outs q.outs [] [] [] [] s (all_parts p.outs) (all_parts q.outs) in
        let both = append_exact (out_pairs (length p.ins) (length q.ins) (length p.outs) (length q.outs) 0 0 p.outs q.outs) shared_outputs s outs (modified_exact P Q formed p q s) in (
          λ h. ⊎_elim
              (λ k. ⊎_elim (λ a. inl a) (λ a. ⊎_elim (λ b. absurd (no_name (length p.ins + length p.outs) (length q.ins + length q.outs) [] s b)) (λ b. absurd (no_position (length p.ins + (length p.outs + 0)) (length q.ins + (length q.outs + 0)) [] s b)) a) k)
              (λ g. inr g) (both.0 (subst (λ l. Contains l s) (sym text_outputs) h)),
          λ h. subst (λ l. Contains l s) text_outputs (both.1 (⊎_elim (λ a. inl (inl a)) (λ g. inr g) h)),
        )

-- ---- what is known of a loop

copies-count : (globals : List Var) (ms : List ℕ) → AllByRecursion (λ i. i < length globals) ms → length (copies_of globals ms) ≡ length ms
copies-count globals [] all = refl
copies-count globals (m ∷ ms) all = go (slice_get globals m) refl (copies-count globals ms all.1)
  where
    there : (xs : List Var) (i : ℕ) → i < length xs → slice_get xs i ≡ None → ⊥
    there [] i below e = omega (arith, below)
    there (x ∷ xs) zero below e = none-some x (sym e)
    there (x ∷ xs) (suc i) below e = there xs i (omega (arith, below)) e

    go : (o : Option Var) → slice_get globals m ≡ o → length (copies_of globals ms) ≡ length ms → length (copy_of o ++ copies_of globals ms) ≡ suc (length ms)
    go None e rest = absurd (there globals m all.0 e)
    go (Some x) e rest = ap suc rest

module _ {P : CoreProgram} {n i k : ℕ} {p : CoreProc} (l : IsLoop P n i k p) where
  root_found : p.parent ≡ Some (i, k) → root_of P p ≡ Some l.root
  root_found parent = ap (root_by P) parent ∙ l.found

  ins_split : IsSplit (length l.root.ins + length l.root.outs) p.ins (parameters l) (carried l)
  ins_split =
      let copies = copies_of P.globals l.root.modifies in
      split (parameters l) (carried l) p.ins (length l.root.ins + length l.root.outs)
      (l.ins ∙ ap (λ ys. l.root.ins ++ ys) (append_assoc l.root.outs l.declared copies) ∙ sym (append_assoc l.root.ins l.root.outs (l.declared ++ copies)))
      (sym (length-append l.root.ins l.root.outs))

  carried_is : AllByRecursion (λ j. j < length P.globals) p.modifies → carried_count p (Some l.root) ≡ length l.declared
  carried_is within =
      let copies = copies_of P.globals l.root.modifies in
      let a : length p.ins ≡ length l.root.ins + (length (l.root.outs ++ l.declared) + length copies) = ap length l.ins ∙ length-append l.root.ins ((l.root.outs ++ l.declared) ++ copies) ∙ ap (λ m. length l.root.ins + m) (length-append (l.root.outs ++ l.declared) copies) in
      let b = length-append l.root.outs l.declared in
      let c = copies-count P.globals l.root.modifies (subst (AllByRecursion (λ j. j < length P.globals)) l.modifies within) in
      let d : length p.modifies ≡ length l.root.modifies = ap length l.modifies in
      omega (arith, a, b, c, d)

  -- the end of its out-parameters
  tail : (ts : List Var) × (p.outs ≡ results l ++ ts) × ((ts ≡ []) ⊎ (ts ≡ left))
  tail = by_outs l.outs
    where
      by_outs : (p.outs ≡ results l) ⊎ (p.outs ≡ results l ++ left) → (ts : List Var) × (p.outs ≡ results l ++ ts) × ((ts ≡ []) ⊎ (ts ≡ left))
      by_outs (inl e) = ([], e ∙ sym (append-nil (results l)), inl refl)
      by_outs (inr e) = (left, e, inr refl)

  outs_parts : (d : ℕ) → d ≡ length l.declared → AreParts (length l.root.outs) d p.outs l.root.outs l.declared tail.0
  outs_parts d counted =
      let whole : p.outs ≡ l.root.outs ++ (l.declared ++ tail.0) = tail.1 ∙ append_assoc l.root.outs l.declared tail.0 in
      let a = split l.root.outs (l.declared ++ tail.0) p.outs (length l.root.outs) whole refl in
      let b = split l.declared tail.0 (l.declared ++ tail.0) d refl counted in
      let c = split (results l) tail.0 p.outs (length l.root.outs + d) tail.1 (ap (λ m. length l.root.outs + m) counted ∙ sym (length-append l.root.outs l.declared)) in
      record { fixed = a.front_is; carried = ap (take d) a.rest_is ∙ b.front_is; rest = c.rest_is }

-- ---- loops

shift_position : (i i' j j' : ℕ) (xs ys : List Var) (s : SpotPair) → i ≡ i' → j ≡ j' → IsAtOnePosition i j xs ys s → IsAtOnePosition i' j' xs ys s
shift_position i i' j j' xs ys s e f = subst (λ m. IsAtOnePosition m j xs ys s → IsAtOnePosition i' j' xs ys s) (sym e) (subst (λ m. IsAtOnePosition i' m xs ys s → IsAtOnePosition i' j' xs ys s) (sym f) (λ h. h))

shift_name : (i i' j j' : ℕ) (xs ys : List Var) (s : SpotPair) → i ≡ i' → j ≡ j' → IsOfOneName i j xs ys s → IsOfOneName i' j' xs ys s
shift_name i i' j j' xs ys s e f = subst (λ m. IsOfOneName m j xs ys s → IsOfOneName i' j' xs ys s) (sym e) (subst (λ m. IsOfOneName i' m xs ys s → IsOfOneName i' j' xs ys s) (sym f) (λ h. h))

-- both lists have one variable, or one of them has none
one_left : (i j : ℕ) (ts zs : List Var) (s : SpotPair) → (ts ≡ []) ⊎ (ts ≡ left) → (zs ≡ []) ⊎ (zs ≡ left) → IsAtOnePosition i j ts zs s → (ts ≡ left) × (zs ≡ left) × IsOf (Slot i) (Slot j) BoolSort s
one_left i j ts zs s (inl e) f h = absurd (none-some h.x (sym (ap (λ xs. slice_get xs h.place) e) ∙ h.old))
one_left i j ts zs s (inr e) (inl f) h = absurd (none-some h.y (sym (ap (λ xs. slice_get xs h.place) f) ∙ h.new))
one_left i j ts zs s (inr e) (inr f) h = (e, f, by_place h.place h.x (sym (ap (λ xs. slice_get xs h.place) e) ∙ h.old) h.is)
  where
    by_place : (k : ℕ) (x : Var) → slice_get left k ≡ Some x → IsOf (Slot (i + k)) (Slot (j + k)) x.sort s → IsOf (Slot i) (Slot j) BoolSort s
    by_place zero x at is =
        let m : i + 0 ≡ i = omega arith in
        let n : j + 0 ≡ j = omega arith in
        subst (λ a. IsOf (Slot a) (Slot j) BoolSort s) m (subst (λ b. IsOf (Slot (i + 0)) (Slot b) BoolSort s) n (subst (λ t. IsOf (Slot (i + 0)) (Slot (j + 0)) t s) (ap (λ (y : Var). y.sort) (sym (same_Some _ x at))) is))
    by_place (suc k) x at is = absurd (none-some x at)

left_one : (i j : ℕ) (ts zs : List Var) (s : SpotPair) → ts ≡ left → zs ≡ left → IsOf (Slot i) (Slot j) BoolSort s → IsAtOnePosition i j ts zs s
left_one i j ts zs s e f is =
    let m : i ≡ i + 0 = omega arith in
    let n : j ≡ j + 0 = omega arith in
    record {
      place = zero;
      x = _;
      y = _;
      old = ap (λ xs. slice_get xs 0) e;
      new = ap (λ xs. slice_get xs 0) f;
      is = subst (λ a. IsOf (Slot a) (Slot (j + 0)) BoolSort s) m (subst (λ b. IsOf (Slot i) (Slot b) BoolSort s) n is);
    }

module _ (P Q : CoreProgram) (formed : WellFormed P) (formed' : WellFormed Q) (m n i j k k' : ℕ) (p q : CoreProc) (is : IsLoopOf P m p i k) (is' : IsLoopOf Q n q j k') (l : IsLoop P m i k p) (l' : IsLoop Q n j k' q) where
  loop_inputs : in_pairs (length l.root.ins + length l.root.outs) (length l'.root.ins + length l'.root.outs) p.ins q.ins ++ shared_inputs P Q formed' p q ≡ inputs_of P Q p q
  loop_inputs = λ t. in_pairs (fixed_ins p (sym (root_found l is.1) t)) (fixed_ins q (sym (root_found l' is'.1) t)) p.ins q.ins ++ shared_inputs P Q formed' p q

  loop_in : (s : SpotPair) → Contains (inputs_of P Q p q) s ↔ (IsAtOnePosition 0 0 (parameters l) (parameters l') s ⊎ (IsOfOneName (length (parameters l)) (length (parameters l')) (carried l) (carried l') s ⊎ IsSharedGlobal P Q s))
  loop_in s =
      let a = length l.root.ins + length l.root.outs in
      let b = length l'.root.ins + length l'.root.outs in
      let e = length-append l.root.ins l.root.outs in
      let f = length-append l'.root.ins l'.root.outs in
      let ins = in_exact a b p.ins q.ins (parameters l) (parameters l') (carried l) (carried l') s (ins_split l) (ins_split l') in
      let both = append_exact (in_pairs a b p.ins q.ins) (shared_inputs P Q formed' p q) s ins (global_exact P Q formed' s) in (
        λ h. ⊎_elim (λ c. ⊎_elim (λ x. inl x) (λ x. inr (inl (shift_name a (length (parameters l)) b (length (parameters l')) (carried l) (carried l') s (sym e) (sym f) x))) c) (λ g. inr (inr g)) (both.0 (subst (λ xs. Contains xs s) (sym loop_inputs) h)),
        λ h. subst (λ xs. Contains xs s) loop_inputs (both.1 (⊎_elim (λ x. inl (inl x)) (λ c. ⊎_elim (λ x. inl (inr (shift_name (length (parameters l)) a (length (parameters l')) b (carried l) (carried l') s e f x))) (λ g. inr g) c) h)),
      )

  old_count : ℕ
  old_count = carried_count p (Some l.root)

  new_count : ℕ
  new_count = carried_count q (Some l'.root)

  old_counted : carried_count p (Some l.root) ≡ length l.declared
  old_counted = carried_is l (formed.procs m p is.0).modifies

  new_counted : carried_count q (Some l'.root) ≡ length l'.declared
  new_counted = carried_is l' (formed'.procs n q is'.0).modifies

  loop_outputs : out_pairs (length p.ins) (length q.ins) (length l.root.outs) (length l'.root.outs) (carried_count p (Some l.root)) (carried_count q (Some l'.root)) p.outs q.outs ++ shared_outputs P Q formed' p q ≡ outputs_of P Q p q
  loop_outputs = λ t. out_pairs (length p.ins) (length q.ins) (fixed_outs p (sym (root_found l is.1) t)) (fixed_outs q (sym (root_found l' is'.1) t)) (carried_count p (sym (root_found l is.1) t)) (carried_count q (sym (root_found l' is'.1) t)) p.outs q.outs ++ shared_outputs P Q formed' p q

  left_exact : (u v : ℕ) (s : SpotPair) → u ≡ length p.ins + length (results l) → v ≡ length q.ins + length (results l') → IsAtOnePosition u v (tail l).0 (tail l').0 s ↔ IsLeft l l' s
  left_exact u v s e f =
      let a = length p.ins + length (results l) in
      let b = length q.ins + length (results l') in (
        λ h.
            let r = one_left a b (tail l).0 (tail l').0 s (tail l).2 (tail l').2 (shift_position u a v b (tail l).0 (tail l').0 s e f h) in
            record { old_has = (tail l).1 ∙ ap (λ ts. results l ++ ts) r.0; new_has = (tail l').1 ∙ ap (λ ts. results l' ++ ts) r.1; is = r.2 },
        λ h.
            let c = append_cancel_left (results l) (tail l).0 left (sym (tail l).1 ∙ h.old_has) in
            let d = append_cancel_left (results l') (tail l').0 left (sym (tail l').1 ∙ h.new_has) in
            shift_position a u b v (tail l).0 (tail l').0 s (sym e) (sym f) (left_one a b (tail l).0 (tail l').0 s c d h.is),
      )

  loop_out : (s : SpotPair) → Contains (outputs_of P Q p q) s
      ↔ (IsAtOnePosition (length p.ins) (length q.ins) l.root.outs l'.root.outs s
      ⊎ (IsOfOneName (length p.ins + length l.root.outs) (length q.ins + length l'.root.outs) l.declared l'.declared s
      ⊎ (IsLeft l l' s ⊎ IsModified P Q p q s)))
  loop_out s =
      let a = length l.root.outs in
      let b = length l'.root.outs in
      let d = carried_count p (Some l.root) in
      let e = carried_count q (Some l'.root) in
      let outs = out_exact (length p.ins) (length q.ins) a b d e p.outs q.outs l.root.outs l'.root.outs l.declared l'.declared (tail l).0 (tail l').0 s (outs_parts l d old_counted) (outs_parts l' e new_counted) in
      let both = append_exact (out_pairs (length p.ins) (length q.ins) a b d e p.outs q.outs) (shared_outputs P Q formed' p q) s outs (modified_exact P Q formed' p q s) in
      let u : length p.ins + (a + d) ≡ length p.ins + length (results l) = (let x = length-append l.root.outs l.declared in let y = old_counted in omega (arith, x, y)) in
      let v : length q.ins + (b + e) ≡ length q.ins + length (results l') = (let x = length-append l'.root.outs l'.declared in let y = new_counted in omega (arith, x, y)) in
      let last = left_exact (length p.ins + (a + d)) (length q.ins + (b + e)) s u v in (
        λ h. ⊎_elim (λ c. ⊎_elim (λ x. inl x) (λ x. ⊎_elim (λ y. inr (inl y)) (λ y. inr (inr (inl (last.0 y)))) x) c) (λ g. inr (inr (inr g))) (both.0 (subst (λ xs. Contains xs s) (sym loop_outputs) h)),
        λ h. subst (λ xs. Contains xs s) loop_outputs (both.1 (⊎_elim (λ x. inl (inl x)) (λ c. ⊎_elim (λ x. inl (inr (inl x))) (λ z. ⊎_elim (λ y. inl (inr (inr (last.1 y)))) (λ g. inr g) z) c) h)),
      )

-- ---- pairs

spots_made : (s : PairState) → s ≢ Signature → (P Q : CoreProgram) (i j : ℕ) (p q : CoreProc) → ((pair_with s P Q i j p q).inputs ≡ inputs_of P Q p q) × ((pair_with s P Q i j p q).outputs ≡ outputs_of P Q p q)
spots_made Open h P Q i j p q = (refl, refl)
spots_made Signature h P Q i j p q = absurd (h refl)
spots_made (UnmatchedRecursion x) h P Q i j p q = (refl, refl)

no_spots : (s : PairState) → s ≡ Signature → (P Q : CoreProgram) (i j : ℕ) (p q : CoreProc) → ((pair_with s P Q i j p q).inputs ≡ []) × ((pair_with s P Q i j p q).outputs ≡ [])
no_spots Open h P Q i j p q = absurd (let bad : Open ≡ Signature = h in cc)
no_spots Signature h P Q i j p q = (refl, refl)
no_spots (UnmatchedRecursion x) h P Q i j p q = absurd (let bad : UnmatchedRecursion x ≡ Signature = h in cc)

spots_ascend : (s : PairState) (P Q : CoreProgram) (i j : ℕ) (p q : CoreProc) → Ascend (pair_with s P Q i j p q).inputs × Ascend (pair_with s P Q i j p q).outputs
spots_ascend Open P Q i j p q = (inputs-order P Q p q, outputs-order P Q p q)
spots_ascend Signature P Q i j p q = (tt, tt)
spots_ascend (UnmatchedRecursion x) P Q i j p q = (inputs-order P Q p q, outputs-order P Q p q)

module _ (P Q : CoreProgram) (pair : Pair) (m : IsMade P Q 0 P.procs pair) where
  abbrev state : PairState
  state = root_state P Q (0 + m.place) m.new_place m.p m.q

  has_state : pair.state ≡ state
  has_state = ap (λ (x : Pair). x.state) (sym m.is) ∙ state_is state P Q (0 + m.place) m.new_place m.p m.q

  ordered_spots : Ascend pair.inputs × Ascend pair.outputs
  ordered_spots = subst (λ (x : Pair). Ascend x.inputs × Ascend x.outputs) m.is (spots_ascend state P Q (0 + m.place) m.new_place m.p m.q)

  refused_spots : pair.state ≡ Signature → (pair.inputs ≡ []) × (pair.outputs ≡ [])
  refused_spots e =
      let h = no_spots state (sym has_state ∙ e) P Q (0 + m.place) m.new_place m.p m.q in
      (ap (λ (x : Pair). x.inputs) (sym m.is) ∙ h.0, ap (λ (x : Pair). x.outputs) (sym m.is) ∙ h.1)

  -- the spots of the two procedures that stand at its places
  spots_are : pair.state ≢ Signature → (p q : CoreProc) → slice_get P.procs pair.old ≡ Some p → slice_get Q.procs pair.new ≡ Some q → (inputs_of P Q p q ≡ pair.inputs) × (outputs_of P Q p q ≡ pair.outputs)
  spots_are unlike p q at at' =
      let none : 0 + m.place ≡ m.place = omega arith in
      let old : pair.old ≡ m.place = ap (λ (x : Pair). x.old) (sym m.is) ∙ old_is state P Q (0 + m.place) m.new_place m.p m.q ∙ none in
      let new : pair.new ≡ m.new_place = ap (λ (x : Pair). x.new) (sym m.is) ∙ new_is state P Q (0 + m.place) m.new_place m.p m.q in
      let same : p ≡ m.p = same_Some p m.p (sym at ∙ ap (slice_get P.procs) old ∙ m.at) in
      let same' : q ≡ m.q = same_Some q m.q (sym at' ∙ ap (slice_get Q.procs) new ∙ m.found) in
      let h = spots_made state (λ e. unlike (has_state ∙ e)) P Q (0 + m.place) m.new_place m.p m.q in (
        (λ k. inputs_of P Q (same k) (same' k)) ∙ sym h.0 ∙ ap (λ (x : Pair). x.inputs) m.is,
        (λ k. outputs_of P Q (same k) (same' k)) ∙ sym h.1 ∙ ap (λ (x : Pair). x.outputs) m.is,
      )

pub spots_plain : SpotsArePlain
spots_plain P Q formed formed' pair h =
    let m = made P Q 0 P.procs pair h in
    record {
      refused = refused_spots P Q pair m;
      in_text = λ unlike p q at at'.
          let are = spots_are P Q pair m unlike p q at.0 at'.0 in
          record {
            inputs = λ s. subst (λ l. Contains l s ↔ (IsAtOnePosition 0 0 p.ins q.ins s ⊎ IsSharedGlobal P Q s)) are.0 (text_in P Q formed' p q at.1 at'.1 s);
            outputs = λ s. subst (λ l. Contains l s ↔ (IsAtOnePosition (length p.ins) (length q.ins) p.outs q.outs s ⊎ IsModified P Q p q s)) are.1 (text_out P Q formed' p q at.1 at'.1 s);
          };
      in_loops = λ unlike i j k k' p q at at' old new.
          let are = spots_are P Q pair m unlike p q at.0 at'.0 in
          let ins = loop_in P Q formed formed' pair.old pair.new i j k k' p q at at' old new in
          let outs = loop_out P Q formed formed' pair.old pair.new i j k k' p q at at' old new in
          record {
            inputs = λ s. (λ h. (ins s).0 (subst (λ l. Contains l s) (sym are.0) h), λ h. subst (λ l. Contains l s) are.0 ((ins s).1 h));
            outputs = λ s. (λ h. (outs s).0 (subst (λ l. Contains l s) (sym are.1) h), λ h. subst (λ l. Contains l s) are.1 ((outs s).1 h));
          };
      inputs_ascend = (ordered_spots P Q pair m).0;
      outputs_ascend = (ordered_spots P Q pair m).1;
    }
