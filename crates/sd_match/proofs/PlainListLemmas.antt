-- The list of pairs, in plain words.
use Rattle.std.proofs.Common.{◌≡◌, ◌∙◌, sym, ap, refl, subst, ℕ, zero, suc, ◌+◌, ◌<◌, ◌≤◌, List, [], ◌∷◌, ◌++◌, inl, inr, ⊎_elim, arith}
use Rattle.std.proofs.lemmas.Option.{none-some, same_Some}
use Rattle.std.proofs.lemmas.List.Elements.{Contains-append_left, Contains-append_right, Contains-append_cases}
use Rattle.std.specs.Prelude.{Option, Some, None, slice_get, Contains}
use Rattle.sd_base.proofs.Lists.{contains-head}
use Rattle.sd_core.specs.declared.CoreProc.{CoreProc}
use Rattle.sd_core.specs.declared.CoreProgram.{CoreProgram}
use Rattle.sd_core.specs.Formed.{WellFormed}
use Rattle.sd_match.specs.declared.pair.PairState.{PairState}
use Rattle.sd_match.specs.declared.pair.PairState.TheVariants.{Open, Signature, UnmatchedRecursion}
use Rattle.sd_match.specs.declared.pair.Pair.{Pair}
use Rattle.sd_match.specs.Pairs.{owner, state_of, pair_with, pair_at, pair_by, pairs_from, partner}
use Rattle.sd_match.specs.PlainPairs.{ArePartners, HasState, HasItsState, ArePlainPairs, PairsArePlain}
use Rattle.sd_match.proofs.ContainLemmas.{none_contained, one_contained}
use Rattle.sd_match.proofs.PlainPairLemmas.{partner_found, partner_is, old_there, new_there}
use Rattle.sd_match.proofs.PlainStateLemmas.{state_exact}

-- ---- one pair

pub old_is : (s : PairState) (P Q : CoreProgram) (i j : ℕ) (p q : CoreProc) → (pair_with s P Q i j p q).old ≡ i
old_is Open P Q i j p q = refl
old_is Signature P Q i j p q = refl
old_is (UnmatchedRecursion x) P Q i j p q = refl

pub new_is : (s : PairState) (P Q : CoreProgram) (i j : ℕ) (p q : CoreProc) → (pair_with s P Q i j p q).new ≡ j
new_is Open P Q i j p q = refl
new_is Signature P Q i j p q = refl
new_is (UnmatchedRecursion x) P Q i j p q = refl

pub state_is : (s : PairState) (P Q : CoreProgram) (i j : ℕ) (p q : CoreProc) → (pair_with s P Q i j p q).state ≡ s
state_is Open P Q i j p q = refl
state_is Signature P Q i j p q = refl
state_is (UnmatchedRecursion x) P Q i j p q = refl

-- the state of the procedures of the texts that two procedures belong to
abbrev pub root_state : CoreProgram → CoreProgram → ℕ → ℕ → CoreProc → CoreProc → PairState
root_state P Q i j p q = state_of P Q (owner i p.parent) (owner j q.parent) (slice_get P.procs (owner i p.parent)) (slice_get Q.procs (owner j q.parent))

pub record IsMade (P Q : CoreProgram) (n : ℕ) (ps : List CoreProc) (pair : Pair) : Type 0 where
  pub place : ℕ
  pub new_place : ℕ
  pub p : CoreProc
  pub q : CoreProc
  pub at : slice_get ps place ≡ Some p
  pub partner_at : partner P Q p ≡ Some new_place
  pub found : slice_get Q.procs new_place ≡ Some q
  pub is : pair_with (root_state P Q (n + place) new_place p q) P Q (n + place) new_place p q ≡ pair

module _ (P Q : CoreProgram) where
  -- ---- the pairs that are made

  -- the pairs of one procedure: none or one
  module _ (n : ℕ) (p : CoreProc) where
    here : (ps : List CoreProc) (o : Option ℕ) → partner P Q p ≡ o → (pair : Pair) → Contains (pair_by P Q n p o) pair → IsMade P Q n (p ∷ ps) pair
    here ps None e pair h = none_contained pair h
    here ps (Some j) e pair h = by_proc (slice_get Q.procs j) refl h
      where
        by_proc : (o : Option CoreProc) → slice_get Q.procs j ≡ o → Contains (pair_at P Q n j p o) pair → IsMade P Q n (p ∷ ps) pair
        by_proc None found h = none_contained pair h
        by_proc (Some q) found h =
            let none : n + 0 ≡ n = omega arith in
            record { place = zero; new_place = j; p = p; q = q; at = refl; partner_at = e; found = found; is = ap (λ m. pair_with (root_state P Q m j p q) P Q m j p q) none ∙ one_contained (pair_with (root_state P Q n j p q) P Q n j p q) pair h }

  later_made : (n : ℕ) (p : CoreProc) (ps : List CoreProc) (pair : Pair) → IsMade P Q (suc n) ps pair → IsMade P Q n (p ∷ ps) pair
  later_made n p ps pair m =
      let more : n + suc m.place ≡ suc n + m.place = omega arith in
      record { place = suc m.place; new_place = m.new_place; p = m.p; q = m.q; at = m.at; partner_at = m.partner_at; found = m.found; is = ap (λ k. pair_with (root_state P Q k m.new_place m.p m.q) P Q k m.new_place m.p m.q) more ∙ m.is }

  pub made : (n : ℕ) (ps : List CoreProc) (pair : Pair) → Contains (pairs_from P Q n ps) pair → IsMade P Q n ps pair
  made n [] pair h = none_contained pair h
  made n (p ∷ ps) pair h = ⊎_elim (λ k. here n p ps (partner P Q p) refl pair k) (λ k. later_made n p ps pair (made (suc n) ps pair k)) (Contains-append_cases (pair_by P Q n p (partner P Q p)) (pairs_from P Q (suc n) ps) pair h)

  is_made : (n : ℕ) (ps : List CoreProc) (k j : ℕ) (p q : CoreProc) → slice_get ps k ≡ Some p → partner P Q p ≡ Some j → slice_get Q.procs j ≡ Some q → Contains (pairs_from P Q n ps) (pair_with (root_state P Q (n + k) j p q) P Q (n + k) j p q)
  is_made n [] k j p q at e found = absurd (none-some p at)
  is_made n (x ∷ ps) zero j p q at e found =
      let same : p ≡ x = sym (same_Some x p at) in
      let none : n ≡ n + 0 = omega arith in
      let one = contains-head (pair_with (root_state P Q n j p q) P Q n j p q) [] in
      let front : pair_by P Q n x (partner P Q x) ≡ pair_with (root_state P Q n j p q) P Q n j p q ∷ [] = ap (λ y. pair_by P Q n y (partner P Q y)) (sym same) ∙ ap (pair_by P Q n p) e ∙ ap (pair_at P Q n j p) found in
      subst (λ m. Contains (pairs_from P Q n (x ∷ ps)) (pair_with (root_state P Q m j p q) P Q m j p q)) none (Contains-append_left (pair_by P Q n x (partner P Q x)) (pairs_from P Q (suc n) ps) _ (subst (λ l. Contains l (pair_with (root_state P Q n j p q) P Q n j p q)) (sym front) one))
  is_made n (x ∷ ps) (suc k) j p q at e found =
      let more : suc n + k ≡ n + suc k = omega arith in
      subst (λ m. Contains (pairs_from P Q n (x ∷ ps)) (pair_with (root_state P Q m j p q) P Q m j p q)) more (Contains-append_right (pair_by P Q n x (partner P Q x)) (pairs_from P Q (suc n) ps) _ (is_made (suc n) ps k j p q at e found))

  -- ---- their order

  from : (n : ℕ) (ps : List CoreProc) (b : ℕ) (y : Pair) → slice_get (pairs_from P Q n ps) b ≡ Some y → n ≤ y.old
  from n [] b y e = absurd (none-some y e)
  from n (p ∷ ps) b y e = by_place (partner P Q p) b e (λ c h. from (suc n) ps c y h)
    where
      by_proc : (j : ℕ) (o : Option CoreProc) (b : ℕ) → slice_get (pair_at P Q n j p o ++ pairs_from P Q (suc n) ps) b ≡ Some y → ((c : ℕ) → slice_get (pairs_from P Q (suc n) ps) c ≡ Some y → suc n ≤ y.old) → n ≤ y.old
      by_proc j None b e rest = let h = rest b e in omega (arith, h)
      by_proc j (Some q) zero e rest = let h = sym (old_is (root_state P Q n j p q) P Q n j p q) ∙ ap (λ (x : Pair). x.old) (same_Some _ y e) in omega (arith, h)
      by_proc j (Some q) (suc b) e rest = let h = rest b e in omega (arith, h)

      by_place : (o : Option ℕ) (b : ℕ) → slice_get (pair_by P Q n p o ++ pairs_from P Q (suc n) ps) b ≡ Some y → ((c : ℕ) → slice_get (pairs_from P Q (suc n) ps) c ≡ Some y → suc n ≤ y.old) → n ≤ y.old
      by_place None b e rest = let h = rest b e in omega (arith, h)
      by_place (Some j) b e rest = by_proc j (slice_get Q.procs j) b e rest

  abbrev Rise : List Pair → Type 0
  Rise pairs = (a b : ℕ) (x y : Pair) → a < b → slice_get pairs a ≡ Some x → slice_get pairs b ≡ Some y → x.old < y.old

  one_more : (n j : ℕ) (p q : CoreProc) (rest : List Pair) → ((b : ℕ) (y : Pair) → slice_get rest b ≡ Some y → suc n ≤ y.old) → Rise rest → Rise (pair_with (root_state P Q n j p q) P Q n j p q ∷ rest)
  one_more n j p q rest above rise a zero x y below e f = absurd (omega arith)
  one_more n j p q rest above rise zero (suc b) x y below e f =
      let h = sym (old_is (root_state P Q n j p q) P Q n j p q) ∙ ap (λ (z : Pair). z.old) (same_Some _ x e) in
      let k = above b y f in
      omega (arith, h, k)
  one_more n j p q rest above rise (suc a) (suc b) x y below e f = rise a b x y (omega arith) e f

  rising : (n : ℕ) (ps : List CoreProc) → Rise (pairs_from P Q n ps)
  rising n [] = λ a b x y below e f. absurd (none-some x e)
  rising n (p ∷ ps) = by_place (partner P Q p) (rising (suc n) ps)
    where
      by_proc : (j : ℕ) (o : Option CoreProc) → Rise (pairs_from P Q (suc n) ps) → Rise (pair_at P Q n j p o ++ pairs_from P Q (suc n) ps)
      by_proc j None rise = rise
      by_proc j (Some q) rise = one_more n j p q (pairs_from P Q (suc n) ps) (λ b y e. from (suc n) ps b y e) rise

      by_place : (o : Option ℕ) → Rise (pairs_from P Q (suc n) ps) → Rise (pair_by P Q n p o ++ pairs_from P Q (suc n) ps)
      by_place None rise = rise
      by_place (Some j) rise = by_proc j (slice_get Q.procs j) rise

  -- ---- all of them

  module _ (formed : WellFormed P) (formed' : WellFormed Q) where
    its_state : (i j : ℕ) (p q : CoreProc) → slice_get P.procs i ≡ Some p → slice_get Q.procs j ≡ Some q → ArePartners P Q i j → HasItsState P Q (pair_with (root_state P Q i j p q) P Q i j p q)
    its_state i j p q at at' (inl (p', q', are)) =
        let same : p' ≡ p = same_Some p' p (sym are.old.0 ∙ at) in
        let same' : q' ≡ q = same_Some q' q (sym are.new.0 ∙ at') in
        let own : owner i p.parent ≡ i = ap (λ (y : CoreProc). owner i y.parent) (sym same) ∙ ap (owner i) are.old.1 in
        let own' : owner j q.parent ≡ j = ap (λ (y : CoreProc). owner j y.parent) (sym same') ∙ ap (owner j) are.new.1 in
        let state : root_state P Q i j p q ≡ state_of P Q i j (Some p') (Some q') = (λ k. state_of P Q (own k) (own' k) (slice_get P.procs (own k)) (slice_get Q.procs (own' k))) ∙ (λ k. state_of P Q i j (are.old.0 k) (are.new.0 k)) in
        record {
          i = i;
          j = j;
          p = p';
          q = q';
          namesakes = are;
          old = p;
          new = q;
          old_belongs = (ap (slice_get P.procs) (old_is (root_state P Q i j p q) P Q i j p q) ∙ at, inl (old_is (root_state P Q i j p q) P Q i j p q));
          new_belongs = (ap (slice_get Q.procs) (new_is (root_state P Q i j p q) P Q i j p q) ∙ at', inl (new_is (root_state P Q i j p q) P Q i j p q));
          state = subst (HasState P Q i j p' q') (sym (state_is (root_state P Q i j p q) P Q i j p q ∙ state)) (state_exact P Q i j p' q' formed formed' are);
        }
    its_state i j p q at at' (inr loops) =
        let same : loops.old_loop ≡ p = same_Some loops.old_loop p (sym loops.old.0 ∙ at) in
        let same' : loops.new_loop ≡ q = same_Some loops.new_loop q (sym loops.new.0 ∙ at') in
        let parent : p.parent ≡ Some (loops.i, loops.number) = ap (λ (y : CoreProc). y.parent) (sym same) ∙ loops.old.1 in
        let parent' : q.parent ≡ Some (loops.j, loops.number) = ap (λ (y : CoreProc). y.parent) (sym same') ∙ loops.new.1 in
        let state : root_state P Q i j p q ≡ state_of P Q loops.i loops.j (Some loops.p) (Some loops.q) = (λ k. state_of P Q (owner i (parent k)) (owner j (parent' k)) (slice_get P.procs (owner i (parent k))) (slice_get Q.procs (owner j (parent' k)))) ∙ (λ k. state_of P Q loops.i loops.j (loops.namesakes.old.0 k) (loops.namesakes.new.0 k)) in
        record {
          i = loops.i;
          j = loops.j;
          p = loops.p;
          q = loops.q;
          namesakes = loops.namesakes;
          old = p;
          new = q;
          old_belongs = (ap (slice_get P.procs) (old_is (root_state P Q i j p q) P Q i j p q) ∙ at, inr (loops.number, parent));
          new_belongs = (ap (slice_get Q.procs) (new_is (root_state P Q i j p q) P Q i j p q) ∙ at', inr (loops.number, parent'));
          state = subst (HasState P Q loops.i loops.j loops.p loops.q) (sym (state_is (root_state P Q i j p q) P Q i j p q ∙ state)) (state_exact P Q loops.i loops.j loops.p loops.q formed formed' loops.namesakes);
        }

    paired : (i j : ℕ) → ArePartners P Q i j → (pair : Pair) × Contains (pairs_from P Q 0 P.procs) pair × (pair.old ≡ i) × (pair.new ≡ j)
    paired i j are =
        let old = old_there P Q formed formed' i j are in
        let new = new_there P Q formed formed' i j are in
        let none : 0 + i ≡ i = omega arith in
        let s = root_state P Q (0 + i) j old.0 new.0 in (
          pair_with s P Q (0 + i) j old.0 new.0,
          is_made 0 P.procs i j old.0 new.0 old.1 (partner_is P Q formed formed' i j old.0 old.1 are) new.1,
          old_is s P Q (0 + i) j old.0 new.0 ∙ none,
          new_is s P Q (0 + i) j old.0 new.0,
        )

    made_partners : (pair : Pair) → IsMade P Q 0 P.procs pair → ArePartners P Q pair.old pair.new
    made_partners pair m =
        let s = root_state P Q (0 + m.place) m.new_place m.p m.q in
        let none : 0 + m.place ≡ m.place = omega arith in
        let old : pair.old ≡ m.place = ap (λ (x : Pair). x.old) (sym m.is) ∙ old_is s P Q (0 + m.place) m.new_place m.p m.q ∙ none in
        let new : pair.new ≡ m.new_place = ap (λ (x : Pair). x.new) (sym m.is) ∙ new_is s P Q (0 + m.place) m.new_place m.p m.q in
        subst (λ i. ArePartners P Q i pair.new) (sym old) (subst (ArePartners P Q m.place) (sym new) (partner_found P Q formed formed' m.place m.new_place m.p m.at m.partner_at))

    made_state : (pair : Pair) → IsMade P Q 0 P.procs pair → HasItsState P Q pair
    made_state pair m =
        let none : 0 + m.place ≡ m.place = omega arith in
        let is : pair_with (root_state P Q m.place m.new_place m.p m.q) P Q m.place m.new_place m.p m.q ≡ pair = ap (λ k. pair_with (root_state P Q k m.new_place m.p m.q) P Q k m.new_place m.p m.q) (sym none) ∙ m.is in
        subst (HasItsState P Q) is (its_state m.place m.new_place m.p m.q m.at m.found (partner_found P Q formed formed' m.place m.new_place m.p m.at m.partner_at))

    plain : ArePlainPairs P Q (pairs_from P Q 0 P.procs)
    plain = record {
      partners = λ i j. (
        paired i j,
        λ h. subst (λ m. ArePartners P Q m j) h.2 (subst (ArePartners P Q h.0.old) h.3 (made_partners h.0 (made 0 P.procs h.0 h.1))),
      );
      ascending = rising 0 P.procs;
      states = λ pair h. made_state pair (made 0 P.procs pair h);
    }

pub pairs_plain : PairsArePlain
pairs_plain P Q formed formed' = plain P Q formed formed'
