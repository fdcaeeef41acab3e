-- The verdicts of a report, in plain words.
use Rattle.std.proofs.Common.{◌≡◌, ◌∙◌, sym, ap, refl, subst, ℕ, suc, zero, ◌+◌, ◌≤◌, Bool, true, false, List, [], ◌∷◌, ◌++◌, length, drop, take, inl, inr, arith}
use Rattle.std.proofs.lemmas.Bool.{and_from}
use Rattle.std.specs.Prelude.{Option, Some, None, ◌↔◌, ◌⊎◌, ◌&&◌, ◌||◌, is_some, slice_get, if◌then◌else◌}
use Rattle.std.proofs.lemmas.Option.{none-some, same_Some}
use Rattle.sd_base.specs.Value.{Text}
use Rattle.sd_core.specs.declared.CoreProc.{CoreProc}
use Rattle.sd_match.specs.declared.pair.PairState.{PairState}
use Rattle.sd_match.specs.declared.pair.PairState.TheVariants as pair_state
use Rattle.sd_match.specs.declared.pair.SpotPair.{SpotPair}
use Rattle.sd_match.specs.declared.pair.Pair.{Pair}
use Rattle.sd_cand.specs.declared.candidate.Relation.{Relation}
use Rattle.sd_cand.specs.declared.candidate.Claim.TheVariants.{Flag}
use Rattle.sd_cand.specs.declared.candidate.Candidate.{Candidate}
use Rattle.sd_cand.specs.Candidates.{equal_inputs, flag_candidates, output_candidates, candidates_in, candidates_of}
use Rattle.sd_product.specs.Work.{PairedPrograms, pairs_in, candidates_in_pair, claims_of}
use Rattle.sd_product.specs.Bodies.{count_before}
use Rattle.sd_run.specs.declared.verdict.PairVerdict.{PairVerdict}
use Rattle.sd_run.specs.declared.verdict.VerdictState.{VerdictState}
use Rattle.sd_run.specs.declared.verdict.VerdictState.TheVariants.{Safe, Signature, UnmatchedRecursion}
use Rattle.sd_run.specs.declared.verdict.Otherwise.{Otherwise}
use Rattle.sd_run.specs.Verdicts.{is_flag, flag_live, said, state_of, verdict_by, verdict_of, verdicts_of}
use Rattle.sd_run.specs.PlainVerdicts.{HasLiveClaim, AreVerdicts, none, loops, procedures, VerdictsArePlain}
use Rattle.sd_run.proofs.Tables.{count_first, drop-drop}
use Rattle.sd_run.proofs.VerdictLemmas.{live_in, said_not_safe, slice_get-drop}

-- ---- claims on the flags

-- a claim on the flags that the table says to be live
flag_found : (cs : List Candidate) (table : List Bool) (k : ℕ) (c : Candidate) → slice_get cs k ≡ Some c → c.claim ≡ Flag → slice_get table k ≡ Some true → flag_live cs table ≡ true
flag_found [] table k c at flag live = absurd (none-some c at)
flag_found (d ∷ cs) [] k c at flag live = absurd (none-some true live)
flag_found (d ∷ cs) (b ∷ table) zero c at flag live =
    let on : is_flag d.claim ≡ true = ap (λ (x : Candidate). is_flag x.claim) (same_Some d c at) ∙ ap is_flag flag in
    ap (λ x. x || flag_live cs table) (and_from (is_flag d.claim) b on (same_Some b true live))
flag_found (d ∷ cs) (b ∷ table) (suc k) c at flag live = or_true (is_flag d.claim && b) (flag_live cs table) (flag_found cs table k c at flag live)
  where
    or_true : (x y : Bool) → y ≡ true → (x || y) ≡ true
    or_true true y e = refl
    or_true false y e = e

outputs_claim : (when : List Relation) (n : ℕ) (ss : List SpotPair) (k : ℕ) (c : Candidate) → slice_get (output_candidates when n ss) k ≡ Some c → c.claim ≡ Flag → ⊥
outputs_claim when n [] k c at flag = none-some c at
outputs_claim when n (s ∷ ss) zero c at flag = let bad : _ ≡ Flag = ap (λ (x : Candidate). x.claim) (same_Some _ c at) ∙ flag in cc
outputs_claim when n (s ∷ ss) (suc k) c at flag = outputs_claim when (suc n) ss k c at flag

-- a claim on the flags is on equal inputs, or on all
flag_when : (pair : Pair) (k : ℕ) (c : Candidate) → slice_get (candidates_of pair) k ≡ Some c → c.claim ≡ Flag → (c.when ≡ []) ⊎ (c.when ≡ equal_inputs pair)
flag_when pair k c at flag = by_state pair.state (at)
  where
    by_inputs : (rs : List Relation) → equal_inputs pair ≡ rs → (k : ℕ) → slice_get (flag_candidates rs ++ output_candidates (equal_inputs pair) 0 pair.outputs) k ≡ Some c → (c.when ≡ []) ⊎ (c.when ≡ equal_inputs pair)
    by_inputs [] is zero at = inl (sym (ap (λ (x : Candidate). x.when) (same_Some _ c at)))
    by_inputs [] is (suc k) at = absurd (outputs_claim (equal_inputs pair) 0 pair.outputs k c at flag)
    by_inputs (r ∷ rs) is zero at = inl (sym (ap (λ (x : Candidate). x.when) (same_Some _ c at)))
    by_inputs (r ∷ rs) is (suc zero) at = inr (sym (ap (λ (x : Candidate). x.when) (same_Some _ c at)) ∙ sym is)
    by_inputs (r ∷ rs) is (suc (suc k)) at = absurd (outputs_claim (equal_inputs pair) 0 pair.outputs k c at flag)

    by_state : (s : PairState) → slice_get (candidates_in s pair) k ≡ Some c → (c.when ≡ []) ⊎ (c.when ≡ equal_inputs pair)
    by_state pair_state.Open at = by_inputs (equal_inputs pair) refl k at
    by_state _ at = absurd (none-some c at)

-- ---- one pair

module _ (o : Otherwise) (work : PairedPrograms) (live : List Bool) where
  -- the claims of pair i, in the table from there on
  live_exact : (i : ℕ) (pair : Pair) → (flag_live (candidates_in_pair work pair) (drop (count_before work i) live) ≡ true) ↔ HasLiveClaim work live i pair
  live_exact i pair =
      let n : ℕ = count_before work i in (
        λ h.
            let f = live_in (candidates_in_pair work pair) (drop n live) h in
            record { place = f.place; candidate = f.candidate; is = f.at; claims = (f.flag, flag_when pair f.place f.candidate f.at f.flag); is_live = sym (slice_get-drop n live f.place) ∙ f.is },
        λ h. flag_found (candidates_in_pair work pair) (drop n live) h.place h.candidate h.is h.claims.0 (slice_get-drop n live h.place ∙ h.is_live),
      )

  module _ (i : ℕ) (pair : Pair) (flag : Bool) (exact : (flag ≡ true) ↔ HasLiveClaim work live i pair) where
    -- a refused pair has no candidates
    refused_none : candidates_in_pair work pair ≡ [] → HasLiveClaim work live i pair → ⊥
    refused_none e h = none-some h.candidate (sym (ap (λ cs. slice_get cs h.place) e) ∙ h.is)

    open_safe : (b : Bool) → ((if b then Safe else said o) ≡ Safe) ↔ (b ≡ true)
    open_safe true = (λ h. refl, λ h. refl)
    open_safe false = (λ h. absurd (said_not_safe o h), λ h. absurd (let bad : false ≡ true = h in cc))

    record IsState (s : PairState) : Type 0 where
      safe : (state_of o s flag ≡ Safe) ↔ HasLiveClaim work live i pair
      unsafe : pair.state ≡ pair_state.Open → (HasLiveClaim work live i pair → ⊥) → state_of o s flag ≡ said o
      signature : pair.state ≡ pair_state.Signature → state_of o s flag ≡ Signature
      unmatched : (x : Text) → pair.state ≡ pair_state.UnmatchedRecursion x → state_of o s flag ≡ UnmatchedRecursion x

    state_is : (s : PairState) → pair.state ≡ s → IsState s
    state_is pair_state.Open is = record {
      safe = (λ h. exact.0 ((open_safe flag).0 h), λ h. (open_safe flag).1 (exact.1 h));
      unsafe = λ e no. off flag (λ t. no (exact.0 t));
      signature = λ e. absurd (let bad : pair_state.Open ≡ pair_state.Signature = sym is ∙ e in cc);
      unmatched = λ x e. absurd (let bad : pair_state.Open ≡ pair_state.UnmatchedRecursion x = sym is ∙ e in cc);
    }
      where
        off : (b : Bool) → (b ≡ true → ⊥) → (if b then Safe else said o) ≡ said o
        off true h = absurd (h refl)
        off false h = refl
    state_is pair_state.Signature is = record {
      safe = (λ h. absurd (let bad : ◌≡◌ {A = VerdictState} Signature Safe = h in cc), λ h. absurd (refused_none (ap (λ s. candidates_in s pair) is) h));
      unsafe = λ e no. absurd (let bad : pair_state.Signature ≡ pair_state.Open = sym is ∙ e in cc);
      signature = λ e. refl;
      unmatched = λ x e. absurd (let bad : pair_state.Signature ≡ pair_state.UnmatchedRecursion x = sym is ∙ e in cc);
    }
    state_is (pair_state.UnmatchedRecursion y) is = record {
      safe = (λ h. absurd (let bad : ◌≡◌ {A = VerdictState} (UnmatchedRecursion y) Safe = h in cc), λ h. absurd (refused_none (ap (λ s. candidates_in s pair) is) h));
      unsafe = λ e no. absurd (let bad : pair_state.UnmatchedRecursion y ≡ pair_state.Open = sym is ∙ e in cc);
      signature = λ e. absurd (let bad : pair_state.UnmatchedRecursion y ≡ pair_state.Signature = sym is ∙ e in cc);
      unmatched = λ x e. let same : pair_state.UnmatchedRecursion y ≡ pair_state.UnmatchedRecursion x = sym is ∙ e in cc;
    }

    abbrev verdict_with : CoreProc → CoreProc → PairVerdict
    verdict_with p q = record { old = p.name; new = q.name; state = state_of o pair.state flag; equal = false }

    abbrev Rest : List PairVerdict → Type 0
    Rest vs = AreVerdicts o work live i vs

    one_more : (vs : List PairVerdict) → slice_get (pairs_in work) i ≡ Some pair → AreVerdicts o work live (suc i) vs → Rest (verdict_of o work pair flag ++ vs)
    one_more vs at rest = found (slice_get work.old.procs pair.old) (slice_get work.new.procs pair.new) refl refl
      where
        rooted : (p q : CoreProc) → slice_get work.old.procs pair.old ≡ Some p → slice_get work.new.procs pair.new ≡ Some q → (parent : Option (ℕ × ℕ)) → p.parent ≡ parent → Rest ((if is_some parent then [] else verdict_with p q ∷ []) ++ vs)
        rooted p q e f None root =
            let s = state_is pair.state refl in
            procedures i pair (verdict_with p q) vs at (record { old = p; new = q; procedures = record { old_is = e; new_is = f; no_loop = root }; old_name = refl; new_name = refl; equal = refl; safe = s.safe; unsafe = s.unsafe; signature = s.signature; unmatched = s.unmatched }) rest
        rooted p q e f (Some x) loop =
            loops i pair vs at (λ old new are. none-some x (sym are.no_loop ∙ (ap (λ (r : CoreProc). r.parent) (sym (same_Some p old (sym e ∙ are.old_is))) ∙ loop))) rest

        found : (old new : Option CoreProc) → slice_get work.old.procs pair.old ≡ old → slice_get work.new.procs pair.new ≡ new → Rest (verdict_by o pair flag old new ++ vs)
        found None new e f = loops i pair vs at (λ p q are. none-some p (sym e ∙ are.old_is)) rest
        found (Some p) None e f = loops i pair vs at (λ r q are. none-some q (sym f ∙ are.new_is)) rest
        found (Some p) (Some q) e f = rooted p q e f p.parent refl

-- ---- all pairs

-- the pairs from pair i on
record IsCut (work : PairedPrograms) (pairs : List Pair) (i : ℕ) (pair : Pair) (rest : List Pair) : Type 0 where
  at : slice_get pairs i ≡ Some pair
  next : drop (suc i) pairs ≡ rest
  count : length (claims_of work (take (suc i) pairs)) ≡ length (claims_of work (take i pairs)) + length (candidates_in_pair work pair)

cut : (work : PairedPrograms) (pairs : List Pair) (i : ℕ) (pair : Pair) (rest : List Pair) → drop i pairs ≡ pair ∷ rest → IsCut work pairs i pair rest
cut work [] zero pair rest e = absurd (cc)
cut work [] (suc i) pair rest e = absurd (cc)
cut work (p ∷ ps) zero pair rest e =
    let same : p ≡ pair = cc in
    record { at = ap Some same; next = cc; count = omega (arith, count_first work p [], ap (λ x. length (candidates_in_pair work x)) same) }
cut work (p ∷ ps) (suc i) pair rest e =
    let c = cut work ps i pair rest e in
    record { at = c.at; next = c.next; count = omega (arith, c.count, count_first work p (take (suc i) ps), count_first work p (take i ps)) }

pub verdicts_are_plain : VerdictsArePlain
verdicts_are_plain o work live = all_plain (pairs_in work) 0 refl (omega arith)
  where
    all_plain : (rest : List Pair) (i : ℕ) → drop i (pairs_in work) ≡ rest → length (pairs_in work) ≤ i + length rest → AreVerdicts o work live i (verdicts_of o work rest (drop (count_before work i) live))
    all_plain [] i e long = none i (omega arith)
    all_plain (pair ∷ rest) i e long =
        let c = cut work (pairs_in work) i pair rest e in
        let n : ℕ = count_before work i in
        let further = all_plain rest (suc i) c.next (omega arith) in
        let table : drop (count_before work (suc i)) live ≡ drop (length (candidates_in_pair work pair)) (drop n live) = ap (λ m. drop m live) c.count ∙ sym (drop-drop (length (candidates_in_pair work pair)) n live) in
        one_more o work live i pair (flag_live (candidates_in_pair work pair) (drop n live)) (live_exact o work live i pair) (verdicts_of o work rest (drop (length (candidates_in_pair work pair)) (drop n live))) c.at
        (subst (λ (t : List Bool). AreVerdicts o work live (suc i) (verdicts_of o work rest t)) table further)
