-- The relations of all candidates are between values of one type.
use Rattle.std.proofs.Common.{◌≡◌, ◌∙◌, sym, ap, refl, subst, inl, inr, ℕ, zero, suc, ◌+◌, ◌<◌, ◌≤◌, Bool, true, false, List, [], ◌∷◌, ◌++◌, length, take, drop, map, arith, length-append}
use Rattle.std.specs.Prelude.{◌⊎◌, ◌==◌, ◌&&◌, ◌||◌, Option, Some, None, slice_get, if◌then◌else◌}
use Rattle.std.specs.Option.{is_none}
use Rattle.std.specs.List.{AllByRecursion}
use Rattle.std.proofs.Math.Seq.{take-append_seam, drop-append_seam}
use Rattle.std.proofs.lemmas.Bool.{eqb-true}
use Rattle.std.proofs.lemmas.List.{append_assoc, append-nil}
use Rattle.std.proofs.lemmas.Option.{same_Some}
use Rattle.sd_base.proofs.Options.{none-is}
use Rattle.sd_base.proofs.Lists.{all-append, all-filter}
use Rattle.sd_base.specs.declared.Sort.{Sort}
use Rattle.sd_base.specs.declared.Var.{Var}
use Rattle.sd_base.specs.Value.{Text, same_text}
use Rattle.sd_core.specs.declared.CoreProc.{CoreProc}
use Rattle.sd_core.specs.declared.CoreProgram.{CoreProgram}
use Rattle.sd_core.specs.Store.{Store}
use Rattle.sd_core.specs.Formed.{WellFormed, IsLoop, copy_of, copies_of, left}
use Rattle.sd_core.specs.Failure.{shared_of}
use Rattle.sd_match.specs.declared.pair.SpotPair.{SpotPair}
use Rattle.sd_match.specs.declared.pair.Pair.{Pair}
use Rattle.sd_match.specs.declared.pair.PairState.{PairState}
use Rattle.sd_match.specs.declared.pair.PairState.TheVariants.{Open, Signature, UnmatchedRecursion}
use Rattle.sd_match.specs.Pairs.{same_sorts, same_types, root_from, is_loop_of, loop_at, loop_partner, loop_partner_at, loop_partner_in, partner_by, partner, root_by, root_of, fixed_ins, fixed_outs, carried_count, in_pairs, out_pairs, shared_pairs, is_among, modified_globals, inputs_of, outputs_of, owner, first_unmatched, state_by, state_of, pair_with, pair_at, pair_by, pairs_from, pairs_of}
use Rattle.sd_match.proofs.PartnerLemmas.{loop_is}
use Rattle.sd_term.specs.declared.build.Kind.TheVariants as kind
use Rattle.sd_term.specs.Tree.{and-left, and-right}
use Rattle.sd_cand.specs.declared.candidate.Candidate.{Candidate}
use Rattle.sd_cand.specs.declared.candidate.Relation.{Relation}
use Rattle.sd_cand.specs.Candidates.{equal_from, equal_inputs, flag_candidates, output_candidates, candidates_in}
use Rattle.sd_product.specs.Query.{Work}
use Rattle.sd_product.specs.Work.{PairedPrograms, claims_of}
use Rattle.sd_product.specs.Fits.{FitsAt, Fits, FitsBoth, FitsPair, entry_sorts, exit_sorts}
use Rattle.sd_product.proofs.SpotFits.{Agrees, Alike, stand-self, stand-after, alike, alike-append, alike-take, alike-past, ins-agree, outs-agree, shared-agree, spots-agree}

-- ---- two procedures and the ones that they stand in

-- the in-parameters and the out-parameters that are paired by position have the same types
record AreAlike (p q : CoreProc) (r s : Option CoreProc) : Type 0 where
  ins : Alike (take (fixed_ins p r) p.ins) (take (fixed_ins q s) q.ins)
  outs : Alike (take (fixed_outs p r) p.outs) (take (fixed_outs q s) q.outs)
  last : Alike (drop (fixed_outs p r + carried_count p r) p.outs) (drop (fixed_outs q s + carried_count q s) q.outs)

roots-alike : (p q : CoreProc) → same_types p q ≡ true → AreAlike p q None None
roots-alike p q h = record {
  ins = alike-take (length p.ins) (length q.ins) p.ins q.ins (alike p.ins q.ins (and-left (same_sorts p.ins q.ins) (same_sorts p.outs q.outs) h));
  outs = alike-take (length p.outs) (length q.outs) p.outs q.outs (alike p.outs q.outs (and-right (same_sorts p.ins q.ins) (same_sorts p.outs q.outs) h));
  last = alike-past (length p.outs + 0) p.outs (drop (length q.outs + 0) q.outs) (omega arith);
}

-- each global has one copy
copied-one : (globals : List Var) (i : ℕ) → i < length globals → length (copy_of (slice_get globals i)) ≡ 1
copied-one [] i lt = absurd (omega (arith, lt))
copied-one (g ∷ gs) zero lt = refl
copied-one (g ∷ gs) (suc i) lt = copied-one gs i (omega (arith, lt))

copied-all : (globals : List Var) (ms : List ℕ) → AllByRecursion (λ i. i < length globals) ms → length (copies_of globals ms) ≡ length ms
copied-all globals [] h = refl
copied-all globals (i ∷ ms) h = omega (arith, length-append (copy_of (slice_get globals i)) (copies_of globals ms), copied-one globals i h.0, copied-all globals ms h.1)

-- ---- a loop

module _ (P : CoreProgram) (n a k : ℕ) (p : CoreProc) (formed : WellFormed P) (here : slice_get P.procs n ≡ Some p) (l : IsLoop P n a k p) where
  loop-copies : length (copies_of P.globals l.root.modifies) ≡ length l.root.modifies
  loop-copies = subst (λ (ms : List ℕ). length (copies_of P.globals ms) ≡ length ms) l.modifies (copied-all P.globals p.modifies (formed.procs n p here).modifies)

  loop-ins : take (length l.root.ins + length l.root.outs) p.ins ≡ l.root.ins ++ l.root.outs
  loop-ins =
      let r = l.root in
      let copies = copies_of P.globals r.modifies in
      let count : length r.ins + length r.outs ≡ length (r.ins ++ r.outs) = omega (arith, length-append r.ins r.outs) in
      let parts : p.ins ≡ (r.ins ++ r.outs) ++ (l.declared ++ copies) = l.ins ∙ ap (λ (xs : List Var). r.ins ++ xs) (append_assoc r.outs l.declared copies) ∙ sym (append_assoc r.ins r.outs (l.declared ++ copies)) in
      (λ i. take (count i) (parts i)) ∙ take-append_seam (r.ins ++ r.outs) (l.declared ++ copies)

  loop-outs : take (length l.root.outs) p.outs ≡ l.root.outs
  loop-outs = go l.outs
    where
      go : (p.outs ≡ l.root.outs ++ l.declared) ⊎ (p.outs ≡ (l.root.outs ++ l.declared) ++ left) → take (length l.root.outs) p.outs ≡ l.root.outs
      go (inl e) = ap (take (length l.root.outs)) e ∙ take-append_seam l.root.outs l.declared
      go (inr e) = ap (take (length l.root.outs)) (e ∙ append_assoc l.root.outs l.declared left) ∙ take-append_seam l.root.outs (l.declared ++ left)

  loop-declared : length l.root.outs + carried_count p (Some l.root) ≡ length (l.root.outs ++ l.declared)
  loop-declared =
      let r = l.root in
      let copies = copies_of P.globals r.modifies in
      let long : length p.ins ≡ length (r.ins ++ ((r.outs ++ l.declared) ++ copies)) = ap length l.ins in
      let whole = length-append r.ins ((r.outs ++ l.declared) ++ copies) in
      let middle = length-append (r.outs ++ l.declared) copies in
      let outs = length-append r.outs l.declared in
      let written : length p.modifies ≡ length r.modifies = ap length l.modifies in
      omega (arith, long, whole, middle, outs, written, loop-copies)

  loop-last : (drop (length l.root.outs + carried_count p (Some l.root)) p.outs ≡ []) ⊎ (drop (length l.root.outs + carried_count p (Some l.root)) p.outs ≡ left)
  loop-last = go l.outs
    where
      go : (p.outs ≡ l.root.outs ++ l.declared) ⊎ (p.outs ≡ (l.root.outs ++ l.declared) ++ left)
          → (drop (length l.root.outs + carried_count p (Some l.root)) p.outs ≡ []) ⊎ (drop (length l.root.outs + carried_count p (Some l.root)) p.outs ≡ left)
      go (inl e) = inl ((λ i. drop (loop-declared i) ((e ∙ sym (append-nil (l.root.outs ++ l.declared))) i)) ∙ drop-append_seam (l.root.outs ++ l.declared) [])
      go (inr e) = inr ((λ i. drop (loop-declared i) (e i)) ∙ drop-append_seam (l.root.outs ++ l.declared) left)

tails-alike : (xs ys : List Var) → (xs ≡ []) ⊎ (xs ≡ left) → (ys ≡ []) ⊎ (ys ≡ left) → Alike xs ys
tails-alike xs ys (inl e) k = subst (λ (l : List Var). Alike l ys) (sym e) tt
tails-alike xs ys (inr e) (inl f) = subst (λ (l : List Var). Alike l ys) (sym e) (subst (λ (l : List Var). Alike left l) (sym f) tt)
tails-alike xs ys (inr e) (inr f) = subst (λ (l : List Var). Alike l ys) (sym e) (subst (λ (l : List Var). Alike left l) (sym f) (refl, tt))

-- two loops of procedures with the same types
loops-alike : (P Q : CoreProgram) (n a k m b o : ℕ) (p q : CoreProc) → WellFormed P → WellFormed Q → slice_get P.procs n ≡ Some p → slice_get Q.procs m ≡ Some q → (l : IsLoop P n a k p) (r : IsLoop Q m b o q) → same_types l.root r.root ≡ true
    → AreAlike p q (Some l.root) (Some r.root)
loops-alike P Q n a k m b o p q formed formed' here there l r h =
    let ins : same_sorts l.root.ins r.root.ins ≡ true = and-left (same_sorts l.root.ins r.root.ins) (same_sorts l.root.outs r.root.outs) h in
    let outs : same_sorts l.root.outs r.root.outs ≡ true = and-right (same_sorts l.root.ins r.root.ins) (same_sorts l.root.outs r.root.outs) h in
    let first : Alike l.root.outs r.root.outs = alike l.root.outs r.root.outs outs in
    record {
      ins = subst (λ (xs : List Var). Alike xs (take (length r.root.ins + length r.root.outs) q.ins)) (sym (loop-ins P n a k p formed here l)) (subst (λ (ys : List Var). Alike (l.root.ins ++ l.root.outs) ys) (sym (loop-ins Q m b o q formed' there r)) (alike-append l.root.ins r.root.ins l.root.outs r.root.outs ins first));
      outs = subst (λ (xs : List Var). Alike xs (take (length r.root.outs) q.outs)) (sym (loop-outs P n a k p formed here l)) (subst (λ (ys : List Var). Alike l.root.outs ys) (sym (loop-outs Q m b o q formed' there r)) first);
      last = tails-alike (drop (length l.root.outs + carried_count p (Some l.root)) p.outs) (drop (length r.root.outs + carried_count q (Some r.root)) q.outs) (loop-last P n a k p formed here l) (loop-last Q m b o q formed' there r);
    }

-- ---- partners

root-above : (n : ℕ) (ps : List CoreProc) (f : Text) (j : ℕ) → root_from n ps f ≡ Some j → n ≤ j
root-above n [] f j e = absurd (let bad : ◌≡◌ {A = Option ℕ} None (Some j) = e in cc)
root-above n (p ∷ ps) f j e = go (is_none p.parent && same_text f p.name) e (root-above (suc n) ps f j)
  where
    go : (b : Bool) → (if b then Some n else root_from (suc n) ps f) ≡ Some j → (root_from (suc n) ps f ≡ Some j → suc n ≤ j) → n ≤ j
    go true here rest = let same : n ≡ j = same_Some n j here in omega arith
    go false here rest = let after = rest here in omega (arith, after)

-- what is found is a procedure of the text
root-found : (n : ℕ) (ps : List CoreProc) (f : Text) (j k : ℕ) (q : CoreProc) → root_from n ps f ≡ Some j → j ≡ n + k → slice_get ps k ≡ Some q → is_none q.parent ≡ true
root-found n [] f j k q e at here = absurd (let bad : ◌≡◌ {A = Option CoreProc} None (Some q) = here in cc)
root-found n (p ∷ ps) f j zero q e at here = go (is_none p.parent && same_text f p.name) refl e
  where
    go : (b : Bool) → (is_none p.parent && same_text f p.name) ≡ b → (if b then Some n else root_from (suc n) ps f) ≡ Some j → is_none q.parent ≡ true
    go true is found = ap (λ (r : CoreProc). is_none r.parent) (sym (same_Some p q here)) ∙ and-left (is_none p.parent) (same_text f p.name) is
    go false is found = absurd (let after = root-above (suc n) ps f j found in omega (arith, after, at))
root-found n (p ∷ ps) f j (suc k) q e at here =
    let next : j ≡ suc n + k = omega arith in
    go (is_none p.parent && same_text f p.name) e (λ found. root-found (suc n) ps f j k q found next here)
  where
    go : (b : Bool) → (if b then Some n else root_from (suc n) ps f) ≡ Some j → (root_from (suc n) ps f ≡ Some j → is_none q.parent ≡ true) → is_none q.parent ≡ true
    go true found rest = absurd (let same : n ≡ j = same_Some n j found in omega (arith, same, at))
    go false found rest = rest found

-- procedure q at place j is that of loop k of another with the types of this one
record IsPartner (Q : CoreProgram) (own : CoreProc) (k : ℕ) (q : CoreProc) : Type 0 where
  place : ℕ
  other : CoreProc
  found : slice_get Q.procs place ≡ Some other
  types : same_types own other ≡ true
  parent : q.parent ≡ Some (place, k)

parent-is : (m k : ℕ) (o : Option (ℕ × ℕ)) → is_loop_of m k o ≡ true → o ≡ Some (m, k)
parent-is m k None h = let bad : ◌≡◌ {A = Bool} false true = h in absurd (cc)
parent-is m k (Some parent) h =
    let place : parent.0 ≡ m = eqb-true parent.0 m (and-left (parent.0 == m) (parent.1 == k) h) in
    let number : parent.1 ≡ k = eqb-true parent.1 k (and-right (parent.0 == m) (parent.1 == k) h) in
    ap Some (λ i. (place i, number i))

loop-found : (Q : CoreProgram) (m k j : ℕ) (q : CoreProc) (o : Option CoreProc) → slice_get Q.procs (m + k) ≡ o → loop_at Q.procs m k o ≡ Some j → slice_get Q.procs j ≡ Some q → q.parent ≡ Some (m, k)
loop-found Q m k j q None at e there = absurd (let bad : ◌≡◌ {A = Option ℕ} None (Some j) = e in cc)
loop-found Q m k j q (Some r) at e there = go (is_loop_of m k r.parent) refl e
  where
    go : (b : Bool) → is_loop_of m k r.parent ≡ b → (if b then Some (m + k) else None) ≡ Some j → q.parent ≡ Some (m, k)
    go true is found =
        let same : r ≡ q = same_Some r q (sym at ∙ ap (slice_get Q.procs) (same_Some (m + k) j found) ∙ there) in
        ap (λ (s : CoreProc). s.parent) (sym same) ∙ parent-is m k r.parent is
    go false is found = absurd (let bad : ◌≡◌ {A = Option ℕ} None (Some j) = found in cc)

partner-by : (Q : CoreProgram) (own : CoreProc) (k m j : ℕ) (q : CoreProc) (o : Option CoreProc) → slice_get Q.procs m ≡ o → loop_partner Q own k m o ≡ Some j → slice_get Q.procs j ≡ Some q → IsPartner Q own k q
partner-by Q own k m j q None at e there = absurd (let bad : ◌≡◌ {A = Option ℕ} None (Some j) = e in cc)
partner-by Q own k m j q (Some other) at e there = go (same_types own other) refl e
  where
    go : (b : Bool) → same_types own other ≡ b → (if b then loop_at Q.procs m k (slice_get Q.procs (m + k)) else None) ≡ Some j → IsPartner Q own k q
    go true is found = record { place = m; other = other; found = at; types = is; parent = loop-found Q m k j q (slice_get Q.procs (m + k)) refl found there }
    go false is found = absurd (let bad : ◌≡◌ {A = Option ℕ} None (Some j) = found in cc)

partner-at : (Q : CoreProgram) (own : CoreProc) (k j : ℕ) (q : CoreProc) (o : Option ℕ) → loop_partner_at Q own k o ≡ Some j → slice_get Q.procs j ≡ Some q → IsPartner Q own k q
partner-at Q own k j q None e there = absurd (let bad : ◌≡◌ {A = Option ℕ} None (Some j) = e in cc)
partner-at Q own k j q (Some m) e there = partner-by Q own k m j q (slice_get Q.procs m) refl e there

-- ---- an open pair

open-types : (P Q : CoreProgram) (i j : ℕ) (p q : CoreProc) → state_of P Q i j (Some p) (Some q) ≡ Open → same_types p q ≡ true
open-types P Q i j p q e = go (same_types p q) e
  where
    go : (b : Bool) → (if b then state_by (first_unmatched P Q i) (first_unmatched Q P j) else Signature) ≡ Open → b ≡ true
    go true h = refl
    go false h = absurd (let bad : ◌≡◌ {A = PairState} Signature Open = h in cc)

abbrev state_at : (P Q : CoreProgram) (i j : ℕ) (parent other : Option (ℕ × ℕ)) → PairState
state_at P Q i j parent other = state_of P Q (owner i parent) (owner j other) (slice_get P.procs (owner i parent)) (slice_get Q.procs (owner j other))

-- two programs, and a procedure with its partner
module _ (P Q : CoreProgram) (formed : WellFormed P) (formed' : WellFormed Q) (i j : ℕ) (p q : CoreProc) (here : slice_get P.procs i ≡ Some p) (there : slice_get Q.procs j ≡ Some q) (partnered : partner P Q p ≡ Some j) where
  alike-roots : p.parent ≡ None → state_at P Q i j p.parent q.parent ≡ Open → AreAlike p q (root_of P p) (root_of Q q)
  alike-roots e opened =
      let named : root_from 0 Q.procs p.name ≡ Some j = sym (ap (partner_by P Q p) e) ∙ partnered in
      let whole : j ≡ 0 + j = omega arith in
      let f : q.parent ≡ None = none-is q.parent (root-found 0 Q.procs p.name j j q named whole there) in
      let both : state_of P Q i j (Some p) (Some q) ≡ Open = sym (λ z. state_of P Q i j (here z) (there z)) ∙ sym (λ z. state_at P Q i j (e z) (f z)) ∙ opened in
      subst (λ (o : Option (ℕ × ℕ)). AreAlike p q (root_by P o) (root_of Q q)) (sym e) (subst (λ (o : Option (ℕ × ℕ)). AreAlike p q None (root_by Q o)) (sym f) (roots-alike p q (open-types P Q i j p q both)))

  alike-loops : (parent : ℕ × ℕ) → p.parent ≡ Some parent → AreAlike p q (root_of P p) (root_of Q q)
  alike-loops parent e =
      let l = loop_is P i p parent formed here e in
      let looked : loop_partner_at Q l.root parent.1 (root_from 0 Q.procs l.root.name) ≡ Some j = sym (ap (λ (o : Option CoreProc). loop_partner_in Q o parent.1) l.found) ∙ sym (ap (partner_by P Q p) e) ∙ partnered in
      let f = partner-at Q l.root parent.1 j q (root_from 0 Q.procs l.root.name) looked there in
      let r = loop_is Q j q (f.place, parent.1) formed' there f.parent in
      let same : r.root ≡ f.other = same_Some r.root f.other (sym r.found ∙ f.found) in
      let types : same_types l.root r.root ≡ true = ap (same_types l.root) same ∙ f.types in
      let old_root : root_of P p ≡ Some l.root = ap (root_by P) e ∙ l.found in
      let new_root : root_of Q q ≡ Some r.root = ap (root_by Q) f.parent ∙ r.found in
      let base = loops-alike P Q i parent.0 parent.1 j f.place parent.1 p q formed formed' here there l r types in
      subst (λ (o : Option CoreProc). AreAlike p q o (root_of Q q)) (sym old_root) (subst (λ (o : Option CoreProc). AreAlike p q (Some l.root) o) (sym new_root) base)

  alike-pair : (o : Option (ℕ × ℕ)) → p.parent ≡ o → state_at P Q i j p.parent q.parent ≡ Open → AreAlike p q (root_of P p) (root_of Q q)
  alike-pair None e opened = alike-roots e opened
  alike-pair (Some parent) e opened = alike-loops parent e

  inputs-agree : AreAlike p q (root_of P p) (root_of Q q) → AllByRecursion (Agrees (entry_sorts P p) (entry_sorts Q q)) (inputs_of P Q p q)
  inputs-agree h =
      let S = entry_sorts P p in
      let T = entry_sorts Q q in
      let shared = shared_of P.globals Q.globals in
      all-append (Agrees S T) (in_pairs (fixed_ins p (root_of P p)) (fixed_ins q (root_of Q q)) p.ins q.ins) (shared_pairs P.globals shared)
      (ins-agree S T (fixed_ins p (root_of P p)) (fixed_ins q (root_of Q q)) p.ins q.ins (stand-self p.ins) (stand-self q.ins) h.ins)
      (spots-agree S T P.globals shared (shared-agree S T 0 P.globals Q.globals (stand-self P.globals) (stand-self Q.globals)))

  outputs-agree : AreAlike p q (root_of P p) (root_of Q q) → AllByRecursion (Agrees (exit_sorts P p) (exit_sorts Q q)) (outputs_of P Q p q)
  outputs-agree h =
      let S = exit_sorts P p in
      let T = exit_sorts Q q in
      let shared = shared_of P.globals Q.globals in
      all-append (Agrees S T) (out_pairs (length p.ins) (length q.ins) (fixed_outs p (root_of P p)) (fixed_outs q (root_of Q q)) (carried_count p (root_of P p)) (carried_count q (root_of Q q)) p.outs q.outs) (shared_pairs P.globals (modified_globals p q shared))
      (outs-agree S T (length p.ins) (length q.ins) (fixed_outs p (root_of P p)) (fixed_outs q (root_of Q q)) (carried_count p (root_of P p)) (carried_count q (root_of Q q)) p.outs q.outs (stand-after p.ins p.outs) (stand-after q.ins q.outs) h.outs h.last)
      (spots-agree S T P.globals (modified_globals p q shared) (all-filter _ (λ s. is_among s.old p.modifies || is_among s.new q.modifies) shared (shared-agree S T 0 P.globals Q.globals (stand-self P.globals) (stand-self Q.globals))))

-- ---- candidates

place-fits : (S T : Store Sort) (all : List SpotPair) (n : ℕ) → AllByRecursion (Agrees S T) all → FitsAt kind.Eq S T (slice_get all n)
place-fits S T [] n h = tt
place-fits S T (s ∷ ss) zero h = h.0
place-fits S T (s ∷ ss) (suc n) h = place-fits S T ss n h.1

equal-fits : (S T : Store Sort) (all : List SpotPair) (n : ℕ) (ss : List SpotPair) → AllByRecursion (Agrees S T) all → AllByRecursion (Fits all S T) (equal_from n ss)
equal-fits S T all n [] h = tt
equal-fits S T all n (s ∷ ss) h = (place-fits S T all n h, equal-fits S T all (suc n) ss h)

module _ (w : Work) (pair : Pair) (p q : CoreProc) (ins : AllByRecursion (Agrees (entry_sorts w.old p) (entry_sorts w.new q)) pair.inputs) (outs : AllByRecursion (Agrees (exit_sorts w.old p) (exit_sorts w.new q)) pair.outputs) where
  abbrev FitsWhen : List Relation → Type 0
  FitsWhen = AllByRecursion (Fits pair.inputs (entry_sorts w.old p) (entry_sorts w.new q))

  abbrev FitsHere : Candidate → Type 0
  FitsHere c = FitsBoth w (record { pair = pair; candidate = c }) p q

  flags-fit : (rs : List Relation) → FitsWhen rs → AllByRecursion FitsHere (flag_candidates rs)
  flags-fit [] h = (record { when = tt; claim = tt }, tt)
  flags-fit (r ∷ rs) h = (record { when = tt; claim = tt }, (record { when = h; claim = tt }, tt))

  outs-fit : (rs : List Relation) (n : ℕ) (ss : List SpotPair) → FitsWhen rs → AllByRecursion FitsHere (output_candidates rs n ss)
  outs-fit rs n [] h = tt
  outs-fit rs n (s ∷ ss) h = (record { when = h; claim = place-fits (exit_sorts w.old p) (exit_sorts w.new q) pair.outputs n outs }, outs-fit rs (suc n) ss h)

  open-fit : AllByRecursion FitsHere (candidates_in Open pair)
  open-fit =
      let equal : FitsWhen (equal_inputs pair) = equal-fits (entry_sorts w.old p) (entry_sorts w.new q) pair.inputs 0 pair.inputs ins in
      all-append FitsHere (flag_candidates (equal_inputs pair)) (output_candidates (equal_inputs pair) 0 pair.outputs) (flags-fit (equal_inputs pair) equal) (outs-fit (equal_inputs pair) 0 pair.outputs equal)

-- ---- all pairs

abbrev AllFit : PairedPrograms → Work → List Pair → Type 0
AllFit h w pairs = AllByRecursion (FitsPair w) (claims_of h pairs)

-- the candidates of a pair, of whose procedures they fit these two
pair-fits : (w : Work) (pair : Pair) (p q : CoreProc) → slice_get w.old.procs pair.old ≡ Some p → slice_get w.new.procs pair.new ≡ Some q → (cs : List Candidate) → AllByRecursion (λ c. FitsBoth w (record { pair = pair; candidate = c }) p q) cs
    → AllByRecursion (FitsPair w) (map (λ c. record { pair = pair; candidate = c }) cs)
pair-fits w pair p q here there [] h = tt
pair-fits w pair p q here there (c ∷ cs) h = (
  λ a b at at'. subst (λ (x : CoreProc). FitsBoth w (record { pair = pair; candidate = c }) x b) (same_Some p a (sym here ∙ at)) (subst (λ (y : CoreProc). FitsBoth w (record { pair = pair; candidate = c }) p y) (same_Some q b (sym there ∙ at')) h.0),
  pair-fits w pair p q here there cs h.1,
)

module _ (h : PairedPrograms) (w : Work) (formed : WellFormed w.old) (formed' : WellFormed w.new) where
  with-fits : (i j : ℕ) (p q : CoreProc) (s : PairState) (rest : List Pair) → slice_get w.old.procs i ≡ Some p → slice_get w.new.procs j ≡ Some q → partner w.old w.new p ≡ Some j → state_at w.old w.new i j p.parent q.parent ≡ s → AllFit h w rest
      → AllFit h w (pair_with s w.old w.new i j p q ∷ rest)
  with-fits i j p q Open rest here there partnered e left =
      let pair = pair_with Open w.old w.new i j p q in
      let a = alike-pair w.old w.new formed formed' i j p q here there partnered p.parent refl e in
      all-append (FitsPair w) (map (λ c. record { pair = pair; candidate = c }) (candidates_in Open pair)) (claims_of h rest)
      (pair-fits w pair p q here there (candidates_in Open pair) (open-fit w pair p q (inputs-agree w.old w.new formed formed' i j p q here there partnered a) (outputs-agree w.old w.new formed formed' i j p q here there partnered a)))
      left
  with-fits i j p q Signature rest here there partnered e left = left
  with-fits i j p q (UnmatchedRecursion x) rest here there partnered e left = left

  at-fits : (i j : ℕ) (p : CoreProc) (o : Option CoreProc) (rest : List Pair) → slice_get w.old.procs i ≡ Some p → slice_get w.new.procs j ≡ o → partner w.old w.new p ≡ Some j → AllFit h w rest → AllFit h w (pair_at w.old w.new i j p o ++ rest)
  at-fits i j p None rest here there partnered left = left
  at-fits i j p (Some q) rest here there partnered left = with-fits i j p q (state_at w.old w.new i j p.parent q.parent) rest here there partnered refl left

  by-fits : (i : ℕ) (p : CoreProc) (o : Option ℕ) (rest : List Pair) → slice_get w.old.procs i ≡ Some p → partner w.old w.new p ≡ o → AllFit h w rest → AllFit h w (pair_by w.old w.new i p o ++ rest)
  by-fits i p None rest here partnered left = left
  by-fits i p (Some j) rest here partnered left = at-fits i j p (slice_get w.new.procs j) rest here refl partnered left

  from-fits : (i : ℕ) (ps : List CoreProc) → ((k : ℕ) (p : CoreProc) → slice_get ps k ≡ Some p → slice_get w.old.procs (i + k) ≡ Some p) → AllFit h w (pairs_from w.old w.new i ps)
  from-fits i [] at = tt
  from-fits i (p ∷ ps) at =
      let first : i + 0 ≡ i = omega arith in
      by-fits i p (partner w.old w.new p) (pairs_from w.old w.new (suc i) ps) (ap (slice_get w.old.procs) (sym first) ∙ at 0 p refl) refl
      (from-fits (suc i) ps (λ k r e. let next : suc i + k ≡ i + suc k = omega arith in ap (slice_get w.old.procs) next ∙ at (suc k) r e))

  -- so of two programs
  pub claims_fit : AllByRecursion (FitsPair w) (claims_of h (pairs_of w.old w.new))
  claims_fit = from-fits 0 w.old.procs (λ k p e. let whole : 0 + k ≡ k = omega arith in ap (slice_get w.old.procs) whole ∙ e)
