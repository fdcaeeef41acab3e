-- Open pairs of procedures of the texts are root pairs.
use Rattle.std.proofs.Common.{◌≡◌, ℕ, suc, ◌+◌, Bool, true, false, List, [], ◌∷◌, refl, sym, ap, subst, ◌∙◌, arith}
use Rattle.std.specs.Prelude.{◌&&◌, Option, Some, None, map, slice_get, if◌then◌else◌}
use Rattle.std.specs.Option.{is_none}
use Rattle.std.specs.List.{AllByRecursion}
use Rattle.std.proofs.lemmas.Option.{same_Some}
use Rattle.sd_base.proofs.Options.{none-is}
use Rattle.sd_base.proofs.Lists.{all-append}
use Rattle.sd_base.specs.Value.{Text, same_text}
use Rattle.sd_core.specs.declared.CoreProc.{CoreProc}
use Rattle.sd_core.specs.declared.CoreProgram.{CoreProgram}
use Rattle.sd_term.specs.Tree.{and-left}
use Rattle.sd_match.specs.declared.pair.PairState.{PairState}
use Rattle.sd_match.specs.declared.pair.PairState.TheVariants.{Open, Signature, UnmatchedRecursion}
use Rattle.sd_match.specs.declared.pair.Pair.{Pair}
use Rattle.sd_match.specs.Pairs.{same_types, root_from, partner, partner_by, owner, state_by, state_of, first_unmatched, pair_with, pair_at, pair_by, pairs_from, pairs_of}
use Rattle.sd_cand.specs.declared.candidate.Candidate.{Candidate}
use Rattle.sd_cand.specs.Candidates.{candidates_in}
use Rattle.sd_product.specs.Query.{Claimed}
use Rattle.sd_product.specs.Summaries.{IsRootPair}
use Rattle.sd_product.specs.Work.{PairedPrograms, candidates_in_pair, claims_of, claims_in, work_of}

-- ---- procedures of the texts

-- place m of some procedures that are counted from n on has one without a parent
record IsRootAt (n : ℕ) (ps : List CoreProc) (m : ℕ) : Type 0 where
  place : ℕ
  counted : n + place ≡ m
  proc : CoreProc
  found : slice_get ps place ≡ Some proc
  root : proc.parent ≡ None

root-step : (n : ℕ) (p : CoreProc) (ps : List CoreProc) (rest : Option ℕ) (m : ℕ) (c : Bool) → (c ≡ true → p.parent ≡ None) → (rest ≡ Some m → IsRootAt (suc n) ps m) → (if c then Some n else rest) ≡ Some m → IsRootAt n (p ∷ ps) m
root-step n p ps rest m true r h e = let same : n ≡ m = same_Some n m e in record { place = 0; counted = omega (arith, same); proc = p; found = refl; root = r refl }
root-step n p ps rest m false r h e = let a = h e in let counted = a.counted in record { place = suc a.place; counted = omega (arith, counted); proc = a.proc; found = a.found; root = a.root }

root-at : (n : ℕ) (ps : List CoreProc) (f : Text) (m : ℕ) → root_from n ps f ≡ Some m → IsRootAt n ps m
root-at n [] f m e = absurd (let bad : ◌≡◌ {A = Option ℕ} None (Some m) = e in cc)
root-at n (p ∷ ps) f m e =
    root-step n p ps (root_from (suc n) ps f) m (is_none p.parent && same_text f p.name) (λ t. none-is p.parent (and-left (is_none p.parent) (same_text f p.name) t)) (root-at (suc n) ps f m) e

-- ---- pairs

same-of : (c : Bool) (s : PairState) → (if c then s else Signature) ≡ Open → c ≡ true
same-of true s e = refl
same-of false s e = absurd (let bad : Signature ≡ Open = e in cc)

module _ (P Q : CoreProgram) where
  abbrev R : PairedPrograms
  R = record { old = P; new = Q }

  -- where this pair is open and its old procedure is one of the text, it is a root pair
  abbrev pub IsRooted : Pair → Type 0
  IsRooted pair = pair.state ≡ Open → (c : Candidate) (p : CoreProc) → slice_get P.procs pair.old ≡ Some p → p.parent ≡ None → IsRootPair (work_of R) (record { pair = pair; candidate = c })

  -- the partner of a procedure of the text is one of the text
  partner-root : (p q : CoreProc) (j : ℕ) → partner P Q p ≡ Some j → slice_get Q.procs j ≡ Some q → p.parent ≡ None → q.parent ≡ None
  partner-root p q j e found top =
      let a = root-at 0 Q.procs p.name j (ap (partner_by P Q p) (sym top) ∙ e) in
      let counted = a.counted in
      let place : a.place ≡ j = omega (arith, counted) in
      let same : q ≡ a.proc = same_Some q a.proc (sym found ∙ (ap (slice_get Q.procs) (sym place) ∙ a.found)) in
      ap (λ (r : CoreProc). r.parent) same ∙ a.root

  state-types : (a b : ℕ) (p q : CoreProc) (o r : Option CoreProc) → o ≡ Some p → r ≡ Some q → state_of P Q a b o r ≡ Open → same_types p q ≡ true
  state-types a b p q o r e f h =
      same-of (same_types p q) (state_by (first_unmatched P Q a) (first_unmatched Q P b))
      (subst (λ (y : Option CoreProc). state_of P Q a b (Some p) y ≡ Open) f (subst (λ (x : Option CoreProc). state_of P Q a b x r ≡ Open) e h))

  with-rooted : (i j : ℕ) (p q : CoreProc) → slice_get P.procs i ≡ Some p → slice_get Q.procs j ≡ Some q → (p.parent ≡ None → q.parent ≡ None) → (s : PairState) → (p.parent ≡ None → s ≡ Open → same_types p q ≡ true) → IsRooted (pair_with s P Q i j p q)
  with-rooted i j p q found found' root Open types is c r at top =
      let same : p ≡ r = same_Some p r (sym found ∙ at) in
      let old_top : p.parent ≡ None = ap (λ (s : CoreProc). s.parent) same ∙ top in
      record { old = p; new = q; old_found = found; new_found = found'; old_root = old_top; new_root = root old_top; types = types old_top refl; inputs = refl }
  with-rooted i j p q found found' root Signature types is c r at top = absurd (let bad : Signature ≡ Open = is in cc)
  with-rooted i j p q found found' root (UnmatchedRecursion f) types is c r at top = absurd (let bad : UnmatchedRecursion f ≡ Open = is in cc)

  owner-found : (procs : List CoreProc) (i : ℕ) (p : CoreProc) → slice_get procs i ≡ Some p → p.parent ≡ None → slice_get procs (owner i p.parent) ≡ Some p
  owner-found procs i p found top = ap (λ (o : Option (ℕ × ℕ)). slice_get procs (owner i o)) top ∙ found

  at-rooted : (i j : ℕ) (p : CoreProc) → slice_get P.procs i ≡ Some p → partner P Q p ≡ Some j → (o : Option CoreProc) → slice_get Q.procs j ≡ o → AllByRecursion IsRooted (pair_at P Q i j p o)
  at-rooted i j p found e None f = tt
  at-rooted i j p found e (Some q) f =
      let s = state_of P Q (owner i p.parent) (owner j q.parent) (slice_get P.procs (owner i p.parent)) (slice_get Q.procs (owner j q.parent)) in
      let root : p.parent ≡ None → q.parent ≡ None = partner-root p q j e f in
      let types : p.parent ≡ None → s ≡ Open → same_types p q ≡ true = λ top is.
      state-types (owner i p.parent) (owner j q.parent) p q (slice_get P.procs (owner i p.parent)) (slice_get Q.procs (owner j q.parent)) (owner-found P.procs i p found top) (owner-found Q.procs j q f (root top)) is in
      (with-rooted i j p q found f root s types, tt)

  by-rooted : (i : ℕ) (p : CoreProc) → slice_get P.procs i ≡ Some p → (o : Option ℕ) → partner P Q p ≡ o → AllByRecursion IsRooted (pair_by P Q i p o)
  by-rooted i p found None e = tt
  by-rooted i p found (Some j) e = at-rooted i j p found e (slice_get Q.procs j) refl

  from-rooted : (i : ℕ) (ps : List CoreProc) → ((k : ℕ) (p : CoreProc) → slice_get ps k ≡ Some p → slice_get P.procs (i + k) ≡ Some p) → AllByRecursion IsRooted (pairs_from P Q i ps)
  from-rooted i [] h = tt
  from-rooted i (p ∷ ps) h =
      let here : slice_get P.procs i ≡ Some p = subst (λ (n : ℕ). slice_get P.procs n ≡ Some p) (omega arith) (h 0 p refl) in
      let later : (k : ℕ) (r : CoreProc) → slice_get ps k ≡ Some r → slice_get P.procs (suc i + k) ≡ Some r = λ k r e. subst (λ (n : ℕ). slice_get P.procs n ≡ Some r) (omega arith) (h (suc k) r e) in
      all-append IsRooted (pair_by P Q i p (partner P Q p)) (pairs_from P Q (suc i) ps) (by-rooted i p here (partner P Q p) refl) (from-rooted (suc i) ps later)

  pairs-rooted : AllByRecursion IsRooted (pairs_of P Q)
  pairs-rooted = from-rooted 0 P.procs (λ k p e. subst (λ (n : ℕ). slice_get P.procs n ≡ Some p) (omega arith) e)

  -- ---- claims

  -- a claim about procedures of the texts is one about a root pair
  abbrev pub IsRootedClaim : Claimed → Type 0
  IsRootedClaim x = (p : CoreProc) → slice_get P.procs x.pair.old ≡ Some p → p.parent ≡ None → IsRootPair (work_of R) x

  each-rooted : (pair : Pair) → IsRooted pair → pair.state ≡ Open → (cs : List Candidate) → AllByRecursion IsRootedClaim (map (λ c. record { pair = pair; candidate = c }) cs)
  each-rooted pair h is [] = tt
  each-rooted pair h is (c ∷ cs) = (h is c, each-rooted pair h is cs)

  pair-rooted : (pair : Pair) → IsRooted pair → (s : PairState) → pair.state ≡ s → AllByRecursion IsRootedClaim (map (λ c. record { pair = pair; candidate = c }) (candidates_in s pair))
  pair-rooted pair h Open is = each-rooted pair h is (candidates_in Open pair)
  pair-rooted pair h Signature is = tt
  pair-rooted pair h (UnmatchedRecursion f) is = tt

  all-rooted : (pairs : List Pair) → AllByRecursion IsRooted pairs → AllByRecursion IsRootedClaim (claims_of R pairs)
  all-rooted [] h = tt
  all-rooted (pair ∷ pairs) h =
      all-append IsRootedClaim (map (λ c. record { pair = pair; candidate = c }) (candidates_in_pair R pair)) (claims_of R pairs) (pair-rooted pair h.0 pair.state refl) (all-rooted pairs h.1)

  pub claims-rooted : AllByRecursion IsRootedClaim (claims_in R)
  claims-rooted = all-rooted (pairs_of P Q) pairs-rooted
