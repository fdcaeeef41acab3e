-- Each old procedure has at most one pair.
use Rattle.std.proofs.Common.{◌≡◌, ◌≢◌, ◌∙◌, sym, ap, refl, subst, inl, inr, ℕ, zero, suc, ◌+◌, ◌<◌, ◌≤◌, List, [], ◌∷◌, ◌++◌, length, get_or, set, arith}
use Rattle.std.specs.Prelude.{◌⊎◌, Option, Some, None, slice_get}
use Rattle.std.proofs.lemmas.Bool.{cases_lt}
use Rattle.std.proofs.lemmas.Option.{slice_get_within, same_Some}
use Rattle.std.proofs.lemmas.List.{get_or-set_same, get_or-set_other}
use Rattle.sd_core.specs.declared.CoreProc.{CoreProc}
use Rattle.sd_core.specs.declared.CoreProgram.{CoreProgram}
use Rattle.sd_match.specs.declared.pair.Pair.{Pair}
use Rattle.sd_match.specs.declared.pair.PairState.{PairState}
use Rattle.sd_match.specs.declared.pair.PairState.TheVariants.{Open, Signature, UnmatchedRecursion}
use Rattle.sd_match.specs.Pairs.{pair_with, state_of, owner, pair_at, pair_by, pairs_from, pairs_of, partner}
use Rattle.sd_product.specs.Work.{PairedPrograms, pairs_in}
use Rattle.sd_product.specs.Numbering.{AreAscending, FindsPairs}

-- the old procedures are at ascending places from n on, before m
abbrev InOrder : ℕ → ℕ → List Pair → Type 0
InOrder n m [] = Unit {0}
InOrder n m (p ∷ ps) = (n ≤ p.old) × (p.old < m) × InOrder (suc p.old) m ps

weaken : (n k m : ℕ) (ps : List Pair) → n ≤ k → InOrder k m ps → InOrder n m ps
weaken n k m [] le h = tt
weaken n k m (p ∷ ps) le h = let from : n ≤ p.old = omega (arith, h.0) in (from, h.1, h.2)

old_is : (state : PairState) (P Q : CoreProgram) (i j : ℕ) (p q : CoreProc) → (pair_with state P Q i j p q).old ≡ i
old_is Open P Q i j p q = refl
old_is Signature P Q i j p q = refl
old_is (UnmatchedRecursion x) P Q i j p q = refl

one_first : (pair : Pair) (i m : ℕ) (rest : List Pair) → pair.old ≡ i → i < m → InOrder (suc i) m rest → InOrder i m (pair ∷ rest)
one_first pair i m rest is lt h =
    let from : i ≤ pair.old = omega arith in
    let within : pair.old < m = omega arith in
    let next : suc pair.old ≤ suc i = omega arith in
    (from, within, weaken (suc pair.old) (suc i) m rest next h)

at_first : (P Q : CoreProgram) (i j m : ℕ) (p : CoreProc) (q : Option CoreProc) (rest : List Pair) → i < m → InOrder (suc i) m rest → InOrder i m (pair_at P Q i j p q ++ rest)
at_first P Q i j m p None rest lt h = weaken i (suc i) m rest (omega arith) h
at_first P Q i j m p (Some q) rest lt h =
    let state = state_of P Q (owner i p.parent) (owner j q.parent) (slice_get P.procs (owner i p.parent)) (slice_get Q.procs (owner j q.parent)) in
    one_first (pair_with state P Q i j p q) i m rest (old_is state P Q i j p q) lt h

by_first : (P Q : CoreProgram) (i m : ℕ) (p : CoreProc) (j : Option ℕ) (rest : List Pair) → i < m → InOrder (suc i) m rest → InOrder i m (pair_by P Q i p j ++ rest)
by_first P Q i m p None rest lt h = weaken i (suc i) m rest (omega arith) h
by_first P Q i m p (Some j) rest lt h = at_first P Q i j m p (slice_get Q.procs j) rest lt h

in_order : (P Q : CoreProgram) (i m : ℕ) (ps : List CoreProc) → i + length ps ≤ m → InOrder i m (pairs_from P Q i ps)
in_order P Q i m [] le = tt
in_order P Q i m (p ∷ ps) le = by_first P Q i m p (partner P Q p) (pairs_from P Q (suc i) ps) (omega arith) (in_order P Q (suc i) m ps (omega arith))

record Between (n m : ℕ) (p : Pair) : Type 0 where
  from : n ≤ p.old
  within : p.old < m

between : (n m : ℕ) (ps : List Pair) (i : ℕ) (p : Pair) → InOrder n m ps → slice_get ps i ≡ Some p → Between n m p
between n m [] i p h e = absurd (let bad : ◌≡◌ {A = Option Pair} None (Some p) = e in cc)
between n m (q ∷ ps) zero p h e =
    let is : q.old ≡ p.old = ap (λ (x : Pair). x.old) (same_Some q p e) in
    record { from = omega (arith, h.0); within = omega (arith, h.1) }
between n m (q ∷ ps) (suc i) p h e =
    let b = between (suc q.old) m ps i p h.2 e in
    record { from = omega (arith, h.0, b.from); within = b.within }

ascends : (n m : ℕ) (ps : List Pair) (i j : ℕ) (p q : Pair) → InOrder n m ps → i < j → slice_get ps i ≡ Some p → slice_get ps j ≡ Some q → p.old < q.old
ascends n m [] i j p q h lt e f = absurd (let bad : ◌≡◌ {A = Option Pair} None (Some p) = e in cc)
ascends n m (r ∷ ps) i zero p q h lt e f = absurd (omega arith)
ascends n m (r ∷ ps) zero (suc j) p q h lt e f =
    let is : r.old ≡ p.old = ap (λ (x : Pair). x.old) (same_Some r p e) in
    let b = between (suc r.old) m ps j q h.2 f in
    omega (arith, b.from)
ascends n m (r ∷ ps) (suc i) (suc j) p q h lt e f = ascends (suc r.old) m ps i j p q h.2 (omega arith) e f

-- so of two programs
pub are_ascending : (P Q : CoreProgram) → AreAscending (length P.procs) (pairs_of P Q)
are_ascending P Q =
    let h = in_order P Q 0 (length P.procs) P.procs (omega arith) in
    record {
      within = λ i p e. (between 0 (length P.procs) (pairs_of P Q) i p h e).within;
      ascending = λ i j p q lt e f. ascends 0 (length P.procs) (pairs_of P Q) i j p q h lt e f;
    }

pub are_ascending_in : (h : PairedPrograms) (m : ℕ) (pairs : List Pair) → m ≡ length h.old.procs → pairs ≡ pairs_in h → AreAscending m pairs
are_ascending_in h m pairs long are = subst (λ (k : ℕ). AreAscending k pairs) (sym long) (subst (λ (ps : List Pair). AreAscending (length h.old.procs) ps) (sym are) (are_ascending h.old h.new))

-- the entries of the first pairs are their places
abbrev pub FindsFirst : ℕ → List (Option ℕ) → List Pair → Type 0
FindsFirst n entries pairs = (i : ℕ) (p : Pair) → i < n → slice_get pairs i ≡ Some p → get_or entries p.old None ≡ Some i

-- one more
pub finds_more : (n m : ℕ) (entries next : List (Option ℕ)) (pairs : List Pair) (pair : Pair) → AreAscending m pairs → length entries ≡ m → slice_get pairs n ≡ Some pair → next ≡ set entries pair.old (Some n) → FindsFirst n entries pairs → FindsFirst (n + 1) next pairs
finds_more n m entries next pairs pair order long here is before i p lt at = ap (λ (es : List (Option ℕ)). get_or es p.old None) is ∙ go (cases_lt i n)
  where
    within : pair.old < length entries
    within = let w = order.within n pair here in omega (arith, w)

    go : (i < n) ⊎ (n ≤ i) → get_or (set entries pair.old (Some n)) p.old None ≡ Some i
    go (inl earlier) =
        let below : p.old < pair.old = order.ascending i n p pair earlier at here in
        let apart : p.old ≢ pair.old = omega arith in
        get_or-set_other entries pair.old p.old (Some n) None apart ∙ before i p earlier at
    go (inr late) =
        let same : i ≡ n = omega arith in
        let one : p ≡ pair = same_Some p pair (sym at ∙ ap (slice_get pairs) same ∙ here) in
        ap (λ (x : Pair). get_or (set entries pair.old (Some n)) x.old None) one ∙ get_or-set_same entries pair.old (Some n) None within ∙ ap Some (sym same)

-- and then of all
pub finds_all : (n : ℕ) (entries : List (Option ℕ)) (pairs : List Pair) → length pairs ≤ n → FindsFirst n entries pairs → FindsPairs entries pairs
finds_all n entries pairs le h i p at = let within : i < length pairs = slice_get_within pairs i p at in h i p (omega arith) at
