-- Parts of the table of live candidates, and of the lists of pairs.
use Rattle.std.proofs.Common.{◌≡◌, ◌∙◌, sym, ap, refl, ℕ, suc, zero, ◌+◌, ◌<◌, Bool, true, false, List, [], ◌∷◌, ◌++◌, length, drop, get_or, append_assoc, length-append, arith}
use Rattle.std.proofs.lemmas.Bool.{and_from}
use Rattle.std.specs.Prelude.{Option, Some, None, slice_get, ◌&&◌, ◌||◌}
use Rattle.std.proofs.Math.Seq.{drop-nil}
use Rattle.std.proofs.lemmas.List.{length-drop, length-map}
use Rattle.std.proofs.lemmas.Option.{same_Some, slice_get-get_or}
use Rattle.sd_base.proofs.Lists.{drop-at}
use Rattle.sd_term.proofs.Numbers.{drop-some}
use Rattle.sd_match.specs.declared.pair.Pair.{Pair}
use Rattle.sd_cand.specs.declared.candidate.Candidate.{Candidate}
use Rattle.sd_product.specs.Claims.{claimed}
use Rattle.sd_product.specs.Work.{PairedPrograms, candidates_in_pair, candidate_lists, claims_of}
use Rattle.sd_run.specs.declared.verdict.PairVerdict.{PairVerdict}
use Rattle.sd_run.specs.declared.verdict.Otherwise.{Otherwise}
use Rattle.sd_run.specs.Verdicts.{is_flag, flag_live, verdict_of, verdicts_of}

pub drop-drop : {X : Type 0} (m n : ℕ) (xs : List X) → drop m (drop n xs) ≡ drop (n + m) xs
drop-drop m zero xs = let e : m ≡ 0 + m = omega arith in ap (λ k. drop k xs) e
drop-drop m (suc n) [] = drop-nil m ∙ sym (drop-nil (suc n + m))
drop-drop m (suc n) (x ∷ xs) = let e : suc n + m ≡ suc (n + m) = omega arith in drop-drop m n xs ∙ ap (λ k. drop k (x ∷ xs)) (sym e)

-- ---- the claims on the flags of one pair

-- a candidate more
flag_step : (cs : List Candidate) (t : List Bool) (i n : ℕ) (c : Candidate) (b : Bool) → i < length cs → n < length t → c ≡ get_or cs i c → slice_get t n ≡ Some b
    → flag_live (drop i cs) (drop n t) ≡ ((is_flag c.claim && b) || flag_live (drop (i + 1) cs) (drop (n + 1) t))
flag_step cs t i n c b within below at is k = flag_live (drop-at cs i c within at k) (drop-some t n b is k)

no_second : (a b : Bool) → b ≡ false → (a && b) ≡ false
no_second true b e = e
no_second false b e = refl

-- a live claim on the flag
pub flag_here : (cs : List Candidate) (t : List Bool) (i n : ℕ) (c : Candidate) (b : Bool) → i < length cs → n < length t → c ≡ get_or cs i c → slice_get t n ≡ Some b → is_flag c.claim ≡ true → b ≡ true
    → flag_live (drop i cs) (drop n t) ≡ true
flag_here cs t i n c b within below at is flag live =
    flag_step cs t i n c b within below at is ∙ ap (λ x. x || flag_live (drop (i + 1) cs) (drop (n + 1) t)) (and_from (is_flag c.claim) b flag live)

-- a dead one
pub flag_dead : (cs : List Candidate) (t : List Bool) (i n : ℕ) (c : Candidate) (b : Bool) → i < length cs → n < length t → c ≡ get_or cs i c → slice_get t n ≡ Some b → b ≡ false
    → flag_live (drop i cs) (drop n t) ≡ flag_live (drop (i + 1) cs) (drop (n + 1) t)
flag_dead cs t i n c b within below at is dead =
    flag_step cs t i n c b within below at is ∙ ap (λ x. x || flag_live (drop (i + 1) cs) (drop (n + 1) t)) (no_second (is_flag c.claim) b dead)

-- a claim on an output
pub flag_other : (cs : List Candidate) (t : List Bool) (i n : ℕ) (c : Candidate) → i < length cs → n < length t → c ≡ get_or cs i c → is_flag c.claim ≡ false
    → flag_live (drop i cs) (drop n t) ≡ flag_live (drop (i + 1) cs) (drop (n + 1) t)
flag_other cs t i n c within below at other =
    flag_step cs t i n c (get_or t n false) within below at (slice_get-get_or t n false below) ∙ ap (λ x. (x && get_or t n false) || flag_live (drop (i + 1) cs) (drop (n + 1) t)) other

pub drop_shorter : {X : Type 0} (xs : List X) (i : ℕ) → i < length xs → length (drop i xs) ≡ suc (length (drop (i + 1) xs))
drop_shorter xs i h = omega (arith, length-drop i xs, length-drop (i + 1) xs)

-- ---- pairs

module _ (work : PairedPrograms) where
  pub count_first : (pair : Pair) (pairs : List Pair) → length (claims_of work (pair ∷ pairs)) ≡ length (candidates_in_pair work pair) + length (claims_of work pairs)
  count_first pair pairs =
      length-append (claimed pair (candidates_in_pair work pair)) (claims_of work pairs) ∙ ap (λ n. n + length (claims_of work pairs)) (length-map (candidates_in_pair work pair) _)

  -- the candidates of pair i come first from there on
  pub count_at : (pairs : List Pair) (i : ℕ) (cs : List Candidate) → slice_get (candidate_lists work pairs) i ≡ Some cs → length (claims_of work (drop i pairs)) ≡ length cs + length (claims_of work (drop (i + 1) pairs))
  count_at [] i cs e = absurd (let bad : ◌≡◌ {A = Option (List Candidate)} None (Some cs) = e in cc)
  count_at (p ∷ ps) zero cs e = count_first p ps ∙ ap (λ n. n + length (claims_of work ps)) (ap length (same_Some (candidates_in_pair work p) cs e))
  count_at (p ∷ ps) (suc i) cs e = let next : suc i + 1 ≡ suc (i + 1) = omega arith in count_at ps i cs e ∙ ap (λ n. length cs + length (claims_of work (drop n (p ∷ ps)))) (sym next)

  pub candidates_at : (pairs : List Pair) (i : ℕ) (pair : Pair) (cs : List Candidate) → slice_get pairs i ≡ Some pair → slice_get (candidate_lists work pairs) i ≡ Some cs → cs ≡ candidates_in_pair work pair
  candidates_at [] i pair cs e f = absurd (let bad : ◌≡◌ {A = Option Pair} None (Some pair) = e in cc)
  candidates_at (p ∷ ps) zero pair cs e f = sym (same_Some (candidates_in_pair work p) cs f) ∙ ap (candidates_in_pair work) (same_Some p pair e)
  candidates_at (p ∷ ps) (suc i) pair cs e f = candidates_at ps i pair cs e f

-- a pair more
pub record PairStep (o : Otherwise) (work : PairedPrograms) (pairs : List Pair) (table : List Bool) (i : ℕ) (pair : Pair) (first count : ℕ) : Type 0 where
  pub front : verdicts_of o work (drop i pairs) (drop first table) ≡ verdict_of o work pair (flag_live (candidates_in_pair work pair) (drop first table)) ++ verdicts_of o work (drop (i + 1) pairs) (drop (first + count) table)

pub pair_step : (o : Otherwise) (work : PairedPrograms) (pairs : List Pair) (table : List Bool) (i : ℕ) (pair : Pair) (first count : ℕ) → slice_get pairs i ≡ Some pair → count ≡ length (candidates_in_pair work pair) → PairStep o work pairs table i pair first count
pair_step o work pairs table i pair first count at sum =
    let cut : drop i pairs ≡ pair ∷ drop (i + 1) pairs = drop-some pairs i pair at in
    record {
      front =
          ap (λ ps. verdicts_of o work ps (drop first table)) cut
          ∙ ap (λ t. verdict_of o work pair (flag_live (candidates_in_pair work pair) (drop first table)) ++ verdicts_of o work (drop (i + 1) pairs) t) (drop-drop (length (candidates_in_pair work pair)) first table ∙ ap (λ n. drop (first + n) table) (sym sum));
    }

pub verdicts_more : (o : Otherwise) (work : PairedPrograms) (pairs : List Pair) (table : List Bool) (i first count : ℕ) (pair : Pair) (done next : List PairVerdict) → PairStep o work pairs table i pair first count
    → verdicts_of o work pairs table ≡ done ++ verdicts_of o work (drop i pairs) (drop first table) → next ≡ done ++ verdict_of o work pair (flag_live (candidates_in_pair work pair) (drop first table))
    → verdicts_of o work pairs table ≡ next ++ verdicts_of o work (drop (i + 1) pairs) (drop (first + count) table)
verdicts_more o work pairs table i first count pair done next step before added =
    let v = verdict_of o work pair (flag_live (candidates_in_pair work pair) (drop first table)) in
    let rest = verdicts_of o work (drop (i + 1) pairs) (drop (first + count) table) in
    before ∙ (ap (λ vs. done ++ vs) step.front ∙ (sym (append_assoc done v rest) ∙ ap (λ vs. vs ++ rest) (sym added)))
