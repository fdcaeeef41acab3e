-- A judged candidate that claims the flag tells of its two procedures.
use Rattle.std.proofs.Common.{◌≡◌, ℕ, zero, suc, ◌+◌, Bool, true, false, List, [], ◌∷◌, ◌++◌, length, refl, sym, ap, subst, ◌∙◌, arith}
use Rattle.std.specs.Prelude.{Option, Some, None, slice_get, Contains}
use Rattle.std.specs.Option.{option_map}
use Rattle.std.specs.List.{AllByRecursion}
use Rattle.std.proofs.lemmas.Option.{slice_get-map, get_or_from_slice_get, same_Some}
use Rattle.sd_base.proofs.Lists.{all-at, contains-head, contains-tail}
use Rattle.sd_term.specs.Tree.{Tree}
use Rattle.sd_cube.specs.OpenCube.{IsOpenCube}
use Rattle.sd_kernel.specs.Proof.{Proves}
use Rattle.sd_kernel.specs.declared.step.Step.{Step}
use Rattle.sd_kernel.specs.declared.proved.How.{How}
use Rattle.sd_kernel.specs.declared.proved.How.TheVariants.{Steps}
use Rattle.sd_kernel.specs.declared.proved.Proved.{Proved}
use Rattle.sd_kernel.proofs.Walks.{proves-accepted}
use Rattle.sd_kernel.proofs.Refuted.{accepted-unsatisfiable}
use Rattle.sd_runs.proofs.Greatest.{are_greatest}
use Rattle.sd_product.specs.Query.{Claimed, Work, Infallibles, is_live, query_of}
use Rattle.sd_product.specs.Fits.{FitsPair}
use Rattle.sd_product.specs.Summaries.{IsWork, IsSupported, IsRootPair, IsFlagClaim, NoNewFailure}
use Rattle.sd_product.specs.Work.{PairedPrograms, AreWellFormed, work_of, infallibles_in, pairs_in, claims_in, queries_of}
use Rattle.sd_product.specs.Inductive.{live_from, proved_of, IsHow, IsProved, AreProved, IsInductive}
use Rattle.sd_product.specs.Failures.{IsPropositionalClaim, OpenCubesAreFailures}
use Rattle.sd_product.specs.Judged.{IsFlagAt, LiveFlagsAreSafe, OpenFlagsAreFailures}
use Rattle.sd_product.proofs.FitLemmas.{claims_fit}
use Rattle.sd_product.proofs.OnlyEqual.{claims-equal, IsEqualClaimed}
use Rattle.sd_product.proofs.RootLemmas.{claims-rooted, IsRootedClaim}
use Rattle.sd_product.proofs.WellQuery.{query-well}

-- ---- live candidates

live-is : (table : List Bool) (n : ℕ) → is_live table n ≡ true → slice_get table n ≡ Some true
live-is [] n e = absurd (let bad : false ≡ true = e in cc)
live-is (b ∷ bs) zero e = ap Some e
live-is (b ∷ bs) (suc n) e = live-is bs n e

live-contains : (n : ℕ) (bs : List Bool) (c : ℕ) → slice_get bs c ≡ Some true → Contains (live_from n bs) (n + c)
live-contains n [] c e = absurd (let bad : ◌≡◌ {A = Option Bool} None (Some true) = e in cc)
live-contains n (true ∷ bs) zero e = let h : n ≡ n + 0 = omega arith in subst (λ (k : ℕ). Contains (n ∷ live_from (suc n) bs) k) h (contains-head n (live_from (suc n) bs))
live-contains n (true ∷ bs) (suc c) e =
    let h : suc n + c ≡ n + suc c = omega arith in
    contains-tail n (live_from (suc n) bs) (n + suc c) (subst (λ (k : ℕ). Contains (live_from (suc n) bs) k) h (live-contains (suc n) bs c e))
live-contains n (false ∷ bs) zero e = absurd (let bad : false ≡ true = same_Some false true e in cc)
live-contains n (false ∷ bs) (suc c) e =
    let h : suc n + c ≡ n + suc c = omega arith in
    subst (λ (k : ℕ). Contains (live_from (suc n) bs) k) h (live-contains (suc n) bs c e)

-- the entry of a candidate
record Entry (queries : List (List Tree)) (c : ℕ) : Type 0 where
  entry : Proved
  named : entry.candidate ≡ c
  proved : IsProved queries entry

entry-of : (queries : List (List Tree)) (proofs : List Proved) (c : ℕ) → AllByRecursion (IsProved queries) proofs → Contains (proved_of proofs) c → Entry queries c
entry-of queries [] c a (k, within, is) = absurd (omega arith)
entry-of queries (p ∷ ps) c a (zero, within, is) = record { entry = p; named = is; proved = a.0 }
entry-of queries (p ∷ ps) c a (suc k, within, is) = entry-of queries ps c a.1 (k, omega arith, is)

-- the proof of a candidate
record HasProof (facts : List Tree) : Type 0 where
  steps : List Step
  proves : Proves facts steps

proof-of : (facts : List Tree) (how : How) → IsHow facts how → HasProof facts
proof-of facts (Steps proof) h = record { steps = proof.steps; proves = h }

-- the query of a live candidate has a proof
live-proved : (queries : List (List Tree)) (table : List Bool) (proofs : List Proved) → AreProved queries table proofs → (c : ℕ) (facts : List Tree) → slice_get table c ≡ Some true → slice_get queries c ≡ Some facts → HasProof facts
live-proved queries table proofs inductive c facts live query =
    let number : Contains (live_from 0 table) c = let h : 0 + c ≡ c = omega arith in subst (λ (k : ℕ). Contains (live_from 0 table) k) h (live-contains 0 table c live) in
    let e : Entry queries c = entry-of queries proofs c inductive.proved (subst (λ (ks : List ℕ). Contains ks c) (sym inductive.numbers) number) in
    let same : e.proved.facts ≡ facts = same_Some e.proved.facts facts (sym e.proved.query ∙ (ap (λ k. slice_get queries k) e.named ∙ query)) in
    subst (λ (fs : List Tree). HasProof fs) same (proof-of e.proved.facts e.entry.how e.proved.how)

-- ---- a work

module _ (h : PairedPrograms) (formed : AreWellFormed h) where
  abbrev W : Work
  W = work_of h

  abbrev Z : Infallibles
  Z = infallibles_in h

  is-work : IsWork W Z
  is-work = record { old_formed = formed.old_formed; new_formed = formed.new_formed; old_infallible = (are_greatest h.old.procs).is_set; new_infallible = (are_greatest h.new.procs).is_set }

  query-at : (table : List Bool) (n : ℕ) (x : Claimed) → slice_get (claims_in h) n ≡ Some x → slice_get (queries_of h table) n ≡ Some (query_of W Z table x)
  query-at table n x at = slice_get-map (query_of W Z table) (claims_in h) n ∙ ap (option_map (query_of W Z table)) at

  supported : (table : List Bool) (proofs : List Proved) → IsInductive h table proofs → IsSupported W Z table
  supported table proofs inductive n x at live =
      let fit = claims_fit h W formed.old_formed formed.new_formed in
      let facts = query_of W Z table x in
      let proof = live-proved (queries_of h table) table proofs inductive n facts (live-is table n live) (query-at table n x at) in
      let well = query-well W table Z x formed.old_formed formed.new_formed fit (all-at (FitsPair W) (claims_in h) n x fit at) in
      accepted-unsatisfiable facts proof.steps well (proves-accepted facts proof.steps proof.proves)

  root-pair : (n : ℕ) (x : Claimed) → IsFlagAt h n x → IsRootPair W x
  root-pair n x f = all-at (IsRootedClaim h.old h.new) (claims_in h) n x (claims-rooted h.old h.new) f.at f.old f.found f.root

  flag-claim : (n : ℕ) (x : Claimed) → IsFlagAt h n x → IsFlagClaim x
  flag-claim n x f = record { claim = f.flag; only_equal = (all-at IsEqualClaimed (claims_in h) n x (claims-equal h (pairs_in h)) f.at).when }

pub live-flags-safe : NoNewFailure → LiveFlagsAreSafe
live-flags-safe safe h table proofs n x formed inductive f live failure =
    safe (work_of h) (infallibles_in h) table (is-work h formed) (supported h formed table proofs inductive) n x f.at (get_or_from_slice_get table n true false live) (flag-claim h formed n x f) (root-pair h formed n x f) failure

pub open-flags-fail : OpenCubesAreFailures → OpenFlagsAreFailures
open-flags-fail fails h seen n x facts cube formed old_propositional new_propositional f when query is_open =
    let W = work_of h in
    let Z = infallibles_in h in
    let claim : IsPropositionalClaim W Z x = record {
      work = is-work h formed;
      old_propositional = old_propositional;
      new_propositional = new_propositional;
      claim = record { claim = f.flag; when = when };
      roots = root-pair h formed n x f;
    } in
    let same : facts ≡ query_of W Z seen x = same_Some facts (query_of W Z seen x) (sym query ∙ query-at h formed seen n x f.at) in
    fails W Z seen x cube claim (subst (λ (fs : List Tree). IsOpenCube fs cube) same is_open)

-- ---- the live numbers of a longer table

pub live_from-true : (n : ℕ) (bs : List Bool) → live_from n (bs ++ true ∷ []) ≡ live_from n bs ++ (n + length bs) ∷ []
live_from-true n [] = let e : n ≡ n + 0 = omega arith in ap (λ k. k ∷ []) e
live_from-true n (true ∷ bs) =
    let e : suc n + length bs ≡ n + suc (length bs) = omega arith in
    ap (λ ks. n ∷ ks) (live_from-true (suc n) bs ∙ ap (λ k. live_from (suc n) bs ++ k ∷ []) e)
live_from-true n (false ∷ bs) =
    let e : suc n + length bs ≡ n + suc (length bs) = omega arith in
    live_from-true (suc n) bs ∙ ap (λ k. live_from (suc n) bs ++ k ∷ []) e

pub live_from-false : (n : ℕ) (bs : List Bool) → live_from n (bs ++ false ∷ []) ≡ live_from n bs
live_from-false n [] = refl
live_from-false n (true ∷ bs) = ap (λ ks. n ∷ ks) (live_from-false (suc n) bs)
live_from-false n (false ∷ bs) = live_from-false (suc n) bs
