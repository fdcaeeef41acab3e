-- How one candidate is judged.
use Rattle.std.proofs.Common.{◌≡◌, ◌≢◌, ◌∙◌, sym, ap, refl, subst, ℕ, suc, zero, ◌+◌, ◌-◌, ◌<◌, ◌≤◌, Bool, true, false, List, [], ◌∷◌, ◌++◌, length, set, take, append_assoc, length-append, arith}
use Rattle.sd_product.proofs.JudgedLemmas.{live_from-true, live_from-false}
use Rattle.std.specs.Prelude.{Some, MatchBool, ◌||◌, replicate, slice_get, Contains}
use Rattle.std.proofs.lemmas.List.{append-nil, map-append, take_more, take_all, get_or-replicate, length-take-le}
use Rattle.std.proofs.lemmas.Option.{slice_get_within, slice_get-get_or, get_or_from_slice_get}
use Rattle.std.proofs.Math.ListN.{length-set, length-replicate}
use Rattle.sd_base.proofs.Lists.{all-append, contains-head, contains-tail}
use Rattle.sd_term.specs.Tree.{Tree}
use Rattle.sd_cube.specs.OpenCube.{IsOpenCube}
use Rattle.sd_cube.specs.Spent.{IsSpent}
use Rattle.sd_kernel.specs.Proof.{Proves}
use Rattle.sd_kernel.specs.declared.proved.Proved.{Proved}
use Rattle.sd_search.specs.declared.search.Outcome.{Outcome}
use Rattle.sd_search.specs.declared.search.Outcome.TheVariants.{Refuted, Open as Undecided, Spent as SpentQuery}
use Rattle.sd_search.specs.Outcome.{IfRefuted, IfOpen, IfSpent}
use Rattle.sd_cand.specs.Words.{words_of}
use Rattle.sd_match.specs.declared.pair.Pair.{Pair}
use Rattle.sd_product.specs.Work.{PairedPrograms, pairs_in, claims_of, claims_in, queries_of}
use Rattle.sd_product.specs.Bodies.{count_before}
use Rattle.sd_rounds.specs.declared.settle.Finding.{Finding}
use Rattle.sd_rounds.specs.declared.settle.Death.{Death}
use Rattle.sd_rounds.specs.Table.{cleared, live_from}
use Rattle.sd_rounds.specs.Settled.{dead_of, IsLegalDeath, AreLegal, IsProved, AreProved, IsInductive, IsSettled, AreSweeps}
use Rattle.sd_rounds.specs.Sweep.{IsCauseAt, IsFinding, finding_of, AreDead, AreProvedBelow, GoesOn}

-- ---- lists

slice_get-set_other : (t : List Bool) (c i : ℕ) (b : Bool) → i ≢ c → slice_get (set t c b) i ≡ slice_get t i
slice_get-set_other [] c i b ne = refl
slice_get-set_other (x ∷ xs) zero zero b ne = absurd (ne refl)
slice_get-set_other (x ∷ xs) zero (suc i) b ne = refl
slice_get-set_other (x ∷ xs) (suc c) zero b ne = refl
slice_get-set_other (x ∷ xs) (suc c) (suc i) b ne = slice_get-set_other xs c i b (λ e. ne (ap suc e))

slice_get-replicate : (n i : ℕ) → i < n → slice_get (replicate n true) i ≡ Some true
slice_get-replicate n i h =
    let within : i < length (replicate n true) = subst (λ (m : ℕ). i < m) (sym (length-replicate n true)) h in
    slice_get-get_or (replicate n true) i false within ∙ ap Some (get_or-replicate n i true false h)

-- ---- tables

pub cleared-snoc : (t : List Bool) (cs : List ℕ) (c : ℕ) → cleared t (cs ++ c ∷ []) ≡ set (cleared t cs) c false
cleared-snoc t [] c = refl
cleared-snoc t (d ∷ cs) c = cleared-snoc (set t d false) cs c

cleared-other : (t : List Bool) (cs : List ℕ) (i : ℕ) → (Contains cs i → ⊥) → slice_get (cleared t cs) i ≡ slice_get t i
cleared-other t [] i none = refl
cleared-other t (c ∷ cs) i none =
    cleared-other (set t c false) cs i (λ h. none (contains-tail c cs i h))
    ∙ slice_get-set_other t c i false (λ e. none (subst (λ (k : ℕ). Contains (c ∷ cs) k) (sym e) (contains-head c cs)))

pub not_set : (t : List Bool) (c : ℕ) → slice_get (set t c false) c ≡ Some true → ⊥
not_set [] c e = cc
not_set (x ∷ xs) zero e = cc
not_set (x ∷ xs) (suc c) e = not_set xs c e

pub live_before_set : (t : List Bool) (c i : ℕ) → slice_get (set t c false) i ≡ Some true → slice_get t i ≡ Some true
live_before_set [] c i e = e
live_before_set (x ∷ xs) zero zero e = absurd (cc)
live_before_set (x ∷ xs) zero (suc i) e = e
live_before_set (x ∷ xs) (suc c) zero e = e
live_before_set (x ∷ xs) (suc c) (suc i) e = live_before_set xs c i e

live_before : (t : List Bool) (cs : List ℕ) (i : ℕ) → slice_get (cleared t cs) i ≡ Some true → slice_get t i ≡ Some true
live_before t [] i e = e
live_before t (c ∷ cs) i e = live_before_set t c i (live_before (set t c false) cs i e)

-- a live candidate isn't among those that were cleared
not_cleared : (t : List Bool) (cs : List ℕ) (i : ℕ) → slice_get (cleared t cs) i ≡ Some true → Contains cs i → ⊥
not_cleared t [] i e (k, within, is) = omega arith
not_cleared t (c ∷ cs) i e (zero, within, is) = not_set t c (subst (λ (k : ℕ). slice_get (set t c false) k ≡ Some true) (sym is) (live_before (set t c false) cs i e))
not_cleared t (c ∷ cs) i e (suc k, within, is) = not_cleared (set t c false) cs i e (k, omega arith, is)

-- all of a full table are live
length-live_from-full : (n k : ℕ) → length (live_from n (replicate k true)) ≡ k
length-live_from-full n zero = refl
length-live_from-full n (suc k) = ap suc (length-live_from-full (suc n) k)

-- one is live less after a live one was cleared
length-live_from-set : (n : ℕ) (t : List Bool) (c : ℕ) → slice_get t c ≡ Some true → length (live_from n t) ≡ suc (length (live_from n (set t c false)))
length-live_from-set n [] c e = absurd (cc)
length-live_from-set n (true ∷ t) zero e = refl
length-live_from-set n (false ∷ t) zero e = absurd (cc)
length-live_from-set n (true ∷ t) (suc c) e = ap suc (length-live_from-set (suc n) t c e)
length-live_from-set n (false ∷ t) (suc c) e = length-live_from-set (suc n) t c e

-- ---- deaths

legal-snoc : (leaves : ℕ) (h : PairedPrograms) (before : List ℕ) (ds : List Death) (d : Death) → AreLegal leaves h before ds → IsLegalDeath leaves h (before ++ dead_of ds) d → AreLegal leaves h before (ds ++ d ∷ [])
legal-snoc leaves h before [] d a is = (subst (λ (b : List ℕ). IsLegalDeath leaves h b d) (append-nil before) is, tt)
legal-snoc leaves h before (e ∷ ds) d a is =
    (a.0, legal-snoc leaves h (before ++ e.candidate ∷ []) ds d a.1 (subst (λ (b : List ℕ). IsLegalDeath leaves h b d) (sym (append_assoc before (e.candidate ∷ []) (dead_of ds))) is))

-- before the first sweep
pub none_dead : (leaves : ℕ) (h : PairedPrograms) (table : List Bool) (deaths : List Death) → table ≡ replicate (length (claims_in h)) true → deaths ≡ [] → AreDead leaves h table deaths
none_dead leaves h table deaths full none =
    subst (λ (ds : List Death). AreDead leaves h table ds) (sym none)
    (subst (λ (t : List Bool). AreDead leaves h t []) (sym full)
    (record { size = length-replicate (length (claims_in h)) true; table_is = refl; legal = tt; counted = let e = length-live_from-full 0 (length (claims_in h)) in omega (arith, e) }))

-- A live candidate dies of a cause.
pub cause_kills : (leaves : ℕ) (h : PairedPrograms) (table table' : List Bool) (deaths deaths' : List Death) (d : Death) → AreDead leaves h table deaths → slice_get table d.candidate ≡ Some true
    → IsCauseAt leaves (queries_of h table) d.candidate d.cause → d.seen.items ≡ words_of table → table' ≡ set table d.candidate false → deaths' ≡ deaths ++ d ∷ [] → AreDead leaves h table' deaths'
cause_kills leaves h table table' deaths deaths' d dead alive caused seen cut added =
    subst (λ (ds : List Death). AreDead leaves h table' ds) (sym added)
    (subst (λ (t : List Bool). AreDead leaves h t (deaths ++ d ∷ [])) (sym cut)
    (record {
      size = length-set table d.candidate false ∙ dead.size;
      table_is =
          ap (λ t. set t d.candidate false) dead.table_is
          ∙ (sym (cleared-snoc (replicate (length (claims_in h)) true) (dead_of deaths) d.candidate)
          ∙ ap (cleared (replicate (length (claims_in h)) true)) (sym (map-append (λ x. x.candidate) deaths (d ∷ []))));
      legal = legal-snoc leaves h [] deaths d dead.legal death;
      counted =
          let more = length-append deaths (d ∷ []) in
          let less = length-live_from-set 0 table d.candidate alive in
          let same = dead.counted in
          omega (arith, more, less, same);
    }))
  where
    death : IsLegalDeath leaves h (dead_of deaths) d
    death = record {
      seen = table;
      words = seen;
      held = record {
        size = dead.size;
        held = λ c below none. ap (λ t. slice_get t c) dead.table_is ∙ (cleared-other (replicate (length (claims_in h)) true) (dead_of deaths) c none ∙ slice_get-replicate (length (claims_in h)) c below);
      };
      facts = caused.facts;
      query = caused.query;
      once = not_cleared (replicate (length (claims_in h)) true) (dead_of deaths) d.candidate (ap (λ t. slice_get t d.candidate) (sym dead.table_is) ∙ alive);
      cause = caused.is_cause;
    }

-- ---- proofs

module _ (queries : List (List Tree)) (table : List Bool) (n : ℕ) (proofs : List Proved) where
  -- before a sweep
  pub none_proved : n ≡ 0 → proofs ≡ [] → AreProved queries (take n table) proofs
  none_proved start none =
      subst (λ (ps : List Proved). AreProved queries (take n table) ps) (sym none)
      (record { numbers = ap (λ k. live_from 0 (take k table)) (sym start); proved = tt })

  -- after it
  pub all_proved : n ≡ length table → AreProved queries (take n table) proofs → AreProved queries table proofs
  all_proved ends proved =
      let within : length table ≤ n = omega (arith, ends) in
      subst (λ (t : List Bool). AreProved queries t proofs) (take_all n table within) proved

  -- a dead candidate
  pub dead_passed : slice_get table n ≡ Some false → AreProved queries (take n table) proofs → AreProved queries (take (n + 1) table) proofs
  dead_passed dead proved =
      let within : n < length table = slice_get_within table n false dead in
      let grown : take (n + 1) table ≡ take n table ++ false ∷ [] = take_more table n false within ∙ ap (λ b. take n table ++ b ∷ []) (get_or_from_slice_get table n false false dead) in
      record { numbers = proved.numbers ∙ sym (ap (live_from 0) grown ∙ live_from-false 0 (take n table)); proved = proved.proved }

  -- a live one
  pub live_passed : (p : Proved) (proofs' : List Proved) → p.candidate ≡ n → slice_get table n ≡ Some true → IsProved queries p → proofs' ≡ proofs ++ p ∷ [] → AreProved queries (take n table) proofs → AreProved queries (take (n + 1) table) proofs'
  live_passed p proofs' named alive one added proved =
      let within : n < length table = slice_get_within table n true alive in
      let grown : take (n + 1) table ≡ take n table ++ true ∷ [] = take_more table n false within ∙ ap (λ b. take n table ++ b ∷ []) (get_or_from_slice_get table n true false alive) in
      let front : length (take n table) ≡ n = length-take-le n table (omega arith) in
      let place : p.candidate ≡ 0 + length (take n table) = omega (arith, front, named) in
      subst (λ (ps : List Proved). AreProved queries (take (n + 1) table) ps) (sym added)
      (record {
        numbers =
            map-append (λ x. x.candidate) proofs (p ∷ [])
            ∙ (ap (λ ks. ks ++ p.candidate ∷ []) proved.numbers
            ∙ (ap (λ k. live_from 0 (take n table) ++ k ∷ []) place
            ∙ sym (ap (live_from 0) grown ∙ live_from-true 0 (take n table))));
        proved = all-append (IsProved queries) proofs (p ∷ []) proved.proved (one, tt);
      })

-- ---- judging a candidate

-- what the search found
pub found : (leaves : ℕ) (queries : List (List Tree)) (n : ℕ) (facts : List Tree) (o : Outcome) (f : Finding) → slice_get queries n ≡ Some facts → f ≡ finding_of leaves o
    → IfRefuted o (λ proof. Proves facts proof.steps) → IfOpen o (λ cube. IsOpenCube facts cube) → IfSpent o (λ cubes. IsSpent facts cubes leaves) → IsFinding leaves queries n f
found leaves queries n facts o f query is refuted undecided spent = subst (λ (x : Finding). IsFinding leaves queries n x) (sym is) (go o refuted undecided spent)
  where
    go : (o : Outcome) → IfRefuted o (λ proof. Proves facts proof.steps) → IfOpen o (λ cube. IsOpenCube facts cube) → IfSpent o (λ cubes. IsSpent facts cubes leaves) → IsFinding leaves queries n (finding_of leaves o)
    go (Refuted proof) refuted undecided spent = record { facts = facts; query = query; how = refuted }
    go (Undecided cube) refuted undecided spent = record { facts = facts; query = query; is_cause = undecided }
    go (SpentQuery cubes) refuted undecided spent = record { facts = facts; query = query; is_cause = (refl, (cubes, spent)) }

-- a dead candidate
pub passes_dead : (h : PairedPrograms) (n : ℕ) (table : List Bool) (deaths : List Death) (proofs : List Proved) → slice_get table n ≡ Some false → GoesOn h n (n + 1) table table deaths deaths proofs proofs
passes_dead h n table deaths proofs dead = record { table_stays = refl; deaths_stay = refl; proved = dead_passed (queries_of h table) table n proofs dead }

-- a live one with a proof
pub passes_live : (h : PairedPrograms) (n : ℕ) (table : List Bool) (deaths : List Death) (proofs proofs' : List Proved) (p : Proved) → p.candidate ≡ n → slice_get table n ≡ Some true
    → IsProved (queries_of h table) p → proofs' ≡ proofs ++ p ∷ [] → GoesOn h n (n + 1) table table deaths deaths proofs proofs'
passes_live h n table deaths proofs proofs' p named alive one added = record { table_stays = refl; deaths_stay = refl; proved = live_passed (queries_of h table) table n proofs p proofs' named alive one added }

-- ---- the candidates of a pair

-- none of them is live
dead_between : (queries : List (List Tree)) (table : List Bool) (n k : ℕ) (proofs : List Proved) → ((c : ℕ) → n ≤ c → c < n + k → slice_get table c ≡ Some false) → AreProved queries (take n table) proofs → AreProved queries (take (n + k) table) proofs
dead_between queries table n zero proofs dead proved = let e : n ≡ n + 0 = omega arith in subst (λ (m : ℕ). AreProved queries (take m table) proofs) e proved
dead_between queries table n (suc k) proofs dead proved =
    let e : (n + k) + 1 ≡ n + suc k = omega arith in
    let before = dead_between queries table n k proofs (λ c lo hi. dead c lo (omega arith)) proved in
    subst (λ (m : ℕ). AreProved queries (take m table) proofs) e (dead_passed queries table (n + k) proofs (dead (n + k) (omega arith) (omega arith)) before)

pub passes_none : (h : PairedPrograms) (n m : ℕ) (table : List Bool) (deaths : List Death) (proofs : List Proved) → n ≤ m → ((c : ℕ) → n ≤ c → c < m → slice_get table c ≡ Some false) → GoesOn h n m table table deaths deaths proofs proofs
passes_none h n m table deaths proofs ordered dead =
    let e : n + (m - n) ≡ m = omega arith in record {
      table_stays = refl;
      deaths_stay = refl;
      proved = λ before. subst (λ (k : ℕ). AreProvedBelow h k table proofs) e (dead_between (queries_of h table) table n (m - n) proofs (λ c lo hi. dead c lo (omega arith)) before);
    }

-- before the first of them
pub goes_nowhere : (h : PairedPrograms) (n m : ℕ) (table : List Bool) (deaths : List Death) (proofs : List Proved) → n ≡ m → GoesOn h n m table table deaths deaths proofs proofs
goes_nowhere h n m table deaths proofs e = record { table_stays = refl; deaths_stay = refl; proved = subst (λ (k : ℕ). AreProvedBelow h k table proofs) e }

module _ (h : PairedPrograms) (n m k : ℕ) (table0 table1 table2 : List Bool) (deaths0 deaths1 deaths2 : List Death) (proofs0 proofs1 proofs2 : List Proved) where
  goes_then : GoesOn h n m table0 table1 deaths0 deaths1 proofs0 proofs1 → GoesOn h m k table1 table2 deaths1 deaths2 proofs1 proofs2 → GoesOn h n k table0 table2 deaths0 deaths2 proofs0 proofs2
  goes_then a b = record {
    table_stays = b.table_stays ∙ a.table_stays;
    deaths_stay = b.deaths_stay ∙ a.deaths_stay;
    proved = λ before. subst (λ (t : List Bool). AreProvedBelow h k t proofs2) a.table_stays (b.proved (subst (λ (t : List Bool). AreProvedBelow h m t proofs1) (sym a.table_stays) (a.proved before)));
  }

  -- there are no fewer deaths after one of them
  pub grows : (b : Bool) → length deaths0 ≤ length deaths1 → MatchBool b (length deaths2 ≡ length deaths1 + 1) (GoesOn h m k table1 table2 deaths1 deaths2 proofs1 proofs2) → length deaths0 ≤ length deaths2
  grows true below died = omega arith
  grows false below goes = let e = ap length goes.deaths_stay in omega (arith, e)

  -- one of them further
  pub goes_on : (a b : Bool) → length deaths0 ≤ length deaths1 → MatchBool a (length deaths0 < length deaths1) (GoesOn h n m table0 table1 deaths0 deaths1 proofs0 proofs1) → MatchBool b (length deaths2 ≡ length deaths1 + 1) (GoesOn h m k table1 table2 deaths1 deaths2 proofs1 proofs2)
      → MatchBool (a || b) (length deaths0 < length deaths2) (GoesOn h n k table0 table2 deaths0 deaths2 proofs0 proofs2)
  goes_on true true below grown died = omega arith
  goes_on true false below grown goes = let e = ap length goes.deaths_stay in omega (arith, e)
  goes_on false true below before died = omega arith
  goes_on false false below before goes = goes_then before goes

-- ---- a sweep

-- one pair further
pub sweeps_on : (h : PairedPrograms) (n m start : ℕ) (table table' : List Bool) (deaths deaths' : List Death) (proofs proofs' : List Proved) (a b : Bool)
    → start ≤ length deaths → MatchBool a (start < length deaths) (AreProvedBelow h n table proofs) → MatchBool b (length deaths < length deaths') (GoesOn h n m table table' deaths deaths' proofs proofs') → length deaths ≤ length deaths'
    → MatchBool (a || b) (start < length deaths') (AreProvedBelow h m table' proofs')
sweeps_on h n m start table table' deaths deaths' proofs proofs' true b below grown died more = omega arith
sweeps_on h n m start table table' deaths deaths' proofs proofs' false true below proved died more = omega arith
sweeps_on h n m start table table' deaths deaths' proofs proofs' false false below proved goes more = subst (λ (t : List Bool). AreProvedBelow h m t proofs') (sym goes.table_stays) (goes.proved proved)

-- where neither of two dropped one, there are as many deaths as before
pub still_on : (h : PairedPrograms) (n m start : ℕ) (table table' : List Bool) (deaths deaths' : List Death) (proofs proofs' : List Proved) (a b : Bool)
    → (a ≡ false → length deaths ≡ start) → MatchBool b (length deaths < length deaths') (GoesOn h n m table table' deaths deaths' proofs proofs') → (a || b) ≡ false → length deaths' ≡ start
still_on h n m start table table' deaths deaths' proofs proofs' true b before after none = absurd (cc)
still_on h n m start table table' deaths deaths' proofs proofs' false true before after none = absurd (cc)
still_on h n m start table table' deaths deaths' proofs proofs' false false before after none = ap length after.deaths_stay ∙ before refl

-- all pairs have been passed where so many have
pub passed_all : (h : PairedPrograms) (pairs : ℕ) → length (pairs_in h) ≤ pairs → count_before h pairs ≡ length (claims_in h)
passed_all h pairs ends = ap (λ (ps : List Pair). length (claims_of h ps)) (take_all pairs (pairs_in h) ends)

-- at its end
pub swept : (h : PairedPrograms) (n : ℕ) (table : List Bool) (proofs : List Proved) (b : Bool) (P : Type 0) → n ≡ length table → MatchBool b P (AreProvedBelow h n table proofs) → MatchBool b P (IsInductive h table proofs)
swept h n table proofs true P ends grown = grown
swept h n table proofs false P ends proved = all_proved (queries_of h table) table n proofs ends proved

-- fewer are live where more have died
pub fewer_live : (leaves : ℕ) (h : PairedPrograms) (table table' : List Bool) (deaths deaths' : List Death) → AreDead leaves h table deaths → AreDead leaves h table' deaths' → length deaths < length deaths' → length (live_from 0 table') < length (live_from 0 table)
fewer_live leaves h table table' deaths deaths' before after more = let a = before.counted in let b = after.counted in omega (arith, a, b)

-- ---- how many sweeps

pub first_sweep : (deaths : ℕ) → deaths ≡ 0 → AreSweeps 1 deaths
first_sweep deaths none = record { some = omega arith; few = omega arith; more = λ h. omega arith }

-- one more after a sweep that dropped some
pub one_sweep_more : (sweeps sweeps' deaths deaths' : ℕ) → AreSweeps sweeps deaths → sweeps' ≡ sweeps + 1 → deaths < deaths' → AreSweeps sweeps' deaths'
one_sweep_more sweeps sweeps' deaths deaths' are more grown = let some = are.some in let few = are.few in record { some = omega arith; few = omega arith; more = λ h. omega arith }

-- ---- what is settled

pub are_settled : (leaves : ℕ) (h : PairedPrograms) (table : List Bool) (deaths : List Death) (proofs : List Proved) → AreDead leaves h table deaths → IsInductive h table proofs → IsSettled leaves h table deaths proofs
are_settled leaves h table deaths proofs dead proved = record { size = dead.size; table_is = dead.table_is; legal = dead.legal; inductive = proved }
