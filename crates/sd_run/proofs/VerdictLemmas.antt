-- What the verdicts on two programs tell.
use Rattle.std.proofs.Common.{◌≡◌, ◌∙◌, sym, ap, refl, subst, ℕ, suc, zero, ◌+◌, ◌≤◌, Bool, true, false, List, [], ◌∷◌, ◌++◌, length, drop, arith}
use Rattle.std.proofs.lemmas.Bool.{and_parts}
use Rattle.std.specs.Prelude.{Option, Some, None, ◌↔◌, ◌&&◌, ◌||◌, map, is_some, slice_get, Contains, if◌then◌else◌}
use Rattle.std.specs.List.{AllByRecursion}
use Rattle.std.proofs.lemmas.Option.{none-some, same_Some}
use Rattle.std.proofs.lemmas.List.{length-drop, length-map}
use Rattle.sd_base.proofs.Lists.{all-append, all-at, slice_get-append_right, slice_get-map_some}
use Rattle.sd_ast.specs.declared.Program.{Program}
use Rattle.sd_meaning.specs.NewFailure.{NewFailure}
use Rattle.sd_types.specs.Declarations.{WellTyped}
use Rattle.sd_core.specs.declared.CoreProc.{CoreProc}
use Rattle.sd_core.specs.declared.CoreProgram.{CoreProgram}
use Rattle.sd_core.specs.Failure.{NewFailureOf}
use Rattle.sd_extract.specs.Propositional.{IsPropositionalProgram}
use Rattle.sd_extract.specs.Programs.{core_program}
use Rattle.sd_extract.specs.Laws.{number_of}
use Rattle.sd_extract.proofs.LawLemmas.{runs_kept, procedures_kept, axioms_kept}
use Rattle.sd_extract.proofs.FormedPrograms.{extracted_formed}
use Rattle.sd_extract.proofs.Failures.{failures_kept}
use Rattle.sd_extract.proofs.Roots.{roots_are_procedures}
use Rattle.sd_match.specs.declared.pair.PairState.{PairState}
use Rattle.sd_match.specs.declared.pair.PairState.TheVariants as pair_state
use Rattle.sd_match.specs.declared.pair.Pair.{Pair}
use Rattle.sd_cand.specs.declared.candidate.Relation.{Relation}
use Rattle.sd_cand.specs.declared.candidate.Claim.{Claim}
use Rattle.sd_cand.specs.declared.candidate.Claim.TheVariants.{Flag, Output}
use Rattle.sd_cand.specs.declared.candidate.Candidate.{Candidate}
use Rattle.sd_cand.specs.Candidates.{equal_inputs, flag_candidates, output_candidates, candidates_in, candidates_of}
use Rattle.sd_product.specs.Query.{Claimed}
use Rattle.sd_product.specs.Work.{PairedPrograms, work_of, claims_of, claims_in, pairs_in}
use Rattle.sd_run.specs.Texts.{core_programs}
use Rattle.sd_product.specs.Summaries.{IsRootPair}
use Rattle.sd_product.proofs.RootLemmas.{IsRootedClaim, claims-rooted}
use Rattle.sd_product.specs.Judged.{IsFlagAt}
use Rattle.sd_run.specs.declared.verdict.PairVerdict.{PairVerdict}
use Rattle.sd_run.specs.declared.verdict.VerdictState.{VerdictState}
use Rattle.sd_run.specs.declared.verdict.VerdictState.TheVariants.{Safe, Unknown, Unproved, Signature, UnmatchedRecursion}
use Rattle.sd_run.specs.declared.verdict.Otherwise.{Otherwise}
use Rattle.sd_run.specs.declared.verdict.Otherwise.TheVariants as otherwise
use Rattle.sd_run.proofs.Tables.{count_first}
use Rattle.sd_rounds.specs.declared.settle.Death.{Death}
use Rattle.sd_run.specs.Verdicts.{is_flag, flag_live, said, state_of, verdict_by, verdict_of, verdicts_of, is_spent, IsSpentPair}

-- ---- lists

slice_get-front : {X : Type 0} (xs ys : List X) (c : ℕ) (x : X) → slice_get xs c ≡ Some x → slice_get (xs ++ ys) c ≡ Some x
slice_get-front [] ys c x e = absurd (none-some x e)
slice_get-front (y ∷ xs) ys zero x e = e
slice_get-front (y ∷ xs) ys (suc c) x e = slice_get-front xs ys c x e

pub slice_get-drop : {X : Type 0} (k : ℕ) (xs : List X) (c : ℕ) → slice_get (drop k xs) c ≡ slice_get xs (k + c)
slice_get-drop zero xs c = let z : 0 + c ≡ c = omega arith in sym (ap (λ n. slice_get xs n) z)
slice_get-drop (suc k) [] c = refl
slice_get-drop (suc k) (y ∷ xs) c = let z : suc k + c ≡ suc (k + c) = omega arith in slice_get-drop k xs c ∙ sym (ap (λ n. slice_get (y ∷ xs) n) z)

length-drop_front : {X : Type 0} (k : ℕ) (xs : List X) (n : ℕ) → length xs ≡ k + n → length (drop k xs) ≡ n
length-drop_front k xs n e = omega (arith, length-drop k xs)

abbrev claim : Pair → Candidate → Claimed
claim pair c = record { pair = pair; candidate = c }

pub said_not_safe : (x : Otherwise) → said x ≡ Safe → ⊥
said_not_safe otherwise.Unknown e = let bad : ◌≡◌ {A = VerdictState} Unknown Safe = e in cc
said_not_safe otherwise.Unproved e = let bad : ◌≡◌ {A = VerdictState} Unproved Safe = e in cc

-- ---- claims on the flags

-- a claim on the flags at this place, which the table says to be live or not
pub record FlagIn (cs : List Candidate) (table : List Bool) (live : Bool) : Type 0 where
  pub place : ℕ
  pub candidate : Candidate
  pub at : slice_get cs place ≡ Some candidate
  pub flag : candidate.claim ≡ Flag
  pub is : slice_get table place ≡ Some live

flag_is : (c : Claim) → is_flag c ≡ true → c ≡ Flag
flag_is Flag e = refl
flag_is (Output r) e = absurd (let bad : false ≡ true = e in cc)

later : (c : Candidate) (cs : List Candidate) (b : Bool) (table : List Bool) (live : Bool) → FlagIn cs table live → FlagIn (c ∷ cs) (b ∷ table) live
later c cs b table live f = record { place = suc f.place; candidate = f.candidate; at = f.at; flag = f.flag; is = f.is }

pub live_in : (cs : List Candidate) (table : List Bool) → flag_live cs table ≡ true → FlagIn cs table true
live_in [] table e = absurd (let bad : false ≡ true = e in cc)
live_in (c ∷ cs) [] e = absurd (let bad : false ≡ true = e in cc)
live_in (c ∷ cs) (b ∷ table) e = go (live_in cs table) (is_flag c.claim && b) refl e
  where
    go : (flag_live cs table ≡ true → FlagIn cs table true) → (x : Bool) → (is_flag c.claim && b) ≡ x → (x || flag_live cs table) ≡ true → FlagIn (c ∷ cs) (b ∷ table) true
    go rest true is h = let both = and_parts (is_flag c.claim) b is in record { place = 0; candidate = c; at = refl; flag = flag_is c.claim both.0; is = ap Some both.1 }
    go rest false is h = later c cs b table true (rest h)

or_none : (a b : Bool) → (a || b) ≡ false → (a ≡ false) × (b ≡ false)
or_none true b e = absurd (let bad : true ≡ false = e in cc)
or_none false b e = (refl, e)

-- where none is live, each claim on the flags is dead
dead_at : (cs : List Candidate) (table : List Bool) (k : ℕ) (c : Candidate) → length cs ≤ length table → flag_live cs table ≡ false → slice_get cs k ≡ Some c → c.claim ≡ Flag → slice_get table k ≡ Some false
dead_at [] table k c long none at flag = absurd (none-some c at)
dead_at (d ∷ cs) [] k c long none at flag = absurd (omega arith)
dead_at (d ∷ cs) (b ∷ table) zero c long none at flag =
    let same : d ≡ c = same_Some d c at in
    let on : is_flag d.claim ≡ true = ap is_flag (ap (λ (x : Candidate). x.claim) same ∙ flag) in
    ap Some (let off = (or_none (is_flag d.claim && b) (flag_live cs table) none).0 in sym (ap (λ x. x && b) on) ∙ off)
dead_at (d ∷ cs) (b ∷ table) (suc k) c long none at flag =
    dead_at cs table k c (omega arith) (or_none (is_flag d.claim && b) (flag_live cs table) none).1 at flag

-- the claim on the flags with equal inputs
record EqualFlag (pair : Pair) : Type 0 where
  place : ℕ
  candidate : Candidate
  at : slice_get (candidates_of pair) place ≡ Some candidate
  flag : candidate.claim ≡ Flag
  when : candidate.when ≡ equal_inputs pair

equal_flag : (pair : Pair) → pair.state ≡ pair_state.Open → EqualFlag pair
equal_flag pair is = go (equal_inputs pair) refl
  where
    cut : candidates_of pair ≡ flag_candidates (equal_inputs pair) ++ output_candidates (equal_inputs pair) 0 pair.outputs
    cut = ap (λ s. candidates_in s pair) is

    go : (rs : List Relation) → equal_inputs pair ≡ rs → EqualFlag pair
    go [] e = record {
      place = 0;
      candidate = record { when = []; claim = Flag };
      at = ap (λ cs. slice_get cs 0) (cut ∙ ap (λ rs. flag_candidates rs ++ output_candidates (equal_inputs pair) 0 pair.outputs) e);
      flag = refl;
      when = sym e;
    }
    go (r ∷ rs) e = record {
      place = 1;
      candidate = record { when = r ∷ rs; claim = Flag };
      at = ap (λ cs. slice_get cs 1) (cut ∙ ap (λ rs. flag_candidates rs ++ output_candidates (equal_inputs pair) 0 pair.outputs) e);
      flag = refl;
      when = sym e;
    }

-- ---- verdicts

-- what is claimed by a verdict
abbrev pub IsRight : Program → Program → List Death → PairVerdict → Type 0
IsRight P Q deaths v =
    (v.state ≡ Safe → NewFailure P Q v.old v.new → ⊥)
    × (v.state ≡ Unknown → IsPropositionalProgram P → IsPropositionalProgram Q → (IsSpentPair P Q deaths v.old v.new → ⊥) → NewFailure P Q v.old v.new)

-- no search for candidate n was spent
abbrev pub IsUnspent : List Death → ℕ → Type 0
IsUnspent deaths n = (d : Death) → Contains deaths d → d.candidate ≡ n → is_spent d.cause ≡ true → ⊥

module _ (P Q : Program) (old_typed : WellTyped P) (new_typed : WellTyped Q) where
  -- a failure of two procedures of the core is one of the texts' procedures of their names
  abbrev AreKept : CoreProgram → CoreProgram → Type 0
  AreKept C D = (i j : ℕ) (p q : CoreProc) → slice_get C.procs i ≡ Some p → slice_get D.procs j ≡ Some q → p.parent ≡ None → q.parent ≡ None → NewFailure P Q p.name q.name ↔ NewFailureOf C D i j

  failures-kept : AreKept (core_program P) (core_program Q)
  failures-kept i j p q at at' root root' =
      let r = roots_are_procedures P i p old_typed at root in
      let s = roots_are_procedures Q j q new_typed at' root' in
      let C = core_program P in
      let D = core_program Q in
      let kept = failures_kept runs_kept procedures_kept axioms_kept extracted_formed P Q p.name q.name r.0 s.0 old_typed new_typed r.1 s.1 in
      subst (λ (n : ℕ). NewFailure P Q p.name q.name ↔ NewFailureOf C D n j) (sym r.2) (subst (λ (m : ℕ). NewFailure P Q p.name q.name ↔ NewFailureOf C D (number_of P p.name) m) (sym s.2) kept)

  abbrev h : PairedPrograms
  h = core_programs P Q

  module _ (o : Otherwise) (live : List Bool) (deaths : List Death)
      (safe : (n : ℕ) (x : Claimed) → IsFlagAt h n x → slice_get live n ≡ Some true → NewFailureOf h.old h.new x.pair.old x.pair.new → ⊥)
      (failure : o ≡ otherwise.Unknown → IsPropositionalProgram P → IsPropositionalProgram Q → (n : ℕ) (x : Claimed) → IsFlagAt h n x → x.candidate.when ≡ equal_inputs x.pair → slice_get live n ≡ Some false → IsUnspent deaths n → NewFailureOf h.old h.new x.pair.old x.pair.new)
    where
      said_unknown : (x : Otherwise) → said x ≡ Unknown → x ≡ otherwise.Unknown
      said_unknown otherwise.Unknown e = refl
      said_unknown otherwise.Unproved e = absurd (let bad : ◌≡◌ {A = VerdictState} Unproved Unknown = e in cc)

      -- a pair whose candidates begin at number n, and the table from there on
      record IsHere (n : ℕ) (pair : Pair) (table : List Bool) (p q : CoreProc) : Type 0 where
        claims : (k : ℕ) (c : Candidate) → slice_get (candidates_of pair) k ≡ Some c → slice_get (claims_in h) (n + k) ≡ Some (record { pair = pair; candidate = c })
        rest : (k : ℕ) (b : Bool) → slice_get table k ≡ Some b → slice_get live (n + k) ≡ Some b
        long : length (candidates_of pair) ≤ length table
        old_found : slice_get h.old.procs pair.old ≡ Some p
        new_found : slice_get h.new.procs pair.new ≡ Some q
        old_root : p.parent ≡ None

      abbrev verdict_with : CoreProc → CoreProc → VerdictState → PairVerdict
      verdict_with p q s = record { old = p.name; new = q.name; state = s; equal = false }

      -- the new procedure of such a claim is no loop either
      new_root : (n : ℕ) (x : Claimed) (q : CoreProc) → IsFlagAt h n x → slice_get h.new.procs x.pair.new ≡ Some q → q.parent ≡ None
      new_root n x q f found =
          let each : (p : CoreProc) → slice_get h.old.procs x.pair.old ≡ Some p → p.parent ≡ None → IsRootPair (work_of h) x =
          all-at (IsRootedClaim h.old h.new) (claims_in h) n x (claims-rooted h.old h.new) f.at in
          let rooted : IsRootPair (work_of h) x = each f.old f.found f.root in
          let same : rooted.new ≡ q = same_Some rooted.new q (sym rooted.new_found ∙ found) in
          ap (λ (r : CoreProc). r.parent) (sym same) ∙ rooted.new_root

      -- a spent search for a candidate of the pair
      spent_pair : (n : ℕ) (pair : Pair) (table : List Bool) (p q : CoreProc) → IsHere n pair table p q → (k : ℕ) (c : Candidate) → slice_get (candidates_of pair) k ≡ Some c
          → (d : Death) → Contains deaths d → d.candidate ≡ n + k → is_spent d.cause ≡ true → IsSpentPair P Q deaths p.name q.name
      spent_pair n pair table p q here k c at d died named spent = record {
        death = d;
        died = died;
        spent = spent;
        claim = record { pair = pair; candidate = c };
        claim_is = ap (λ m. slice_get (claims_in h) m) named ∙ here.claims k c at;
        old = p;
        old_is = here.old_found;
        old_name = refl;
        new = q;
        new_is = here.new_found;
        new_name = refl;
      }

      right_open : (n : ℕ) (pair : Pair) (table : List Bool) (p q : CoreProc) → IsHere n pair table p q → pair.state ≡ pair_state.Open → (b : Bool) → flag_live (candidates_of pair) table ≡ b → IsRight P Q deaths (verdict_with p q (if b then Safe else said o))
      right_open n pair table p q here is true flags =
          let f = live_in (candidates_of pair) table flags in
          let at : IsFlagAt h (n + f.place) (record { pair = pair; candidate = f.candidate }) = record { at = here.claims f.place f.candidate f.at; flag = f.flag; old = p; found = here.old_found; root = here.old_root } in (
            λ _ bad. safe (n + f.place) (record { pair = pair; candidate = f.candidate }) at (here.rest f.place true f.is) ((failures-kept pair.old pair.new p q here.old_found here.new_found here.old_root (new_root (n + f.place) (record { pair = pair; candidate = f.candidate }) q at here.new_found)).0 bad),
            λ bad. absurd (let worse : ◌≡◌ {A = VerdictState} Safe Unknown = bad in cc),
          )
      right_open n pair table p q here is false flags =
          let f = equal_flag pair is in
          let at : IsFlagAt h (n + f.place) (record { pair = pair; candidate = f.candidate }) = record { at = here.claims f.place f.candidate f.at; flag = f.flag; old = p; found = here.old_found; root = here.old_root } in
          let dead : slice_get live (n + f.place) ≡ Some false = here.rest f.place false (dead_at (candidates_of pair) table f.place f.candidate here.long flags f.at f.flag) in (
            λ bad. absurd (said_not_safe o bad),
            λ unknown old new none. (failures-kept pair.old pair.new p q here.old_found here.new_found here.old_root (new_root (n + f.place) (record { pair = pair; candidate = f.candidate }) q at here.new_found)).1
                (failure (said_unknown o unknown) old new (n + f.place) (record { pair = pair; candidate = f.candidate }) at f.when dead (λ d died named spent. none (spent_pair n pair table p q here f.place f.candidate f.at d died named spent))),
          )

      right_state : (n : ℕ) (pair : Pair) (table : List Bool) (p q : CoreProc) → IsHere n pair table p q → (s : PairState) → pair.state ≡ s → IsRight P Q deaths (verdict_with p q (state_of o s (flag_live (candidates_of pair) table)))
      right_state n pair table p q here pair_state.Open is = right_open n pair table p q here is (flag_live (candidates_of pair) table) refl
      right_state n pair table p q here pair_state.Signature is =
          (λ bad. absurd (let worse : ◌≡◌ {A = VerdictState} Signature Safe = bad in cc), λ bad. absurd (let worse : ◌≡◌ {A = VerdictState} Signature Unknown = bad in cc))
      right_state n pair table p q here (pair_state.UnmatchedRecursion x) is =
          (λ bad. absurd (let worse : ◌≡◌ {A = VerdictState} (UnmatchedRecursion x) Safe = bad in cc), λ bad. absurd (let worse : ◌≡◌ {A = VerdictState} (UnmatchedRecursion x) Unknown = bad in cc))

      -- ---- lists of pairs

      -- pairs whose candidates begin at number n, and the table from there on
      record AreHere (n : ℕ) (pairs : List Pair) (table : List Bool) : Type 0 where
        claims : (k : ℕ) (x : Claimed) → slice_get (claims_of h pairs) k ≡ Some x → slice_get (claims_in h) (n + k) ≡ Some x
        rest : (k : ℕ) (b : Bool) → slice_get table k ≡ Some b → slice_get live (n + k) ≡ Some b
        size : length table ≡ length (claims_of h pairs)

      right_found : (n : ℕ) (pair : Pair) (pairs : List Pair) (table : List Bool) → AreHere n (pair ∷ pairs) table → (old new : Option CoreProc) → slice_get h.old.procs pair.old ≡ old → slice_get h.new.procs pair.new ≡ new
          → AllByRecursion (IsRight P Q deaths) (verdict_by o pair (flag_live (candidates_of pair) table) old new)
      right_found n pair pairs table here None new at at' = tt
      right_found n pair pairs table here (Some p) None at at' = tt
      right_found n pair pairs table here (Some p) (Some q) at at' = go p.parent refl
        where
          here_with : p.parent ≡ None → IsHere n pair table p q
          here_with root = record {
            claims = λ k c e. here.claims k (record { pair = pair; candidate = c }) (slice_get-front (map (claim pair) (candidates_of pair)) (claims_of h pairs) k (record { pair = pair; candidate = c }) (slice_get-map_some (claim pair) (candidates_of pair) k c e));
            rest = here.rest;
            long = omega (arith, here.size, count_first h pair pairs);
            old_found = at;
            new_found = at';
            old_root = root;
          }

          go : (parent : Option (ℕ × ℕ)) → p.parent ≡ parent
              → AllByRecursion (IsRight P Q deaths) (if is_some p.parent then [] else verdict_with p q (state_of o pair.state (flag_live (candidates_of pair) table)) ∷ [])
          go None e = subst (λ (x : Option (ℕ × ℕ)). AllByRecursion (IsRight P Q deaths) (if is_some x then [] else verdict_with p q (state_of o pair.state (flag_live (candidates_of pair) table)) ∷ [])) (sym e) (right_state n pair table p q (here_with e) pair.state refl, tt)
          go (Some parent) e = subst (λ (x : Option (ℕ × ℕ)). AllByRecursion (IsRight P Q deaths) (if is_some x then [] else verdict_with p q (state_of o pair.state (flag_live (candidates_of pair) table)) ∷ [])) (sym e) tt

      right_pairs : (n : ℕ) (pairs : List Pair) (table : List Bool) → AreHere n pairs table → AllByRecursion (IsRight P Q deaths) (verdicts_of o h pairs table)
      right_pairs n [] table here = tt
      right_pairs n (pair ∷ pairs) table here =
          let count : ℕ = length (candidates_of pair) in
          let first : List Claimed = map (claim pair) (candidates_of pair) in
          let long : length first ≡ count = length-map (candidates_of pair) (claim pair) in
          let next : AreHere (n + count) pairs (drop count table) = record {
            claims = λ k x e.
                let shift : n + (length first + k) ≡ (n + count) + k = omega arith in
                ap (λ m. slice_get (claims_in h) m) (sym shift) ∙ here.claims (length first + k) x (slice_get-append_right first (claims_of h pairs) k ∙ e);
            rest = λ k b e.
                let shift : n + (count + k) ≡ (n + count) + k = omega arith in
                ap (λ m. slice_get live m) (sym shift) ∙ here.rest (count + k) b (sym (slice_get-drop count table k) ∙ e);
            size = length-drop_front count table (length (claims_of h pairs)) (here.size ∙ count_first h pair pairs);
          } in
          all-append (IsRight P Q deaths) (verdict_of o h pair (flag_live (candidates_of pair) table)) (verdicts_of o h pairs (drop count table))
          (right_found n pair pairs table here (slice_get h.old.procs pair.old) (slice_get h.new.procs pair.new) refl refl) (right_pairs (n + count) pairs (drop count table) next)

      -- the verdicts of the pairs of the programs are right
      pub all_right : length live ≡ length (claims_in h) → AllByRecursion (IsRight P Q deaths) (verdicts_of o h (pairs_in h) live)
      all_right size =
          let zero_is : (k : ℕ) → 0 + k ≡ k = λ k. omega arith in
          right_pairs 0 (pairs_in h) live (record { claims = λ k x e. ap (λ m. slice_get (claims_in h) m) (zero_is k) ∙ e; rest = λ k b e. ap (λ m. slice_get live m) (zero_is k) ∙ e; size = size })
