-- What an open query tells where nothing is called.
use Rattle.std.proofs.Common.{◌≡◌, ℕ, suc, ◌+◌, List, [], ◌∷◌, ◌++◌, length, Option, Some, refl, sym, ap, ◌∙◌, subst}
use Rattle.std.specs.Prelude.{Bool, true, false, not, ◌&&◌, ◌||◌, IsTrue, map, pos, slice_get}
use Rattle.std.specs.List.{AllByRecursion}
use Rattle.sd_base.proofs.Lists.{all-at}
use Rattle.sd_base.specs.declared.Sort.{Sort}
use Rattle.sd_base.specs.Value.{Value, Number}
use Rattle.sd_base.specs.Sorts.{HasSort}
use Rattle.sd_base.specs.Cast.{cast}
use Rattle.sd_base.specs.Meaning.{Meaning, Interpretation, interpretation, truth_of}
use Rattle.sd_base.proofs.CastLemmas.{cast-sorted}
use Rattle.sd_core.specs.declared.CoreProc.{CoreProc}
use Rattle.sd_core.specs.declared.CoreProgram.{CoreProgram}
use Rattle.sd_core.specs.declared.Function.{Function}
use Rattle.sd_core.specs.Store.{map_store}
use Rattle.sd_core.specs.Run.{Calls, Ended, run_number, calls_within, flag_run, is_true}
use Rattle.sd_core.specs.Formed.{WellFormed, sorts_of}
use Rattle.sd_core.specs.Meanings.{HaveSorts, Fits, Differ, IsMeaningOf}
use Rattle.sd_core.specs.Failure.{IsInputOf, AreEqualInputs, NewFailureOf}
use Rattle.sd_core.specs.Propositional.{IsPropositionalProc, IsPropositionalCore}
use Rattle.sd_term.specs.declared.node.Head.TheVariants.{Sym}
use Rattle.sd_term.specs.Tree.{Tree, leaf}
use Rattle.sd_term.specs.Truth.{Valuation, value, MakesTrue}
use Rattle.sd_term.specs.Build.{not_of}
use Rattle.sd_term.proofs.Typed.{value-sorted}
use Rattle.sd_kernel.specs.Boolean.{AllBoolean}
use Rattle.sd_cube.proofs.Cubes.{cubes-satisfy}
use Rattle.sd_cand.specs.declared.candidate.Relation.{Relation}
use Rattle.sd_cand.specs.declared.candidate.Claim.{Claim}
use Rattle.sd_cand.specs.Candidates.{equal_inputs}
use Rattle.sd_vcgen.specs.Body.{Context, Site, symbols, count_all, outs_of}
use Rattle.sd_vcgen.specs.Laws.{Reads, truth, all_true, SitesHold, IsRun, AreInputTerms, ValuationsAreRuns}
use Rattle.sd_vcgen.proofs.Symbols.{symbols-sort}
use Rattle.sd_vcgen.proofs.Truths.{not_truth}
use Rattle.sd_product.specs.Relations.{entry, term_of, claim_holds}
use Rattle.sd_product.specs.Query.{Claimed, Work, Infallibles, old_context, new_context, input_count, first_call, Side, side_from, old_side, new_side, all_related, axioms_of, apart, conditions_of, claim_of, premises_of, facts_of, query_by, query_of}
use Rattle.sd_product.specs.Failures.{IsPropositionalClaim, ValuationsAreFailures, OpenCubesAreFailures}
use Rattle.sd_product.proofs.Truths.{claim-truth}
use Rattle.sd_product.proofs.Carried.{vars-length}
use Rattle.sd_product.proofs.EqualInputs.{AreEqual}
use Rattle.sd_product.proofs.EqualConditions.{inputs-equal, places-equal}
use Rattle.sd_product.proofs.NoCalls.{body-no-sites, program-boolean}
use Rattle.sd_product.proofs.Booleans.{none-declared}
use Rattle.sd_product.proofs.OnlyEqual.{IsEqual, IsEqualClaim, IsEqualClaimed, from-equal}
use Rattle.sd_product.proofs.BooleanQueries.{BooleanSide, side-boolean, facts-boolean}

-- ---- facts

makes-front : (v : Valuation) (xs ys : List Tree) → MakesTrue v (xs ++ ys) → MakesTrue v xs
makes-front v [] ys h = tt
makes-front v (x ∷ xs) ys h = (h.0, makes-front v xs ys h.1)

makes-back : (v : Valuation) (xs ys : List Tree) → MakesTrue v (xs ++ ys) → MakesTrue v ys
makes-back v [] ys h = h
makes-back v (x ∷ xs) ys h = makes-back v xs ys h.1

all-made : (v : Valuation) (ts : List Tree) → MakesTrue v ts → all_true v ts ≡ true
all-made v [] h = refl
all-made v (t ∷ ts) h = ap (λ (x : Value). truth_of x && all_true v ts) h.0 ∙ all-made v ts h.1

-- where it is denied that a failure of the new side is one of the old side
denied : (new old : Bool) → not (not new || old) ≡ true → (new ≡ true) × (old ≡ false)
denied true true h = absurd (cc)
denied true false h = (refl, refl)
denied false old h = absurd (cc)

-- ---- meanings of programs that declare nothing

-- Where no function is declared, the starting values alone count.
reads-starts : (F : List Function) (v : Valuation) (I : Interpretation) → F ≡ [] → ((s : Sort) → cast s (v.by.start s) ≡ I.start s) → Reads F v I
reads-starts F v I none starts = record {
  starts = starts;
  constants = λ c g e. none-declared F true c g none e;
  functions = λ f g xs e h. none-declared F false f g none e;
}

-- Where nothing is declared, starting values of their types are a meaning.
any-meaning : (P : CoreProgram) (M : Meaning) → IsPropositionalCore P → ((s : Sort) → HasSort s (M.start s)) → IsMeaningOf P M
any-meaning P M h starts = record {
  starts = starts;
  functions = subst (AllByRecursion (Fits M)) (sym h.functions) tt;
  axioms = subst (AllByRecursion (λ e. IsTrue (is_true (interpretation M) e))) (sym h.axioms) tt;
  uniques = subst (Differ M) (sym h.uniques) tt;
}

-- the meaning that a valuation gives
abbrev meaning-by : Valuation → Meaning
meaning-by v = record { function = λ f. record { otherwise = Number (pos 0); rows = [] }; constant = λ c. Number (pos 0); start = λ s. cast s (v.by.start s) }

-- ---- a side

symbols-typed : (v : Valuation) (k : ℕ) (ss : List Sort) → HaveSorts ss (map (value v) (symbols k ss))
symbols-typed v k [] = refl
symbols-typed v k (s ∷ ss) = (value-sorted v (leaf (Sym k s)), symbols-typed v (suc k) ss)

module _ (C : Context) (formed : WellFormed C.program) (propositional : IsPropositionalCore C.program) (n : ℕ) (p : CoreProc) (found : slice_get C.program.procs n ≡ Some p) (i k : ℕ) where
  abbrev P : CoreProgram
  P = C.program

  abbrev a : Side
  a = side_from C p i k

  side-no-sites : ◌≡◌ {A = List Site} a.body.sites []
  side-no-sites =
      let own = all-at IsPropositionalProc P.procs n p propositional.procs found in
      body-no-sites C p k a.inputs.slots a.inputs.globals own.body

  module _ (v : Valuation) where
    abbrev ins : List Value
    ins = map (value v) a.inputs.slots

    abbrev globals : List Value
    globals = map (value v) a.inputs.globals

    side-input : IsInputOf P p ins globals
    side-input = record { ins_typed = symbols-typed v i (sorts_of p.ins); globals_typed = symbols-typed v (i + length p.ins) (sorts_of P.globals) }

    side-meaning : IsMeaningOf P (meaning-by v)
    side-meaning = any-meaning P (meaning-by v) propositional (λ s. cast-sorted s (v.by.start s))

    -- true assumptions are a run that ends with the flag of its terms
    side-ends : ValuationsAreRuns → (flag : Bool) → MakesTrue v a.body.assumes → truth v a.body.flag ≡ flag
        → flag_run (interpretation (meaning-by v)) P.procs 0 n ins globals ≡ Ended (map (value v) (outs_of p a.body)) (map (value v) a.body.store.globals) flag
    side-ends valuations flag assumed is =
        let M = meaning-by v in
        let I = interpretation M in
        let calls : Calls = calls_within I P.procs 0 in
        let outs = map (value v) (outs_of p a.body) in
        let after = map (value v) a.body.store.globals in
        let terms : AreInputTerms P p a.inputs.slots a.inputs.globals = record { ins_sorted = symbols-sort i (sorts_of p.ins); globals_sorted = symbols-sort (i + length p.ins) (sorts_of P.globals) } in
        let run : IsRun P calls v p a.body outs after flag = record {
          tells = record { outs_are = refl; globals_are = refl; flag_is = is };
          assumes = all-made v a.body.assumes assumed;
          sites = subst (SitesHold P calls v) (sym side-no-sites) tt;
        } in
        ap (λ (o : Option CoreProc). run_number I calls o ins globals) found
        ∙ valuations C M formed side-meaning 0 n p found v (reads-starts P.functions v I propositional.functions (λ s. refl)) k a.inputs.slots a.inputs.globals terms outs after flag run

-- ---- both sides

module _ (w : Work) (z : Infallibles) (table : List Bool) (x : Claimed) (is : IsPropositionalClaim w z x) where
  abbrev C : Context
  C = old_context w z

  abbrev D : Context
  D = new_context w z

  abbrev p : CoreProc
  p = is.roots.old

  abbrev q : CoreProc
  q = is.roots.new

  abbrev old : Side
  old = old_side C D p q

  abbrev new : Side
  new = new_side C D p q

  -- where the symbols of the new inputs, of the old calls and of the new calls begin
  abbrev new-inputs : ℕ
  new-inputs = input_count w.old p

  abbrev old-calls : ℕ
  old-calls = first_call C D p q

  abbrev new-calls : ℕ
  new-calls = first_call C D p q + count_all C p.body

  -- the query is one of both procedures
  query-is : query_of w z table x ≡ facts_of w table x old new
  unfolding query_of
  query-is = λ i. query_by w z table x (is.roots.old_found i) (is.roots.new_found i)

  abbrev related : List Tree
  related = all_related table w.claims old.body.sites new.body.sites

  abbrev bodies : List Tree
  bodies = old.body.assumes ++ (new.body.assumes ++ related)

  -- what a valuation that makes the query true tells
  record Opens (v : Valuation) : Type 0 where
    conditions : MakesTrue v (conditions_of x old new)
    old_assumes : MakesTrue v old.body.assumes
    new_assumes : MakesTrue v new.body.assumes
    new_flag : truth v new.body.flag ≡ true
    old_flag : truth v old.body.flag ≡ false

  -- the claim is on the flag
  flags : (v : Valuation) → truth v (claim_of x old new) ≡ (not (truth v new.body.flag) || truth v old.body.flag)
  flags v =
      claim-truth v x.pair.outputs x.candidate.claim old.ends old.body.flag new.ends new.body.flag
      ∙ ap (λ (c : Claim). claim_holds x.pair.outputs c (map_store (value v) old.ends) (truth v old.body.flag) (map_store (value v) new.ends) (truth v new.body.flag)) is.claim.claim

  opens : (v : Valuation) → MakesTrue v (query_of w z table x) → Opens v
  opens v makes =
      let all : MakesTrue v (facts_of w table x old new) = subst (MakesTrue v) query-is makes in
      let claim = claim_of x old new in
      let premises = premises_of w table x old new in
      let told = premises ++ claim ∷ [] in
      let last = not_of claim ∷ [] in
      let denial = makes-back v (apart told w.new.uniques) last (makes-back v (apart told w.old.uniques) (apart told w.new.uniques ++ last) (makes-back v premises (apart told w.old.uniques ++ (apart told w.new.uniques ++ last)) all)) in
      let known = makes-front v premises (apart told w.old.uniques ++ (apart told w.new.uniques ++ last)) all in
      let conditions = conditions_of x old new in
      let after = makes-back v (axioms_of w.new) (conditions ++ bodies) (makes-back v (axioms_of w.old) (axioms_of w.new ++ (conditions ++ bodies)) known) in
      let assumed = makes-back v conditions bodies after in
      let raised = denied (truth v new.body.flag) (truth v old.body.flag) (ap not (sym (flags v)) ∙ sym (not_truth v claim) ∙ ap truth_of denial.0) in
      record {
        conditions = makes-front v conditions bodies after;
        old_assumes = makes-front v old.body.assumes (new.body.assumes ++ related) assumed;
        new_assumes = makes-front v new.body.assumes related (makes-back v old.body.assumes (new.body.assumes ++ related) assumed);
        new_flag = raised.0;
        old_flag = raised.1;
      }

  -- the values of the inputs
  module _ (v : Valuation) (makes : MakesTrue v (query_of w z table x)) where
    abbrev old-ins : List Value
    old-ins = map (value v) old.inputs.slots

    abbrev old-globals : List Value
    old-globals = map (value v) old.inputs.globals

    abbrev new-ins : List Value
    new-ins = map (value v) new.inputs.slots

    abbrev new-globals : List Value
    new-globals = map (value v) new.inputs.globals

    old-input : IsInputOf w.old p old-ins old-globals
    old-input = side-input C is.work.old_formed is.old_propositional x.pair.old p is.roots.old_found 0 old-calls v

    new-input : IsInputOf w.new q new-ins new-globals
    new-input = side-input D is.work.new_formed is.new_propositional x.pair.new q is.roots.new_found new-inputs new-calls v

    equal : AreEqualInputs w.old w.new old-ins old-globals new-ins new-globals
    equal =
        let conditions : MakesTrue v (map (term_of x.pair.inputs old.inputs new.inputs) (equal_inputs x.pair)) =
        subst (λ (rs : List Relation). MakesTrue v (map (term_of x.pair.inputs old.inputs new.inputs) rs)) is.claim.when (opens v makes).conditions in
        let places = subst (AreEqual (entry old-ins old-globals) (entry new-ins new-globals)) is.roots.inputs (inputs-equal v old.inputs new.inputs x.pair.inputs conditions) in
        places-equal old-ins old-globals new-ins new-globals w.old w.new p q is.roots.old_root is.roots.new_root is.roots.types
        (vars-length p.ins old-ins old-input.ins_typed) (vars-length q.ins new-ins new-input.ins_typed) places

    is-failure : ValuationsAreRuns → NewFailureOf w.old w.new x.pair.old x.pair.new
    is-failure valuations =
        let told = opens v makes in
        record {
          M = meaning-by v;
          old_meaning = side-meaning C is.work.old_formed is.old_propositional x.pair.old p is.roots.old_found 0 old-calls v;
          new_meaning = side-meaning D is.work.new_formed is.new_propositional x.pair.new q is.roots.new_found new-inputs new-calls v;
          old = p;
          new = q;
          old_found = is.roots.old_found;
          new_found = is.roots.new_found;
          ins = old-ins;
          globals = old-globals;
          ins' = new-ins;
          globals' = new-globals;
          old_input = old-input;
          new_input = new-input;
          equal = equal;
          old_calls = 0;
          new_calls = 0;
          outs = map (value v) (outs_of p old.body);
          after = map (value v) old.body.store.globals;
          outs' = map (value v) (outs_of q new.body);
          after' = map (value v) new.body.store.globals;
          old_ends = side-ends C is.work.old_formed is.old_propositional x.pair.old p is.roots.old_found 0 old-calls v valuations false told.old_assumes told.old_flag;
          new_fails = side-ends D is.work.new_formed is.new_propositional x.pair.new q is.roots.new_found new-inputs new-calls v valuations true told.new_assumes told.new_flag;
        }

  -- ---- such a query is over truth values

  claim-equal : IsEqualClaimed x
  claim-equal = record {
    when = subst (AllByRecursion IsEqual) (sym is.claim.when) (from-equal 0 x.pair.inputs);
    claim = subst IsEqualClaim (sym is.claim.claim) tt;
  }

  query-boolean : AllBoolean (query_of w z table x)
  query-boolean =
      let truths = program-boolean w.old is.old_propositional in
      let truths' = program-boolean w.new is.new_propositional in
      let a : BooleanSide old = side-boolean C x.pair.old p is.work.old_formed truths is.roots.old_found 0 old-calls in
      let b : BooleanSide new = side-boolean D x.pair.new q is.work.new_formed truths' is.roots.new_found new-inputs new-calls in
      let none = side-no-sites C is.work.old_formed is.old_propositional x.pair.old p is.roots.old_found 0 old-calls in
      let calls : AllBoolean related = subst (λ (sites : List Site). AllBoolean (all_related table w.claims sites new.body.sites)) (sym none) tt in
      subst AllBoolean (sym query-is) (facts-boolean w table truths truths' x old new claim-equal a b calls)

-- ---- the laws

pub valuations-fail : ValuationsAreRuns → ValuationsAreFailures
valuations-fail valuations w z table x v is makes = is-failure w z table x is v makes valuations

pub open-cubes-fail : ValuationsAreFailures → OpenCubesAreFailures
open-cubes-fail valuations w z table x cube is open-cube =
    let by : Interpretation = record { apply = λ f xs. Number (pos 0); constant = λ c. Number (pos 0); start = λ s. Number (pos 0) } in
    let found = cubes-satisfy (query_of w z table x) cube by (query-boolean w z table x is) open-cube in
    valuations w z table x found.0 is found.2
