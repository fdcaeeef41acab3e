-- A valuation with true assumptions, whose calls end as their terms say, is an ended run of the body.
use Rattle.std.proofs.Common.{◌≡◌, ℕ, ◌+◌, List, [], ◌∷◌, Option, Some, None, refl, sym, ap, subst, ◌∙◌}
use Rattle.std.proofs.lemmas.Bool.{and_from}
use Rattle.std.specs.Prelude.{Bool, true, false, not, ◌&&◌, ◌||◌, map, slice_get, if◌then◌else◌}
use Rattle.sd_base.specs.declared.Sort.{Sort, Bool as BoolSort}
use Rattle.sd_base.specs.Value.{Value}
use Rattle.sd_base.specs.Meaning.{Interpretation, interpretation, truth_of}
use Rattle.sd_core.specs.declared.Spot.{Spot}
use Rattle.sd_core.specs.declared.CoreExpr.{CoreExpr}
use Rattle.sd_core.specs.declared.CoreStmt.{CoreStmt, Assign, If', Call, Assume, Fail, Return, Row_of-CoreStmt, end_of-CoreStmt, more_of-CoreStmt}
use Rattle.sd_core.specs.declared.CoreProc.{CoreProc}
use Rattle.sd_core.specs.declared.CoreProgram.{CoreProgram}
use Rattle.sd_core.specs.declared.Function.{Function}
use Rattle.sd_core.specs.Store.{Store, write_all, set_all}
use Rattle.sd_core.specs.Run.{Calls, End, Ended, Step, Goes, Stops, Blocks, Lacks, value_in, receive, then_run, run_row, run_all, enter, end_of, calls_within}
use Rattle.sd_core.specs.Run as core
use Rattle.sd_core.specs.Formed.{WellFormed, sorts_of, state_sorts, HasType, AllHaveTypes, AreSpotsOf, IsFormed, AreFormed, AllFormed}
use Rattle.sd_term.specs.Tree.{Tree}
use Rattle.sd_term.specs.Build.{not_of, and_of, or_of}
use Rattle.sd_term.specs.Truth.{Valuation, value}
use Rattle.sd_vcgen.specs.Body.{State, Context, constant, term_in, guard_of, changed, site_of, call, count, row_count, step, steps, all_steps, begun, body_of, outs_of}
use Rattle.sd_vcgen.specs.Laws.{Reads, AreInputTerms, truth, all_true, SiteHolds, SitesHold, IsRun, ValuationsAreRuns}
use Rattle.sd_vcgen.proofs.Typed.{assign-sorts, all-sorts}
use Rattle.sd_vcgen.proofs.Values.{all-values}
use Rattle.sd_vcgen.proofs.Symbols.{set_all-map}
use Rattle.sd_vcgen.proofs.Truths.{all_front, all_last, not_truth, and_truth, or_truth, and_gone, off_path, or_on, first_on, second_on, assumes_push}
use Rattle.sd_vcgen.proofs.Agrees.{Agrees, assign_on, guard_on, land, idle_row, idle_all, holds_is, begins, outs-value}

module _ (C : Context) (formed : WellFormed C.program) (p : CoreProc) (I : Interpretation) (calls : Calls) (v : Valuation) (reads : Reads C.program.functions v I) where
  abbrev P : CoreProgram
  P = C.program

  abbrev F : List Function
  F = P.functions

  abbrev S : Store Sort
  S = state_sorts P p

  abbrev Here : State → Store Value → (flag gone : Bool) → Type 0
  Here = Agrees P calls v S

  -- ---- what is assumed of a body holds of its parts

  abbrev Facts : State → Type 0
  Facts s = (all_true v s.assumes ≡ true) × SitesHold P calls v s.sites

  facts_call : (o : Option CoreProc) (ps : List Spot) (q : ℕ) (es : List CoreExpr) (k : ℕ) (path : Tree) (s : State) → Facts (call C k path o ps q es s) → Facts s
  facts_call None ps q es k path s h = h
  facts_call (Some callee) ps q es k path s h = (h.0, all_front (SiteHolds P calls v) s.sites (site_of C k path callee q es s) h.1)

  mutual
    facts : (t : CoreStmt) (k : ℕ) (path : Tree) (s : State) → Facts (step C t k path s) → Facts s
    facts (Assign ps es) k path s h = h
    facts (If' c n x m y) k path s h =
        let c' = term_in F s.store c in
        facts_row x k (and_of path c') s (facts_row y (k + row_count C x) (and_of path (not_of c')) (steps C x k (and_of path c') s) h)
    facts (Call ps q es) k path s h = facts_call (slice_get P.procs q) ps q es k path s h
    facts (Assume c) k path s h =
        let t = or_of (not_of (guard_of path s)) (term_in F s.store c) in
        (first_on (all_true v s.assumes) (truth v t) (sym (assumes_push v s.assumes t) ∙ h.0), h.1)
    facts Fail k path s h = h
    facts Return k path s h = h

    facts_row : {n : _} (ts : Row_of-CoreStmt n) (k : ℕ) (path : Tree) (s : State) → Facts (steps C ts k path s) → Facts s
    facts_row end_of-CoreStmt k path s h = h
    facts_row (more_of-CoreStmt t ts) k path s h = facts t k path s (facts_row ts (k + count C t) path (step C t k path s) h)

  facts_all : (ts : List CoreStmt) (k : ℕ) (path : Tree) (s : State) → Facts (all_steps C ts k path s) → Facts s
  facts_all [] k path s h = h
  facts_all (t ∷ ts) k path s h = facts t k path s (facts_all ts (k + count C t) path (step C t k path s) h)

  -- ---- the run follows the terms

  abbrev Reaches : State → Step → Type 0
  Reaches s (Goes st) = Here s st false false
  Reaches s (Stops st flag) = Here s st flag true
  Reaches s Blocks = ⊥
  Reaches s Lacks = ⊥

  -- a stretch off the path
  then_off : (s s1 : State) (path : Tree) (out : Step) → ((st : Store Value) (f g : Bool) → (truth v path && not g) ≡ false → Here s st f g → Here s1 st f g) → ((g : Bool) → (truth v path && not g) ≡ false) → Reaches s out → Reaches s1 out
  then_off s s1 path (Goes st) idles off a = idles st false false (off false) a
  then_off s s1 path (Stops st flag) idles off a = idles st flag true (off true) a
  then_off s s1 path Blocks idles off a = absurd a
  then_off s s1 path Lacks idles off a = absurd a

  -- one stretch, and then another
  back_then : (s s1 : State) (path : Tree) (out : Step) (rest : Store Value → Step) → Reaches s out → ((st : Store Value) → Here s st false false → Reaches s1 (rest st))
      → ((st : Store Value) (f g : Bool) → (truth v path && not g) ≡ false → Here s st f g → Here s1 st f g) → Reaches s1 (then_run out rest)
  back_then s s1 path (Goes st) rest a next idles = next st a
  back_then s s1 path (Stops st flag) rest a next idles = idles st flag true (and_gone (truth v path)) a
  back_then s s1 path Blocks rest a next idles = absurd a
  back_then s s1 path Lacks rest a next idles = absurd a

  -- a choice, by the value of its condition
  back_if : (c : CoreExpr) {m n : _} (x : Row_of-CoreStmt m) (y : Row_of-CoreStmt n) → HasType F S c BoolSort → AreFormed P p x → AreFormed P p y → (k : ℕ) (path : Tree) (s : State) (st : Store Value) → truth v path ≡ true → Here s st false false
      → (truth v (and_of path (term_in F s.store c)) ≡ true → Reaches (steps C x k (and_of path (term_in F s.store c)) s) (run_row I calls x st))
      → (truth v (and_of path (not_of (term_in F s.store c))) ≡ true → Here (steps C x k (and_of path (term_in F s.store c)) s) st false false
      → Reaches (steps C y (k + row_count C x) (and_of path (not_of (term_in F s.store c))) (steps C x k (and_of path (term_in F s.store c)) s)) (run_row I calls y st))
      → (b : Bool) → truth_of (value_in I st c) ≡ b
      → Reaches (steps C y (k + row_count C x) (and_of path (not_of (term_in F s.store c))) (steps C x k (and_of path (term_in F s.store c)) s)) (if b then run_row I calls x st else run_row I calls y st)
  back_if c x y typed fx fy k path s st on a first second true e =
      let c' = term_in F s.store c in
      let holds : truth v c' ≡ true = holds_is C formed p calls v I reads s st c false false typed a ∙ e in
      let on1 : truth v (and_of path c') ≡ true = and_truth v path c' ∙ and_from (truth v path) (truth v c') on holds in
      let path2 = and_of path (not_of c') in
      let mid = steps C x k (and_of path c') s in
      let off2 : (g : Bool) → (truth v path2 && not g) ≡ false =
      λ g. ap (λ (b : Bool). b && not g) (and_truth v path (not_of c')) ∙ off_path (truth v path) (truth v (not_of c')) g (not_truth v c' ∙ ap not holds) in
      then_off mid (steps C y (k + row_count C x) path2 mid) path2 (run_row I calls x st)
      (λ st1 f g off b. idle_row C formed p calls v y fy (k + row_count C x) path2 mid st1 f g off b) off2 (first on1)
  back_if c x y typed fx fy k path s st on a first second false e =
      let c' = term_in F s.store c in
      let fails : truth v c' ≡ false = holds_is C formed p calls v I reads s st c false false typed a ∙ e in
      let off1 : (truth v (and_of path c') && not false) ≡ false = ap (λ (b : Bool). b && not false) (and_truth v path c') ∙ off_path (truth v path) (truth v c') false fails in
      let on2 : truth v (and_of path (not_of c')) ≡ true = and_truth v path (not_of c') ∙ and_from (truth v path) (truth v (not_of c')) on (not_truth v c' ∙ ap not fails) in
      second on2 (idle_row C formed p calls v x fx k (and_of path c') s st false false off1 a)

  assumed : (s : State) (st : Store Value) (b : Bool) → b ≡ true → Here s st false false → Reaches s (if b then Goes st else Blocks)
  assumed s st true e a = a
  assumed s st false e a = cc

  -- ---- calls

  received : (s : State) (st : Store Value) (ps : List Spot) (outs globals : List Value) (flag : Bool) → Here s (write_all (record { slots = st.slots; globals = globals }) ps outs) flag flag → Reaches s (receive st ps (Ended outs globals flag))
  received s st ps outs globals true a = a
  received s st ps outs globals false a = a

  back_call : (q : ℕ) (callee : CoreProc) (ps : List Spot) (es : List CoreExpr) → slice_get P.procs q ≡ Some callee → AllHaveTypes F S es (sorts_of callee.ins) → AreSpotsOf S ps (sorts_of callee.outs)
      → (k : ℕ) (path : Tree) (s : State) (st : Store Value) → truth v path ≡ true → Here s st false false → Facts (call C k path (Some callee) ps q es s)
      → Reaches (call C k path (Some callee) ps q es s) (receive st ps (calls q (map (value_in I st) es) st.globals))
  back_call q callee ps es found ins spots k path s st on a h =
      let site = site_of C k path callee q es s in
      let ms = callee.modifies in
      let news = changed P k callee in
      let vs : List Tree → List Value = map (value v) in
      let holds : SiteHolds P calls v site = all_last (SiteHolds P calls v) s.sites site h.1 in
      let args_are : vs site.args ≡ map (value_in I st) es = all-values F v I reads S s.store es (sorts_of callee.ins) a.sorts ins ∙ ap (λ (x : Store Value). map (value_in I x) es) a.store in
      let before_are : vs site.before ≡ st.globals = ap (λ (x : Store Value). x.globals) a.store in
      let ends : calls q (map (value_in I st) es) st.globals ≡ Ended (vs site.outs) (vs site.after) (truth v site.flag) =
      (λ i. calls q (sym args_are i) (sym before_are i)) ∙ (holds (guard_on C formed p calls v path s st on a)).ends in
      let after_are : set_all st.globals ms (vs news) ≡ vs site.after = ap (λ (gs : List Value). set_all gs ms (vs news)) (sym before_are) ∙ sym (set_all-map (value v) s.store.globals ms news) in
      let landed = land C formed p calls v q callee ps es found spots k path s st on (vs site.outs) (vs site.after) (truth v site.flag) refl after_are refl holds a in
      subst (λ (end : End). Reaches (call C k path (Some callee) ps q es s) (receive st ps end)) (sym ends)
      (received (call C k path (Some callee) ps q es s) st ps (vs site.outs) (vs site.after) (truth v site.flag) landed)

  -- ---- statements

  mutual
    back : (t : CoreStmt) → IsFormed P p t → (k : ℕ) (path : Tree) (s : State) (st : Store Value) → truth v path ≡ true → Here s st false false → Facts (step C t k path s) → Reaches (step C t k path s) (core.run I calls t st)
    back (Assign ps es) is k path s st on a h =
        let ts = map (term_in F s.store) es in
        let typed = all-sorts F S s.store es is.0 a.sorts is.1 in
        record {
          sorts = assign-sorts S (guard_of path s) ps ts is.0 s.store is.2.sorts typed a.sorts;
          store = assign_on v S (guard_of path s) (guard_on C formed p calls v path s st on a) ps ts is.0 is.2.sorts typed s.store st a.sorts a.store
              ∙ ap (write_all st ps) (all-values F v I reads S s.store es is.0 a.sorts is.1 ∙ ap (λ (x : Store Value). map (value_in I x) es) a.store);
          flag_is = a.flag_is;
          gone_is = a.gone_is;
          assumes = a.assumes;
          sites = a.sites;
        }
    back (If' c n x m y) is k path s st on a h =
        let c' = term_in F s.store c in
        let path2 = and_of path (not_of c') in
        let mid = steps C x k (and_of path c') s in
        back_if c x y is.0 is.1 is.2 k path s st on a
        (λ on1. back_row x is.1 k (and_of path c') s st on1 a (facts_row y (k + row_count C x) path2 mid h))
        (λ on2 b. back_row y is.2 (k + row_count C x) path2 mid st on2 b h)
        (truth_of (value_in I st c)) refl
    back (Call ps q es) is k path s st on a h =
        subst (λ (o : Option CoreProc). Facts (call C k path o ps q es s) → Reaches (call C k path o ps q es s) (receive st ps (calls q (map (value_in I st) es) st.globals))) (sym is.found)
        (λ g. back_call q is.callee ps es is.found is.ins is.outs.sorts k path s st on a g) h
    back (Assume c) is k path s st on a h =
        let n = not_of (guard_of path s) in
        let c' = term_in F s.store c in
        let told : truth v (or_of n c') ≡ true = second_on (all_true v s.assumes) (truth v (or_of n c')) (sym (assumes_push v s.assumes (or_of n c')) ∙ h.0) in
        let down : truth v n ≡ false = not_truth v (guard_of path s) ∙ ap not (guard_on C formed p calls v path s st on a) in
        let holds : truth v c' ≡ true = sym (ap (λ (b : Bool). b || truth v c') down) ∙ sym (or_truth v n c') ∙ told in
        let seen : truth_of (value_in I st c) ≡ true = sym (holds_is C formed p calls v I reads s st c false false is a) ∙ holds in
        assumed (step C (Assume c) k path s) st (truth_of (value_in I st c)) seen (record { sorts = a.sorts; store = a.store; flag_is = a.flag_is; gone_is = a.gone_is; assumes = h.0; sites = a.sites })
    back Fail is k path s st on a h =
        let up = guard_on C formed p calls v path s st on a in
        record {
          sorts = a.sorts;
          store = a.store;
          flag_is = or_truth v s.flag (guard_of path s) ∙ or_on (truth v s.flag) (truth v (guard_of path s)) up;
          gone_is = or_truth v s.gone (guard_of path s) ∙ or_on (truth v s.gone) (truth v (guard_of path s)) up;
          assumes = a.assumes;
          sites = a.sites;
        }
    back Return is k path s st on a h =
        record {
          sorts = a.sorts;
          store = a.store;
          flag_is = a.flag_is;
          gone_is = or_truth v s.gone (guard_of path s) ∙ or_on (truth v s.gone) (truth v (guard_of path s)) (guard_on C formed p calls v path s st on a);
          assumes = a.assumes;
          sites = a.sites;
        }

    back_row : {n : _} (ts : Row_of-CoreStmt n) → AreFormed P p ts → (k : ℕ) (path : Tree) (s : State) (st : Store Value) → truth v path ≡ true → Here s st false false → Facts (steps C ts k path s) → Reaches (steps C ts k path s) (run_row I calls ts st)
    back_row end_of-CoreStmt is k path s st on a h = a
    back_row (more_of-CoreStmt t ts) is k path s st on a h =
        let mid = step C t k path s in
        back_then mid (steps C ts (k + count C t) path mid) path (core.run I calls t st) (run_row I calls ts) (back t is.0 k path s st on a (facts_row ts (k + count C t) path mid h))
        (λ st1 b. back_row ts is.1 (k + count C t) path mid st1 on b h)
        (λ st1 f g off b. idle_row C formed p calls v ts is.1 (k + count C t) path mid st1 f g off b)

  back_all : (ts : List CoreStmt) → AllFormed P p ts → (k : ℕ) (path : Tree) (s : State) (st : Store Value) → truth v path ≡ true → Here s st false false → Facts (all_steps C ts k path s) → Reaches (all_steps C ts k path s) (run_all I calls ts st)
  back_all [] is k path s st on a h = a
  back_all (t ∷ ts) is k path s st on a h =
      let mid = step C t k path s in
      back_then mid (all_steps C ts (k + count C t) path mid) path (core.run I calls t st) (run_all I calls ts) (back t is.0 k path s st on a (facts_all ts (k + count C t) path mid h))
      (λ st1 b. back_all ts is.1 (k + count C t) path mid st1 on b h)
      (λ st1 f g off b. idle_all C formed p calls v ts is.1 (k + count C t) path mid st1 f g off b)

  -- ---- the end

  ended : (s : State) (st : Store Value) (f g : Bool) → Here s st f g → Ended (core.outs_of p st) st.globals f ≡ Ended (map (value v) (outs_of p s)) (map (value v) s.store.globals) (truth v s.flag)
  ended s st f g a = λ i. Ended (sym (outs-value C formed p calls v s st a.store) i) (sym (ap (λ (x : Store Value). x.globals) a.store) i) (sym a.flag_is i)

  end_is : (s : State) (out : Step) → Reaches s out → end_of p out ≡ Ended (map (value v) (outs_of p s)) (map (value v) s.store.globals) (truth v s.flag)
  end_is s (Goes st) a = ended s st false false a
  end_is s (Stops st f) a = ended s st f true a
  end_is s Blocks a = absurd a
  end_is s Lacks a = absurd a

  body_back : AllFormed P p p.body → (k : ℕ) (in_terms global_terms : List Tree) → AreInputTerms P p in_terms global_terms → (outs after : List Value) (flag : Bool) → IsRun P calls v p (body_of C p k in_terms global_terms) outs after flag
      → core.run_proc I calls p (map (value v) in_terms) (map (value v) global_terms) ≡ Ended outs after flag
  body_back is k in_terms global_terms fit outs after flag r =
      let st = enter I.start p (map (value v) in_terms) (map (value v) global_terms) in
      let start = begins C formed p calls v I reads in_terms global_terms (map (value v) in_terms) (map (value v) global_terms) fit refl refl in
      end_is (body_of C p k in_terms global_terms) (run_all I calls p.body st) (back_all p.body is k (constant true) (begun p in_terms global_terms) st refl start (r.assumes, r.sites))
      ∙ (λ i. Ended (r.tells.outs_are i) (r.tells.globals_are i) (r.tells.flag_is i))

pub valuations-are-runs : ValuationsAreRuns
valuations-are-runs C M formed meaning n q p found v reads k in_terms global_terms fit outs after flag r =
    body_back C formed p (interpretation M) (calls_within (interpretation M) C.program.procs n) v reads (formed.procs q p found).body k in_terms global_terms fit outs after flag r
