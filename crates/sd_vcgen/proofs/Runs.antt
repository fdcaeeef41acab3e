-- Every ended run of a body is a valuation of its terms.
use Rattle.std.proofs.Common.{◌≡◌, ℕ, ◌+◌, List, [], ◌∷◌, ◌++◌, length, Option, Some, refl, sym, ap, subst, ◌∙◌, arith}
use Rattle.std.proofs.lemmas.Bool.{and_from}
use Rattle.std.specs.Prelude.{Bool, true, false, not, ◌&&◌, map, slice_get, if◌then◌else◌}
use Rattle.std.proofs.lemmas.List.{length-map}
use Rattle.sd_base.specs.declared.Sort.{Sort, Bool as BoolSort}
use Rattle.sd_base.specs.Value.{Value}
use Rattle.sd_base.specs.Meaning.{Interpretation, interpretation, truth_of}
use Rattle.sd_core.specs.declared.Spot.{Spot}
use Rattle.sd_core.specs.declared.CoreExpr.{CoreExpr}
use Rattle.sd_core.specs.declared.CoreStmt.{CoreStmt, Assign, If', Call, Assume, Fail, Return, Row_of-CoreStmt, end_of-CoreStmt, more_of-CoreStmt}
use Rattle.sd_core.specs.declared.CoreProc.{CoreProc}
use Rattle.sd_core.specs.declared.CoreProgram.{CoreProgram}
use Rattle.sd_core.specs.declared.Function.{Function}
use Rattle.sd_core.specs.Store.{Store, write_all, set_all}
use Rattle.sd_core.specs.Run.{Calls, End, Ended, Blocked, Unfinished, Step, Goes, Stops, Blocks, Lacks, value_in, receive, then_run, run_row, run_all, enter, end_of, calls_within}
use Rattle.sd_core.specs.Run as core
use Rattle.sd_core.specs.Formed.{WellFormed, sorts_of, state_sorts, HasType, AllHaveTypes, AreSpotsOf, IsFormed, AreFormed, AllFormed}
use Rattle.sd_core.specs.Meanings.{HaveSorts}
use Rattle.sd_runs.specs.Kept.{at_all, EndFits, KeepsCalls}
use Rattle.sd_runs.specs.Laws.{RunsKeep, InfallibleRuns}
use Rattle.sd_term.specs.Tree.{Tree}
use Rattle.sd_term.specs.Build.{not_of, and_of, or_of}
use Rattle.sd_term.specs.Truth.{Valuation, value}
use Rattle.sd_vcgen.specs.Body.{State, Context, constant, term_in, guard_of, modified_sorts, changed, site_of, call, call_symbols, flag_symbols, count, row_count, count_all, step, steps, all_steps, begun, body_of}
use Rattle.sd_vcgen.specs.Laws.{Reads, truth, all_true, Carries, IsRun, HasLog, RunsAreValuations}
use Rattle.sd_vcgen.proofs.Typed.{assign-sorts, all-sorts}
use Rattle.sd_vcgen.proofs.Values.{have-sorts, all-values}
use Rattle.sd_vcgen.proofs.Symbols.{set_all-map}
use Rattle.sd_vcgen.proofs.Truths.{not_truth, and_truth, or_truth, and_gone, off_path, or_on, assumes_push}
use Rattle.sd_vcgen.proofs.Agrees.{Agrees, After, assign_on, guard_on, land, idle_row, idle_all, then_idle, holds_is, begins, outs-value}
use Rattle.sd_vcgen.proofs.Logs.{carries_front, carries_back, two_sizes, resized, length-resized, resized-same, sorted-length, at_all-sorted, symbols-value, flag_log, length-flag, flag-value}

-- values for the symbols with which the terms follow the run
record Tracks (C : Context) (p : CoreProc) (I : Interpretation) (calls : Calls) (need : ℕ) (go : ℕ → Tree → State → State) (st : Store Value) (out : Step) : Type 0 where
  log : List Value
  size : length log ≡ need
  by : (v : Valuation) (k : ℕ) (path : Tree) (s : State) → Reads C.program.functions v I → Carries v k log → truth v path ≡ true → Agrees C.program calls v (state_sorts C.program p) s st false false → After C.program calls v (state_sorts C.program p) (go k path s) out

-- what is known of infallible callees
abbrev Hushed : Context → Calls → Type 0
Hushed C calls = (q : ℕ) (ins globals outs after : List Value) (flag : Bool) → C.infallible q ≡ true → calls q ins globals ≡ Ended outs after flag → flag ≡ false

module _ (C : Context) (formed : WellFormed C.program) (I : Interpretation) (calls : Calls) (keeps : KeepsCalls C.program calls) (hushed : Hushed C calls) (p : CoreProc) where
  abbrev P : CoreProgram
  P = C.program

  abbrev F : List Function
  F = P.functions

  abbrev S : Store Sort
  S = state_sorts P p

  abbrev Here : Valuation → State → Store Value → Type 0
  Here v s st = Agrees P calls v S s st false false

  abbrev Follows : ℕ → (ℕ → Tree → State → State) → Store Value → Step → Type 0
  Follows = Tracks C p I calls

  abbrev filler : ℕ → List Value
  filler n = resized n []

  -- one stretch, and then another
  live_then : (m n : ℕ) (go1 go2 : ℕ → Tree → State → State) (st : Store Value) (out : Step) (rest : Store Value → Step) → Follows m go1 st out → ((st1 : Store Value) → Follows n go2 st1 (rest st1))
      → ((v : Valuation) (k : ℕ) (path : Tree) (s : State) (st1 : Store Value) (f g : Bool) → (truth v path && not g) ≡ false → Agrees P calls v S s st1 f g → Agrees P calls v S (go2 k path s) st1 f g)
      → Follows (m + n) (λ k path s. go2 (k + m) path (go1 k path s)) st (then_run out rest)
  live_then m n go1 go2 st (Goes st1) rest t next idles =
      let u = next st1 in
      record {
        log = t.log ++ u.log;
        size = two_sizes t.log u.log m n t.size u.size;
        by = λ v k path s r c on a.
            u.by v (k + m) path (go1 k path s) r (carries_back v k t.log u.log m t.size c) on (t.by v k path s r (carries_front v k t.log u.log c) on a);
      }
  live_then m n go1 go2 st (Stops st1 flag) rest t next idles = record {
    log = t.log ++ filler n;
    size = two_sizes t.log (filler n) m n t.size (length-resized n []);
    by = λ v k path s r c on a.
        idles v (k + m) path (go1 k path s) st1 flag true (and_gone (truth v path)) (t.by v k path s r (carries_front v k t.log (filler n) c) on a);
  }
  live_then m n go1 go2 st Blocks rest t next idles = record {
    log = filler (m + n);
    size = length-resized (m + n) [];
    by = λ v k path s r c on a. tt;
  }
  live_then m n go1 go2 st Lacks rest t next idles = record {
    log = filler (m + n);
    size = length-resized (m + n) [];
    by = λ v k path s r c on a. tt;
  }

  -- a choice, by the value of its condition
  live_if : (c : CoreExpr) {m n : _} (x : Row_of-CoreStmt m) (y : Row_of-CoreStmt n) → HasType F S c BoolSort → AreFormed P p x → AreFormed P p y → (st : Store Value) (b : Bool) → truth_of (value_in I st c) ≡ b
      → Follows (row_count C x) (steps C x) st (run_row I calls x st) → Follows (row_count C y) (steps C y) st (run_row I calls y st)
      → Follows (row_count C x + row_count C y) (λ k path s. steps C y (k + row_count C x) (and_of path (not_of (term_in F s.store c))) (steps C x k (and_of path (term_in F s.store c)) s)) st (if b then run_row I calls x st else run_row I calls y st)
  live_if c x y typed fx fy st true e tx ty = record {
    log = tx.log ++ filler (row_count C y);
    size = two_sizes tx.log (filler (row_count C y)) (row_count C x) (row_count C y) tx.size (length-resized (row_count C y) []);
    by = λ v k path s r h on a.
        let c' = term_in F s.store c in
        let holds : truth v c' ≡ true = holds_is C formed p calls v I r s st c false false typed a ∙ e in
        let on1 : truth v (and_of path c') ≡ true = and_truth v path c' ∙ and_from (truth v path) (truth v c') on holds in
        let path2 = and_of path (not_of c') in
        let mid = steps C x k (and_of path c') s in
        let off2 : (g : Bool) → (truth v path2 && not g) ≡ false =
        λ g. ap (λ (b : Bool). b && not g) (and_truth v path (not_of c')) ∙ off_path (truth v path) (truth v (not_of c')) g (not_truth v c' ∙ ap not holds) in
        then_idle C formed p calls v mid (steps C y (k + row_count C x) path2 mid) path2 (run_row I calls x st)
        (λ st1 f g off b. idle_row C formed p calls v y fy (k + row_count C x) path2 mid st1 f g off b) off2
        (tx.by v k (and_of path c') s r (carries_front v k tx.log (filler (row_count C y)) h) on1 a);
  }
  live_if c x y typed fx fy st false e tx ty = record {
    log = filler (row_count C x) ++ ty.log;
    size = two_sizes (filler (row_count C x)) ty.log (row_count C x) (row_count C y) (length-resized (row_count C x) []) ty.size;
    by = λ v k path s r h on a.
        let c' = term_in F s.store c in
        let fails : truth v c' ≡ false = holds_is C formed p calls v I r s st c false false typed a ∙ e in
        let off1 : (truth v (and_of path c') && not false) ≡ false = ap (λ (b : Bool). b && not false) (and_truth v path c') ∙ off_path (truth v path) (truth v c') false fails in
        let on2 : truth v (and_of path (not_of c')) ≡ true = and_truth v path (not_of c') ∙ and_from (truth v path) (truth v (not_of c')) on (not_truth v c' ∙ ap not fails) in
        ty.by v (k + row_count C x) (and_of path (not_of c')) (steps C x k (and_of path c') s) r (carries_back v k (filler (row_count C x)) ty.log (row_count C x) (length-resized (row_count C x) []) h) on2
        (idle_row C formed p calls v x fx k (and_of path c') s st false false off1 a);
  }

  live_assume : (c : CoreExpr) → HasType F S c BoolSort → (st : Store Value) (b : Bool) → truth_of (value_in I st c) ≡ b → Follows 0 (step C (Assume c)) st (if b then Goes st else Blocks)
  live_assume c typed st true e = record {
    log = [];
    size = refl;
    by = λ v k path s r h on a.
        let n = not_of (guard_of path s) in
        let c' = term_in F s.store c in
        let holds : truth v (or_of n c') ≡ true = or_truth v n c' ∙ or_on (truth v n) (truth v c') (holds_is C formed p calls v I r s st c false false typed a ∙ e) in
        record {
          sorts = a.sorts;
          store = a.store;
          flag_is = a.flag_is;
          gone_is = a.gone_is;
          assumes = assumes_push v s.assumes (or_of n c') ∙ and_from (all_true v s.assumes) (truth v (or_of n c')) a.assumes holds;
          sites = a.sites;
        };
  }
  live_assume c typed st false e = record { log = []; size = refl; by = λ v k path s r h on a. tt }

  -- ---- calls

  abbrev call_log : ℕ → CoreProc → (outs globals : List Value) → Bool → List Value
  call_log q callee outs globals flag = resized (length callee.outs) outs ++ (at_all globals callee.modifies ++ flag_log (C.infallible q) flag)

  length-call : (q : ℕ) (callee : CoreProc) (outs globals : List Value) (flag : Bool) → length (call_log q callee outs globals flag) ≡ call_symbols (C.infallible q) (Some callee)
  length-call q callee outs globals flag =
      two_sizes (resized (length callee.outs) outs) (at_all globals callee.modifies ++ flag_log (C.infallible q) flag) (length callee.outs) (length callee.modifies + flag_symbols (C.infallible q)) (length-resized (length callee.outs) outs)
      (two_sizes (at_all globals callee.modifies) (flag_log (C.infallible q) flag) (length callee.modifies) (flag_symbols (C.infallible q)) (length-map callee.modifies _) (length-flag (C.infallible q) flag))

  -- a call that ended
  ended_call : (q : ℕ) (callee : CoreProc) (ps : List Spot) (es : List CoreExpr) → slice_get P.procs q ≡ Some callee → AllHaveTypes F S es (sorts_of callee.ins) → AreSpotsOf S ps (sorts_of callee.outs)
      → (st : Store Value) (outs globals : List Value) (flag : Bool) → calls q (map (value_in I st) es) st.globals ≡ Ended outs globals flag
      → (v : Valuation) (k : ℕ) (path : Tree) (s : State) → Reads F v I → Carries v k (call_log q callee outs globals flag) → truth v path ≡ true → Here v s st
      → Agrees P calls v S (call C k path (Some callee) ps q es s) (write_all (record { slots = st.slots; globals = globals }) ps outs) flag flag
  ended_call q callee ps es found ins spots st outs globals flag e v k path s r h on a =
      let site = site_of C k path callee q es s in
      let ms = callee.modifies in
      let news = changed P k callee in
      let args_are : map (value v) site.args ≡ map (value_in I st) es = all-values F v I r S s.store es (sorts_of callee.ins) a.sorts ins ∙ ap (λ (x : Store Value). map (value_in I x) es) a.store in
      let before_are : map (value v) site.before ≡ st.globals = ap (λ (x : Store Value). x.globals) a.store in
      let args_fit : HaveSorts (sorts_of callee.ins) (map (value v) site.args) = have-sorts v site.args (sorts_of callee.ins) (all-sorts F S s.store es (sorts_of callee.ins) a.sorts ins) in
      let before_fit : HaveSorts (sorts_of P.globals) (map (value v) site.before) = have-sorts v site.before (sorts_of P.globals) (ap (λ (x : Store Sort). x.globals) a.sorts) in
      let ends : calls q (map (value v) site.args) (map (value v) site.before) ≡ Ended outs globals flag = (λ i. calls q (args_are i) (before_are i)) ∙ e in
      let fits : EndFits P callee (map (value v) site.before) outs globals = keeps.by q callee (map (value v) site.args) (map (value v) site.before) outs globals flag found args_fit before_fit ends in
      let long : length outs ≡ length callee.outs = sorted-length (sorts_of callee.outs) outs fits.outs_fit ∙ length-map callee.outs _ in
      let log : Carries v k (outs ++ (at_all globals ms ++ flag_log (C.infallible q) flag)) =
      subst (λ (xs : List Value). Carries v k (xs ++ (at_all globals ms ++ flag_log (C.infallible q) flag))) (resized-same (length callee.outs) outs long) h in
      let log2 = carries_back v k outs (at_all globals ms ++ flag_log (C.infallible q) flag) (length callee.outs) long log in
      let log3 = carries_back v (k + length callee.outs) (at_all globals ms) (flag_log (C.infallible q) flag) (length ms) (length-map ms _) log2 in
      let place : k + length callee.outs + length ms ≡ k + (length callee.outs + length ms) = omega arith in
      let outs_are : map (value v) site.outs ≡ outs = symbols-value v k (sorts_of callee.outs) outs fits.outs_fit (carries_front v k outs (at_all globals ms ++ flag_log (C.infallible q) flag) log) in
      let news_are : map (value v) news ≡ at_all globals ms = symbols-value v (k + length callee.outs) (modified_sorts P callee) (at_all globals ms) (at_all-sorted (sorts_of P.globals) globals ms fits.globals_fit) (carries_front v (k + length callee.outs) (at_all globals ms) (flag_log (C.infallible q) flag) log2) in
      let flag_is : truth v site.flag ≡ flag = flag-value v (k + (length callee.outs + length ms)) (C.infallible q) flag (λ hush. hushed q (map (value_in I st) es) st.globals outs globals flag hush e) (subst (λ (j : ℕ). Carries v j (flag_log (C.infallible q) flag)) place log3) in
      let after_are : map (value v) site.after ≡ globals = set_all-map (value v) s.store.globals ms news ∙ ap (set_all (map (value v) s.store.globals) ms) news_are ∙ fits.others in
      let globals_are : set_all st.globals ms (map (value v) news) ≡ globals = (λ i. set_all (sym before_are i) ms (news_are i)) ∙ fits.others in
      land C formed p calls v q callee ps es found spots k path s st on outs globals flag outs_are globals_are flag_is
      (λ up. record {
        fits = record {
          ins_fit = λ other there. let same : callee ≡ other = cc in subst (λ (x : CoreProc). HaveSorts (sorts_of x.ins) (map (value v) site.args)) same args_fit;
          globals_fit = before_fit;
        };
        ends = ends ∙ (λ i. Ended (sym outs_are i) (sym after_are i) (sym flag_is i));
      }) a

  live_call : (q : ℕ) (callee : CoreProc) (ps : List Spot) (es : List CoreExpr) → slice_get P.procs q ≡ Some callee → AllHaveTypes F S es (sorts_of callee.ins) → AreSpotsOf S ps (sorts_of callee.outs)
      → (st : Store Value) (end : End) → calls q (map (value_in I st) es) st.globals ≡ end → Follows (call_symbols (C.infallible q) (Some callee)) (λ k path s. call C k path (Some callee) ps q es s) st (receive st ps end)
  live_call q callee ps es found ins spots st (Ended outs globals true) e = record {
    log = call_log q callee outs globals true;
    size = length-call q callee outs globals true;
    by = λ v k path s r h on a. ended_call q callee ps es found ins spots st outs globals true e v k path s r h on a;
  }
  live_call q callee ps es found ins spots st (Ended outs globals false) e = record {
    log = call_log q callee outs globals false;
    size = length-call q callee outs globals false;
    by = λ v k path s r h on a. ended_call q callee ps es found ins spots st outs globals false e v k path s r h on a;
  }
  live_call q callee ps es found ins spots st Blocked e = record {
    log = filler (call_symbols (C.infallible q) (Some callee));
    size = length-resized (call_symbols (C.infallible q) (Some callee)) [];
    by = λ v k path s r h on a. tt;
  }
  live_call q callee ps es found ins spots st Unfinished e = record {
    log = filler (call_symbols (C.infallible q) (Some callee));
    size = length-resized (call_symbols (C.infallible q) (Some callee)) [];
    by = λ v k path s r h on a. tt;
  }

  -- ---- statements

  mutual
    live : (t : CoreStmt) → IsFormed P p t → (st : Store Value) → Follows (count C t) (step C t) st (core.run I calls t st)
    live (Assign ps es) is st = record {
      log = [];
      size = refl;
      by = λ v k path s r h on a.
          let ts = map (term_in F s.store) es in
          let typed = all-sorts F S s.store es is.0 a.sorts is.1 in
          record {
            sorts = assign-sorts S (guard_of path s) ps ts is.0 s.store is.2.sorts typed a.sorts;
            store = assign_on v S (guard_of path s) (guard_on C formed p calls v path s st on a) ps ts is.0 is.2.sorts typed s.store st a.sorts a.store
                ∙ ap (write_all st ps) (all-values F v I r S s.store es is.0 a.sorts is.1 ∙ ap (λ (x : Store Value). map (value_in I x) es) a.store);
            flag_is = a.flag_is;
            gone_is = a.gone_is;
            assumes = a.assumes;
            sites = a.sites;
          };
    }
    live (If' c n x m y) is st = live_if c x y is.0 is.1 is.2 st (truth_of (value_in I st c)) refl (live_row x is.1 st) (live_row y is.2 st)
    live (Call ps q es) is st =
        subst (λ (o : Option CoreProc). Follows (call_symbols (C.infallible q) o) (λ k path s. call C k path o ps q es s) st (receive st ps (calls q (map (value_in I st) es) st.globals))) (sym is.found)
        (live_call q is.callee ps es is.found is.ins is.outs.sorts st (calls q (map (value_in I st) es) st.globals) refl)
    live (Assume c) is st = live_assume c is st (truth_of (value_in I st c)) refl
    live Fail is st = record {
      log = [];
      size = refl;
      by = λ v k path s r h on a.
          let up = guard_on C formed p calls v path s st on a in
          record {
            sorts = a.sorts;
            store = a.store;
            flag_is = or_truth v s.flag (guard_of path s) ∙ or_on (truth v s.flag) (truth v (guard_of path s)) up;
            gone_is = or_truth v s.gone (guard_of path s) ∙ or_on (truth v s.gone) (truth v (guard_of path s)) up;
            assumes = a.assumes;
            sites = a.sites;
          };
    }
    live Return is st = record {
      log = [];
      size = refl;
      by = λ v k path s r h on a.
          record {
            sorts = a.sorts;
            store = a.store;
            flag_is = a.flag_is;
            gone_is = or_truth v s.gone (guard_of path s) ∙ or_on (truth v s.gone) (truth v (guard_of path s)) (guard_on C formed p calls v path s st on a);
            assumes = a.assumes;
            sites = a.sites;
          };
    }

    live_row : {n : _} (ts : Row_of-CoreStmt n) → AreFormed P p ts → (st : Store Value) → Follows (row_count C ts) (steps C ts) st (run_row I calls ts st)
    live_row end_of-CoreStmt is st = record { log = []; size = refl; by = λ v k path s r h on a. a }
    live_row (more_of-CoreStmt t ts) is st =
        live_then (count C t) (row_count C ts) (step C t) (steps C ts) st (core.run I calls t st) (run_row I calls ts) (live t is.0 st) (λ st1. live_row ts is.1 st1)
        (λ v k path s st1 f g off a. idle_row C formed p calls v ts is.1 k path s st1 f g off a)

  live_all : (ts : List CoreStmt) → AllFormed P p ts → (st : Store Value) → Follows (count_all C ts) (all_steps C ts) st (run_all I calls ts st)
  live_all [] is st = record { log = []; size = refl; by = λ v k path s r h on a. a }
  live_all (t ∷ ts) is st =
      live_then (count C t) (count_all C ts) (step C t) (all_steps C ts) st (core.run I calls t st) (run_all I calls ts) (live t is.0 st) (λ st1. live_all ts is.1 st1)
      (λ v k path s st1 f g off a. idle_all C formed p calls v ts is.1 k path s st1 f g off a)

  -- ---- the end

  tells : (v : Valuation) (s : State) (st : Store Value) (f g : Bool) → Agrees P calls v S s st f g → IsRun P calls v p s (core.outs_of p st) st.globals f
  tells v s st f g a = record {
    tells = record { outs_are = outs-value C formed p calls v s st a.store; globals_are = ap (λ (x : Store Value). x.globals) a.store; flag_is = a.flag_is };
    assumes = a.assumes;
    sites = a.sites;
  }

  same_end : (v : Valuation) (s : State) (os gs outs after : List Value) (f flag : Bool) → Ended os gs f ≡ Ended outs after flag → IsRun P calls v p s os gs f → IsRun P calls v p s outs after flag
  same_end v s os gs outs after f flag e r =
      let a : os ≡ outs = cc in
      let b : gs ≡ after = cc in
      let c : f ≡ flag = cc in
      record {
        tells = record { outs_are = r.tells.outs_are ∙ a; globals_are = r.tells.globals_are ∙ b; flag_is = r.tells.flag_is ∙ c };
        assumes = r.assumes;
        sites = r.sites;
      }

  end_is : (v : Valuation) (s : State) (out : Step) (outs after : List Value) (flag : Bool) → end_of p out ≡ Ended outs after flag → After P calls v S s out → IsRun P calls v p s outs after flag
  end_is v s (Goes st) outs after flag e a = same_end v s (core.outs_of p st) st.globals outs after false flag e (tells v s st false false a)
  end_is v s (Stops st f) outs after flag e a = same_end v s (core.outs_of p st) st.globals outs after f flag e (tells v s st f true a)
  end_is v s Blocks outs after flag e a = cc
  end_is v s Lacks outs after flag e a = cc

  body_log : AllFormed P p p.body → (ins globals outs after : List Value) (flag : Bool) → core.run_proc I calls p ins globals ≡ Ended outs after flag → HasLog C I calls p ins globals outs after flag
  body_log is ins globals outs after flag e =
      let st = enter I.start p ins globals in
      let t = live_all p.body is st in
      record {
        log = t.log;
        size = t.size;
        by = λ v k in_terms global_terms r h fit a b.
            end_is v (body_of C p k in_terms global_terms) (run_all I calls p.body st) outs after flag e
            (t.by v k (constant true) (begun p in_terms global_terms) r h refl (begins C formed p calls v I r in_terms global_terms ins globals fit a b));
      }

pub runs-are-valuations : RunsKeep → InfallibleRuns → RunsAreValuations
runs-are-valuations keep hush C M formed meaning set n q p found ins globals outs after flag fit e =
    let I = interpretation M in
    let calls = calls_within I C.program.procs n in
    body_log C formed I calls (keep C.program M formed meaning n) (λ r xs gs os as' f infallible ends. hush I C.program.procs C.infallible set n r xs gs os as' f infallible ends) p (formed.procs q p found).body ins globals outs after flag e
