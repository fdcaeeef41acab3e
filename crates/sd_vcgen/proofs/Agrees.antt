-- States of terms that agree with states of a run, and what keeps them so.
use Rattle.std.proofs.Common.{◌≡◌, ℕ, ◌+◌, List, [], ◌∷◌, ◌++◌, length, Option, Some, refl, sym, ap, subst, ◌∙◌}
use Rattle.std.proofs.lemmas.Bool.{and_from}
use Rattle.std.specs.Prelude.{Bool, true, false, not, ◌&&◌, ◌||◌, cond, map, slice_get}
use Rattle.std.proofs.lemmas.List.{map-append}
use Rattle.sd_base.specs.declared.Sort.{Sort, Bool as BoolSort}
use Rattle.sd_base.specs.declared.Var.{Var}
use Rattle.sd_base.specs.Value.{Value}
use Rattle.sd_base.specs.Meaning.{Interpretation, truth_of}
use Rattle.sd_core.specs.declared.Spot.{Spot}
use Rattle.sd_core.specs.declared.Spot.TheVariants.{Global}
use Rattle.sd_core.specs.declared.CoreExpr.{CoreExpr}
use Rattle.sd_core.specs.declared.CoreStmt.{CoreStmt, Assign, If', Call, Assume, Fail, Return, Row_of-CoreStmt, end_of-CoreStmt, more_of-CoreStmt}
use Rattle.sd_core.specs.declared.CoreProc.{CoreProc}
use Rattle.sd_core.specs.declared.CoreProgram.{CoreProgram}
use Rattle.sd_core.specs.declared.Function.{Function}
use Rattle.sd_core.specs.Store.{Store, read, write, write_all, set_all, map_store}
use Rattle.sd_core.specs.Run.{Calls, Step, Goes, Stops, Blocks, Lacks, value_in, enter, out_spots}
use Rattle.sd_core.specs.Run as core
use Rattle.sd_core.specs.Formed.{WellFormed, sorts_of, sort_at, state_sorts, HasType, AreSpotsOf, IsFormed, AreFormed, AllFormed}
use Rattle.sd_term.specs.declared.node.Head.TheVariants as head
use Rattle.sd_term.specs.Tree.{Tree, leaf}
use Rattle.sd_term.specs.Sorts.{sort_of}
use Rattle.sd_term.specs.Build.{not_of, and_of, or_of, ite_of}
use Rattle.sd_term.specs.Truth.{Valuation, value}
use Rattle.sd_term.proofs.BuildSorts.{ite-sort}
use Rattle.sd_term.proofs.BuildValues.{ite-chosen}
use Rattle.sd_vcgen.specs.Body.{State, Context, nothing, term_in, guard_of, assign, modified_sorts, changed, site_of, call, count, row_count, step, steps, all_steps, begun, outs_of}
use Rattle.sd_vcgen.specs.Laws.{Reads, AreInputTerms, truth, all_true, SiteHolds, SitesHold}
use Rattle.sd_vcgen.proofs.Stores.{read_map, write_map, write_read}
use Rattle.sd_vcgen.proofs.Typed.{spot-sort, write-sorts, assign-sorts, all-sorts}
use Rattle.sd_vcgen.proofs.Values.{term-value}
use Rattle.sd_vcgen.proofs.Symbols.{symbols-sort, modified-spots, write-globals}
use Rattle.sd_vcgen.proofs.Sorted.{changed-sorts, call-sorts, begun-sorts}
use Rattle.sd_vcgen.proofs.Truths.{all_push, not_truth, and_truth, or_truth, and_off, or_off, assumes_push}

-- ---- assignments

module _ (v : Valuation) (S : Store Sort) (g : Tree) where
  spot_new : (t : Tree) (tst : Store Tree) (p : Spot) (s : Sort) → map_store sort_of tst ≡ S → sort_at S p ≡ Some s → sort_of t ≡ s → value v (ite_of g t (read nothing tst p)) ≡ cond (truth v g) (value v t) (read core.nothing (map_store (value v) tst) p)
  spot_new t tst p s e h f =
      ite-chosen v g t (read nothing tst p) (f ∙ sym (spot-sort S tst p s e h))
      ∙ ap (λ (x : Value). cond (truth v g) (value v t) x) (read_map (value v) nothing tst p)

  pub assign_on : truth v g ≡ true → (ps : List Spot) (ts : List Tree) (ss : List Sort) → AreSpotsOf S ps ss → map sort_of ts ≡ ss → (tst : Store Tree) (st : Store Value) → map_store sort_of tst ≡ S → map_store (value v) tst ≡ st → map_store (value v) (assign g tst ps ts) ≡ write_all st ps (map (value v) ts)
  assign_on up [] ts ss h f tst st e k = k
  assign_on up (p ∷ ps) [] ss h f tst st e k = k
  assign_on up (p ∷ ps) (t ∷ ts) [] h f tst st e k = cc
  assign_on up (p ∷ ps) (t ∷ ts) (s ∷ ss) h f tst st e k =
      let here : sort_of t ≡ s = cc in
      let rest : map sort_of ts ≡ ss = cc in
      let old = read nothing tst p in
      let new : value v (ite_of g t old) ≡ value v t = spot_new t tst p s e h.0 here ∙ ap (λ (b : Bool). cond b (value v t) (read core.nothing (map_store (value v) tst) p)) up in
      let stored : map_store (value v) (write tst p (ite_of g t old)) ≡ write st p (value v t) = write_map (value v) tst p (ite_of g t old) ∙ (λ i. write (k i) p (new i)) in
      assign_on up ps ts ss h.1 rest (write tst p (ite_of g t old)) (write st p (value v t)) (write-sorts S tst p (ite_of g t old) s e h.0 (ite-sort g t old ∙ here)) stored

  pub assign_off : truth v g ≡ false → (ps : List Spot) (ts : List Tree) (ss : List Sort) → AreSpotsOf S ps ss → map sort_of ts ≡ ss → (tst : Store Tree) (st : Store Value) → map_store sort_of tst ≡ S → map_store (value v) tst ≡ st → map_store (value v) (assign g tst ps ts) ≡ st
  assign_off down [] ts ss h f tst st e k = k
  assign_off down (p ∷ ps) [] ss h f tst st e k = k
  assign_off down (p ∷ ps) (t ∷ ts) [] h f tst st e k = cc
  assign_off down (p ∷ ps) (t ∷ ts) (s ∷ ss) h f tst st e k =
      let here : sort_of t ≡ s = cc in
      let rest : map sort_of ts ≡ ss = cc in
      let old = read nothing tst p in
      let new : value v (ite_of g t old) ≡ read core.nothing st p =
      spot_new t tst p s e h.0 here ∙ ap (λ (b : Bool). cond b (value v t) (read core.nothing (map_store (value v) tst) p)) down ∙ ap (λ (x : Store Value). read core.nothing x p) k in
      let stored : map_store (value v) (write tst p (ite_of g t old)) ≡ st = write_map (value v) tst p (ite_of g t old) ∙ (λ i. write (k i) p (new i)) ∙ write_read core.nothing st p in
      assign_off down ps ts ss h.1 rest (write tst p (ite_of g t old)) st (write-sorts S tst p (ite_of g t old) s e h.0 (ite-sort g t old ∙ here)) stored

-- ---- a state of terms and a state of the run

pub record Agrees (P : CoreProgram) (calls : Calls) (v : Valuation) (S : Store Sort) (s : State) (st : Store Value) (flag gone : Bool) : Type 0 where
  pub sorts : map_store sort_of s.store ≡ S
  pub store : map_store (value v) s.store ≡ st
  pub flag_is : truth v s.flag ≡ flag
  pub gone_is : truth v s.gone ≡ gone
  pub assumes : all_true v s.assumes ≡ true
  pub sites : SitesHold P calls v s.sites

abbrev pub After : CoreProgram → Calls → Valuation → Store Sort → State → Step → Type 0
After P calls v S s (Goes st) = Agrees P calls v S s st false false
After P calls v S s (Stops st flag) = Agrees P calls v S s st flag true
After P calls v S s Blocks = Unit {0}
After P calls v S s Lacks = Unit {0}

module _ (C : Context) (formed : WellFormed C.program) (p : CoreProc) (calls : Calls) (v : Valuation) where
  abbrev P : CoreProgram
  P = C.program

  abbrev F : List Function
  F = P.functions

  abbrev S : Store Sort
  S = state_sorts P p

  -- terms and run agree here
  abbrev Here : State → Store Value → (flag gone : Bool) → Type 0
  Here = Agrees P calls v S

  guard_truth : (path : Tree) (s : State) → truth v (guard_of path s) ≡ (truth v path && not (truth v s.gone))
  guard_truth path s = and_truth v path (not_of s.gone) ∙ ap (λ (b : Bool). truth v path && b) (not_truth v s.gone)

  guard_off : (path : Tree) (s : State) (st : Store Value) (f g : Bool) → (truth v path && not g) ≡ false → Here s st f g → truth v (guard_of path s) ≡ false
  guard_off path s st f g off a = guard_truth path s ∙ ap (λ (b : Bool). truth v path && not b) a.gone_is ∙ off

  pub guard_on : (path : Tree) (s : State) (st : Store Value) → truth v path ≡ true → Here s st false false → truth v (guard_of path s) ≡ true
  guard_on path s st on a = guard_truth path s ∙ (λ i. on i && not (a.gone_is i))

  -- ---- a call that counts

  pub land : (q : ℕ) (callee : CoreProc) (ps : List Spot) (es : List CoreExpr) → slice_get P.procs q ≡ Some callee → AreSpotsOf S ps (sorts_of callee.outs) → (k : ℕ) (path : Tree) (s : State) (st : Store Value) → truth v path ≡ true
      → (outs globals : List Value) (flag : Bool) → map (value v) (site_of C k path callee q es s).outs ≡ outs → set_all st.globals callee.modifies (map (value v) (changed P k callee)) ≡ globals → truth v (site_of C k path callee q es s).flag ≡ flag
      → SiteHolds P calls v (site_of C k path callee q es s) → Here s st false false → Here (call C k path (Some callee) ps q es s) (write_all (record { slots = st.slots; globals = globals }) ps outs) flag flag
  land q callee ps es found spots k path s st on outs globals flag outs_are globals_are flag_is holds a =
      let site = site_of C k path callee q es s in
      let up = guard_on path s st on a in
      let ms = callee.modifies in
      let news = changed P k callee in
      let taken : Store Value = record { slots = st.slots; globals = globals } in
      let first : map_store (value v) (assign site.guard s.store (map Global ms) news) ≡ taken =
      assign_on v S site.guard up (map Global ms) news (modified_sorts P callee) (modified-spots P p ms (formed.procs q callee found).modifies) (symbols-sort (k + length callee.outs) (modified_sorts P callee)) s.store st a.sorts a.store
      ∙ write-globals ms (map (value v) news) st ∙ ap (λ (gs : List Value). record { slots = st.slots; globals = gs }) globals_are in
      let raised : truth v (and_of site.guard site.flag) ≡ flag = and_truth v site.guard site.flag ∙ (λ i. up i && flag_is i) in
      record {
        sorts = call-sorts C formed p k site.guard q callee ps s.store found spots a.sorts;
        store = assign_on v S site.guard up ps site.outs (sorts_of callee.outs) spots (symbols-sort k (sorts_of callee.outs)) (assign site.guard s.store (map Global ms) news) taken
            (changed-sorts C formed p k site.guard q callee s.store found a.sorts) first
            ∙ ap (write_all taken ps) outs_are;
        flag_is = or_truth v s.flag (and_of site.guard site.flag) ∙ (λ i. a.flag_is i || raised i);
        gone_is = or_truth v s.gone (and_of site.guard site.flag) ∙ (λ i. a.gone_is i || raised i);
        assumes = a.assumes;
        sites = all_push (SiteHolds P calls v) s.sites site a.sites holds;
      }

  -- ---- where the run isn't, nothing happens

  idle_call : (q : ℕ) (callee : CoreProc) (ps : List Spot) (es : List CoreExpr) → slice_get P.procs q ≡ Some callee → AreSpotsOf S ps (sorts_of callee.outs) → (k : ℕ) (path : Tree) (s : State) (st : Store Value) (f g : Bool) → (truth v path && not g) ≡ false → Here s st f g
      → Here (call C k path (Some callee) ps q es s) st f g
  idle_call q callee ps es found spots k path s st f g off a =
      let site = site_of C k path callee q es s in
      let down = guard_off path s st f g off a in
      let ms = callee.modifies in
      let news = changed P k callee in
      let first =
      assign_off v S site.guard down (map Global ms) news (modified_sorts P callee) (modified-spots P p ms (formed.procs q callee found).modifies) (symbols-sort (k + length callee.outs) (modified_sorts P callee)) s.store st a.sorts a.store in
      let raised : truth v (and_of site.guard site.flag) ≡ false = and_truth v site.guard site.flag ∙ ap (λ (b : Bool). b && truth v site.flag) down in
      record {
        sorts = call-sorts C formed p k site.guard q callee ps s.store found spots a.sorts;
        store = assign_off v S site.guard down ps site.outs (sorts_of callee.outs) spots (symbols-sort k (sorts_of callee.outs)) (assign site.guard s.store (map Global ms) news) st
            (changed-sorts C formed p k site.guard q callee s.store found a.sorts) first;
        flag_is = or_truth v s.flag (and_of site.guard site.flag) ∙ or_off (truth v s.flag) (truth v (and_of site.guard site.flag)) raised ∙ a.flag_is;
        gone_is = or_truth v s.gone (and_of site.guard site.flag) ∙ or_off (truth v s.gone) (truth v (and_of site.guard site.flag)) raised ∙ a.gone_is;
        assumes = a.assumes;
        sites = all_push (SiteHolds P calls v) s.sites site a.sites (λ up. cc);
      }

  mutual
    pub idle : (t : CoreStmt) → IsFormed P p t → (k : ℕ) (path : Tree) (s : State) (st : Store Value) (f g : Bool) → (truth v path && not g) ≡ false → Here s st f g → Here (step C t k path s) st f g
    idle (Assign ps es) is k path s st f g off a =
        let ts = map (term_in F s.store) es in
        let typed = all-sorts F S s.store es is.0 a.sorts is.1 in
        record {
          sorts = assign-sorts S (guard_of path s) ps ts is.0 s.store is.2.sorts typed a.sorts;
          store = assign_off v S (guard_of path s) (guard_off path s st f g off a) ps ts is.0 is.2.sorts typed s.store st a.sorts a.store;
          flag_is = a.flag_is;
          gone_is = a.gone_is;
          assumes = a.assumes;
          sites = a.sites;
        }
    idle (If' c n x m y) is k path s st f g off a =
        let c' = term_in F s.store c in
        let off1 = ap (λ (b : Bool). b && not g) (and_truth v path c') ∙ and_off (truth v path) (truth v c') g off in
        let off2 = ap (λ (b : Bool). b && not g) (and_truth v path (not_of c')) ∙ and_off (truth v path) (truth v (not_of c')) g off in
        idle_row y is.2 (k + row_count C x) (and_of path (not_of c')) (steps C x k (and_of path c') s) st f g off2 (idle_row x is.1 k (and_of path c') s st f g off1 a)
    idle (Call ps q es) is k path s st f g off a =
        subst (λ (o : Option CoreProc). Here (call C k path o ps q es s) st f g) (sym is.found) (idle_call q is.callee ps es is.found is.outs.sorts k path s st f g off a)
    idle (Assume c) is k path s st f g off a =
        let guard = guard_of path s in
        let c' = term_in F s.store c in
        let holds : truth v (or_of (not_of guard) c') ≡ true =
        or_truth v (not_of guard) c' ∙ ap (λ (b : Bool). b || truth v c') (not_truth v guard ∙ ap not (guard_off path s st f g off a)) in
        record {
          sorts = a.sorts;
          store = a.store;
          flag_is = a.flag_is;
          gone_is = a.gone_is;
          assumes = assumes_push v s.assumes (or_of (not_of guard) c') ∙ and_from (all_true v s.assumes) (truth v (or_of (not_of guard) c')) a.assumes holds;
          sites = a.sites;
        }
    idle Fail is k path s st f g off a =
        let down = guard_off path s st f g off a in
        record {
          sorts = a.sorts;
          store = a.store;
          flag_is = or_truth v s.flag (guard_of path s) ∙ or_off (truth v s.flag) (truth v (guard_of path s)) down ∙ a.flag_is;
          gone_is = or_truth v s.gone (guard_of path s) ∙ or_off (truth v s.gone) (truth v (guard_of path s)) down ∙ a.gone_is;
          assumes = a.assumes;
          sites = a.sites;
        }
    idle Return is k path s st f g off a =
        record {
          sorts = a.sorts;
          store = a.store;
          flag_is = a.flag_is;
          gone_is = or_truth v s.gone (guard_of path s) ∙ or_off (truth v s.gone) (truth v (guard_of path s)) (guard_off path s st f g off a) ∙ a.gone_is;
          assumes = a.assumes;
          sites = a.sites;
        }

    pub idle_row : {n : _} (ts : Row_of-CoreStmt n) → AreFormed P p ts → (k : ℕ) (path : Tree) (s : State) (st : Store Value) (f g : Bool) → (truth v path && not g) ≡ false → Here s st f g → Here (steps C ts k path s) st f g
    idle_row end_of-CoreStmt is k path s st f g off a = a
    idle_row (more_of-CoreStmt t ts) is k path s st f g off a = idle_row ts is.1 (k + count C t) path (step C t k path s) st f g off (idle t is.0 k path s st f g off a)

  pub idle_all : (ts : List CoreStmt) → AllFormed P p ts → (k : ℕ) (path : Tree) (s : State) (st : Store Value) (f g : Bool) → (truth v path && not g) ≡ false → Here s st f g → Here (all_steps C ts k path s) st f g
  idle_all [] is k path s st f g off a = a
  idle_all (t ∷ ts) is k path s st f g off a = idle_all ts is.1 (k + count C t) path (step C t k path s) st f g off (idle t is.0 k path s st f g off a)

  -- after a run
  pub then_idle : (s s1 : State) (path : Tree) (out : Step) → ((st : Store Value) (f g : Bool) → (truth v path && not g) ≡ false → Here s st f g → Here s1 st f g) → ((g : Bool) → (truth v path && not g) ≡ false) → After P calls v S s out → After P calls v S s1 out
  then_idle s s1 path (Goes st) idles off a = idles st false false (off false) a
  then_idle s s1 path (Stops st flag) idles off a = idles st flag true (off true) a
  then_idle s s1 path Blocks idles off a = tt
  then_idle s s1 path Lacks idles off a = tt

  -- ---- conditions

  pub holds_is : (I : Interpretation) → Reads F v I → (s : State) (st : Store Value) (c : CoreExpr) (f g : Bool) → HasType F S c BoolSort → Here s st f g → truth v (term_in F s.store c) ≡ truth_of (value_in I st c)
  holds_is I reads s st c f g h a = ap truth_of (term-value F v I reads S s.store c BoolSort a.sorts h ∙ ap (λ (x : Store Value). value_in I x c) a.store)

  -- ---- the beginning and the end

  starts_value : (I : Interpretation) → Reads F v I → (xs : List Var) → map (value v) (map (λ x. leaf (head.Start x.sort)) xs) ≡ map (λ x. I.start x.sort) xs
  starts_value I reads [] = refl
  starts_value I reads (x ∷ xs) = λ i. reads.starts x.sort i ∷ starts_value I reads xs i

  pub begins : (I : Interpretation) → Reads F v I → (in_terms global_terms : List Tree) (ins globals : List Value) → AreInputTerms P p in_terms global_terms → map (value v) in_terms ≡ ins → map (value v) global_terms ≡ globals
      → Here (begun p in_terms global_terms) (enter I.start p ins globals) false false
  begins I reads in_terms global_terms ins globals fit a b =
      let outs = map (λ x. leaf (head.Start x.sort)) p.outs in
      let locals = map (λ x. leaf (head.Start x.sort)) p.locals in
      let all : map (value v) (in_terms ++ (outs ++ locals)) ≡ ins ++ (map (λ x. I.start x.sort) p.outs ++ map (λ x. I.start x.sort) p.locals) =
      map-append (value v) in_terms (outs ++ locals) ∙ (λ i. a i ++ (map-append (value v) outs locals ∙ (λ j. starts_value I reads p.outs j ++ starts_value I reads p.locals j)) i) in
      record {
        sorts = begun-sorts P p in_terms global_terms fit.ins_sorted fit.globals_sorted;
        store = λ i. record { slots = all i; globals = b i };
        flag_is = refl;
        gone_is = refl;
        assumes = refl;
        sites = tt;
      }

  reads_value : (st : Store Tree) (ps : List Spot) → map (value v) (map (read nothing st) ps) ≡ map (read core.nothing (map_store (value v) st)) ps
  reads_value st [] = refl
  reads_value st (q ∷ ps) = λ i. read_map (value v) nothing st q i ∷ reads_value st ps i

  pub outs-value : (s : State) (st : Store Value) → map_store (value v) s.store ≡ st → map (value v) (outs_of p s) ≡ core.outs_of p st
  outs-value s st e = reads_value s.store (out_spots p) ∙ ap (core.outs_of p) e
