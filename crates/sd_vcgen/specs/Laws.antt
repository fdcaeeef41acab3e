-- What the terms of a body have to do with its runs.
use Rattle.std.specs.Prelude.{◌≡◌, ℕ, suc, Bool, true, false, ◌&&◌, List, [], ◌∷◌, ◌++◌, map, length, Some, slice_get}
use Rattle.std.specs.List.{AllByRecursion, flat_map}
use Rattle.sd_base.specs.declared.Sort.{Sort, Bool as BoolSort}
use Rattle.sd_base.specs.Value.{Text, Value}
use Rattle.sd_base.specs.Cast.{cast}
use Rattle.sd_base.specs.Meaning.{Interpretation, Meaning, interpretation, truth_of}
use Rattle.sd_core.specs.declared.CoreProc.{CoreProc}
use Rattle.sd_core.specs.declared.Function.{Function}
use Rattle.sd_core.specs.declared.CoreProgram.{CoreProgram}
use Rattle.sd_core.specs.Run.{Calls, Ended, run_proc, calls_within}
use Rattle.sd_core.specs.Formed.{WellFormed, declared_as, sorts_of}
use Rattle.sd_core.specs.Meanings.{HaveSorts, IsMeaningOf}
use Rattle.sd_runs.specs.Infallible.{IsInfallibleSet}
use Rattle.sd_term.specs.Tree.{Tree}
use Rattle.sd_term.specs.Sorts.{sort_of, AllWellSorted}
use Rattle.sd_term.specs.Truth.{Valuation, value}
use Rattle.sd_vcgen.specs.Body.{Site, State, Context, count_all, body_of, outs_of}

-- types, constants and functions stand for the same under the valuation
pub record Reads (F : List Function) (v : Valuation) (I : Interpretation) : Type 0 where
  pub starts : (s : Sort) → cast s (v.by.start s) ≡ I.start s
  pub constants : (c : Text) (g : Function) → declared_as true F c ≡ Some g →
      cast g.result (v.by.constant c) ≡ I.constant c
  pub functions : (f : Text) (g : Function) (xs : List Value) → declared_as false F f ≡ Some g → HaveSorts g.args xs →
      cast g.result (v.by.apply f xs) ≡ I.apply f xs

abbrev pub truth : Valuation → Tree → Bool
truth v t = truth_of (value v t)

abbrev pub all_true : Valuation → List Tree → Bool
all_true v [] = true
all_true v (t ∷ ts) = truth v t && all_true v ts

-- ---- a valuation as a run

-- the symbols from k on have these values
abbrev pub Carries : Valuation → ℕ → List Value → Type 0
Carries v k [] = Unit {0}
Carries v k (x ∷ xs) = (v.symbol k ≡ x) × Carries v (suc k) xs

-- in-parameters and globals of the declared types
pub record InputsFit (P : CoreProgram) (q : ℕ) (ins globals : List Value) : Type 0 where
  pub ins_fit : (p : CoreProc) → slice_get P.procs q ≡ Some p → HaveSorts (sorts_of p.ins) ins
  pub globals_fit : HaveSorts (sorts_of P.globals) globals

-- the call ends as its terms say
pub record CallIs (P : CoreProgram) (calls : Calls) (v : Valuation) (site : Site) : Type 0 where
  pub fits : InputsFit P site.callee (map (value v) site.args) (map (value v) site.before)
  pub ends : calls site.callee (map (value v) site.args) (map (value v) site.before) ≡ Ended (map (value v) site.outs)
      (map (value v) site.after) (truth v site.flag)

-- where it counts
abbrev pub SiteHolds : CoreProgram → Calls → Valuation → Site → Type 0
SiteHolds P calls v site = truth v site.guard ≡ true → CallIs P calls v site

abbrev pub SitesHold : CoreProgram → Calls → Valuation → List Site → Type 0
SitesHold P calls v = AllByRecursion (SiteHolds P calls v)

-- the end that the terms of a body tell is this one
pub record Tells (v : Valuation) (p : CoreProc) (s : State) (outs after : List Value) (flag : Bool) : Type 0 where
  pub outs_are : map (value v) (outs_of p s) ≡ outs
  pub globals_are : map (value v) s.store.globals ≡ after
  pub flag_is : truth v s.flag ≡ flag

-- the valuation is an ended run of the body
pub record IsRun (P : CoreProgram) (calls : Calls) (v : Valuation) (p : CoreProc) (s : State)
    (outs after : List Value) (flag : Bool) : Type 0 where
  pub tells : Tells v p s outs after flag
  pub assumes : all_true v s.assumes ≡ true
  pub sites : SitesHold P calls v s.sites

-- terms that the inputs of a body stand for
pub record AreInputTerms (P : CoreProgram) (p : CoreProc) (in_terms global_terms : List Tree) : Type 0 where
  pub ins_sorted : map sort_of in_terms ≡ sorts_of p.ins
  pub globals_sorted : map sort_of global_terms ≡ sorts_of P.globals

-- Values for the symbols of the calls, with which every valuation is this run, wherever the numbers of the symbols
-- begin, and whichever terms the body begins with.
pub record HasLog (C : Context) (I : Interpretation) (calls : Calls) (p : CoreProc)
    (ins globals outs after : List Value) (flag : Bool) : Type 0 where
  pub log : List Value
  pub size : length log ≡ count_all C p.body
  pub by : (v : Valuation) (k : ℕ) (in_terms global_terms : List Tree) → Reads C.program.functions v I →
      Carries v k log → AreInputTerms C.program p in_terms global_terms → map (value v) in_terms ≡ ins →
      map (value v) global_terms ≡ globals →
      IsRun C.program calls v p (body_of C p k in_terms global_terms) outs after flag

-- Every ended run of a body is a valuation of its terms.
abbrev pub RunsAreValuations : Type 0
RunsAreValuations =
    (C : Context) (M : Meaning) → WellFormed C.program → IsMeaningOf C.program M →
    IsInfallibleSet C.program.procs C.infallible →
    (n q : ℕ) (p : CoreProc) → slice_get C.program.procs q ≡ Some p →
    (ins globals outs after : List Value) (flag : Bool) → InputsFit C.program q ins globals →
    run_proc (interpretation M) (calls_within (interpretation M) C.program.procs n) p ins globals ≡ Ended outs after
    flag →
    HasLog C (interpretation M) (calls_within (interpretation M) C.program.procs n) p ins globals outs after flag

-- A valuation with true assumptions, whose calls end as their terms say, is an ended run of the body.
abbrev pub ValuationsAreRuns : Type 0
ValuationsAreRuns =
    (C : Context) (M : Meaning) → WellFormed C.program → IsMeaningOf C.program M →
    (n q : ℕ) (p : CoreProc) → slice_get C.program.procs q ≡ Some p → (v : Valuation) →
    Reads C.program.functions v (interpretation M) →
    (k : ℕ) (in_terms global_terms : List Tree) → AreInputTerms C.program p in_terms global_terms →
    (outs after : List Value) (flag : Bool) →
    IsRun C.program (calls_within (interpretation M) C.program.procs n) v p (body_of C p k in_terms global_terms) outs
    after flag →
    run_proc (interpretation M) (calls_within (interpretation M) C.program.procs n) p (map (value v) in_terms)
    (map (value v) global_terms) ≡ Ended outs after flag

-- ---- types

-- the terms of a call have the types of what they stand for
pub record IsSortedSite (P : CoreProgram) (site : Site) : Type 0 where
  pub callee : CoreProc
  pub found : slice_get P.procs site.callee ≡ Some callee
  pub guard : sort_of site.guard ≡ BoolSort
  pub args : map sort_of site.args ≡ sorts_of callee.ins
  pub before : map sort_of site.before ≡ sorts_of P.globals
  pub outs : map sort_of site.outs ≡ sorts_of callee.outs
  pub after : map sort_of site.after ≡ sorts_of P.globals
  pub flag : sort_of site.flag ≡ BoolSort

-- so have the terms of a body
pub record AreSorted (P : CoreProgram) (p : CoreProc) (s : State) : Type 0 where
  pub outs : map sort_of (outs_of p s) ≡ sorts_of p.outs
  pub globals : map sort_of s.store.globals ≡ sorts_of P.globals
  pub flag : sort_of s.flag ≡ BoolSort
  pub assumes : AllByRecursion (λ t. sort_of t ≡ BoolSort) s.assumes
  pub sites : AllByRecursion (IsSortedSite P) s.sites

-- The terms of a body are sorted.
abbrev pub BodiesAreSorted : Type 0
BodiesAreSorted =
    (C : Context) (q : ℕ) (p : CoreProc) → WellFormed C.program → slice_get C.program.procs q ≡ Some p →
    (k : ℕ) (in_terms global_terms : List Tree) → AreInputTerms C.program p in_terms global_terms →
    AreSorted C.program p (body_of C p k in_terms global_terms)

-- every term of a call
abbrev pub site_terms : Site → List Tree
site_terms site = site.guard ∷ site.flag ∷ (site.args ++ (site.before ++ (site.outs ++ site.after)))

-- every term of a body
abbrev pub body_terms : CoreProc → State → List Tree
body_terms p s = s.flag ∷ (outs_of p s ++ (s.store.globals ++ (s.assumes ++ flat_map site_terms s.sites)))

-- They are well sorted, where the terms that the body begins with are.
abbrev pub BodiesAreWellSorted : Type 0
BodiesAreWellSorted =
    (C : Context) (q : ℕ) (p : CoreProc) → WellFormed C.program → slice_get C.program.procs q ≡ Some p →
    (k : ℕ) (in_terms global_terms : List Tree) → AreInputTerms C.program p in_terms global_terms →
    AllWellSorted in_terms → AllWellSorted global_terms →
    AllWellSorted (body_terms p (body_of C p k in_terms global_terms))
