-- What every run keeps: the types of values, and the globals that its procedure may not modify.
use Rattle.std.specs.Prelude.{◌≡◌, ℕ, Bool, List, map, get_or, Some, slice_get}
use Rattle.sd_base.specs.Value.{Value}
use Rattle.sd_core.specs.declared.CoreProc.{CoreProc}
use Rattle.sd_core.specs.declared.CoreProgram.{CoreProgram}
use Rattle.sd_core.specs.Store.{set_all}
use Rattle.sd_core.specs.Run.{Calls, Ended, nothing}
use Rattle.sd_core.specs.Formed.{sorts_of}
use Rattle.sd_core.specs.Meanings.{HaveSorts}

-- what stands in these globals
abbrev pub at_all : List Value → List ℕ → List Value
at_all globals places = map (λ i. get_or globals i nothing) places

-- how a run that began with these globals may end
pub record EndFits (P : CoreProgram) (p : CoreProc) (globals outs after : List Value) : Type 0 where
  pub outs_fit : HaveSorts (sorts_of p.outs) outs
  pub globals_fit : HaveSorts (sorts_of P.globals) after
  -- they are the globals from before, with others where it may modify them
  pub others : set_all globals p.modifies (at_all after p.modifies) ≡ after

-- each call from values of the declared types ends so
pub record KeepsCalls (P : CoreProgram) (calls : Calls) : Type 0 where
  pub by : (q : ℕ) (p : CoreProc) (ins globals outs after : List Value) (flag : Bool) → slice_get P.procs q ≡ Some p
      → HaveSorts (sorts_of p.ins) ins → HaveSorts (sorts_of P.globals) globals
      → calls q ins globals ≡ Ended outs after flag → EndFits P p globals outs after
