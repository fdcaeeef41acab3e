-- What holds of all runs of core programs.
use Rattle.std.specs.Prelude.{◌≡◌, ◌⊎◌, ℕ, suc, Bool, true, false, List}
use Rattle.sd_base.specs.Value.{Value}
use Rattle.sd_base.specs.Meaning.{Meaning, Interpretation}
use Rattle.sd_core.specs.declared.CoreProc.{CoreProc}
use Rattle.sd_core.specs.declared.CoreProgram.{CoreProgram}
use Rattle.sd_core.specs.Run.{Ended, Unfinished, calls_within}
use Rattle.sd_core.specs.Interpretation.{core_interpretation}
use Rattle.sd_core.specs.Formed.{WellFormed}
use Rattle.sd_core.specs.Meanings.{IsMeaningOf}
use Rattle.sd_runs.specs.Kept.{KeepsCalls}
use Rattle.sd_runs.specs.Infallible.{IsInfallibleSet, AreTheInfallible, infallible_of}

-- Runs of a well formed program keep types, and the globals that they may not modify, whatever the bound.
abbrev pub RunsKeep : Type 0
RunsKeep =
    (P : CoreProgram) (M : Meaning) → WellFormed P → IsMeaningOf P M →
    (n : ℕ) → KeepsCalls P (calls_within (core_interpretation P M) P.procs n)

-- A call that isn't unfinished comes to the same with one more call inside each other.
abbrev pub MoreCalls : Type 0
MoreCalls =
    (I : Interpretation) (procs : List CoreProc) (n q : ℕ) (ins globals : List Value) →
    (calls_within I procs n q ins globals ≡ Unfinished)
    ⊎ (calls_within I procs n q ins globals ≡ calls_within I procs (suc n) q ins globals)

-- An infallible procedure ends with its flag down.
abbrev pub InfallibleRuns : Type 0
InfallibleRuns =
    (I : Interpretation) (procs : List CoreProc) (infallible : ℕ → Bool) → IsInfallibleSet procs infallible →
    (n q : ℕ) (ins globals outs after : List Value) (flag : Bool) →
    infallible q ≡ true → calls_within I procs n q ins globals ≡ Ended outs after flag → flag ≡ false

-- The infallible procedures are the greatest such set.
abbrev pub InfallibleAreGreatest : Type 0
InfallibleAreGreatest = (procs : List CoreProc) → AreTheInfallible procs (infallible_of procs)

-- There is one such set.
abbrev pub InfallibleAreOne : Type 0
InfallibleAreOne =
    (procs : List CoreProc) (infallible other : ℕ → Bool) → AreTheInfallible procs infallible →
    AreTheInfallible procs other → infallible ≡ other
