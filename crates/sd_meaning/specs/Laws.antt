-- What holds of every program, meaning, procedure and input.
use Rattle.std.specs.Prelude.{◌≡◌, ◌≢◌, ℕ, ◌≤◌, List}
use Rattle.sd_base.specs.Value.{Text, Value}
use Rattle.sd_base.specs.Meaning.{Meaning}
use Rattle.sd_ast.specs.declared.Program.{Program}
use Rattle.sd_meaning.specs.Evaluate.{Store}
use Rattle.sd_meaning.specs.Run.{Outcome, run}

-- A run that is not unfinished is the same with more steps.
abbrev pub MoreStepsSameEnd : Type 0
MoreStepsSameEnd =
    (P : Program) (M : Meaning) (m n : ℕ) (f : Text) (ins : List Value) (globals : Store) → m ≤ n →
    run P M m f ins globals ≢ Outcome.Unfinished → run P M n f ins globals ≡ run P M m f ins globals

-- Two numbers of steps that both end give the same end.
abbrev pub OneEnd : Type 0
OneEnd =
    (P : Program) (M : Meaning) (m n : ℕ) (f : Text) (ins : List Value) (globals : Store) →
    run P M m f ins globals ≢ Outcome.Unfinished → run P M n f ins globals ≢ Outcome.Unfinished →
    run P M m f ins globals ≡ run P M n f ins globals
