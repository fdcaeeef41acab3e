-- The property that `safe` denies.
use Rattle.std.specs.Prelude.{◌≡◌, ℕ, List}
use Rattle.sd_base.specs.Value.{Text, Value}
use Rattle.sd_ast.specs.declared.Program.{Program}
use Rattle.sd_base.specs.Meaning.{Meaning}
use Rattle.sd_meaning.specs.Evaluate.{Store}
use Rattle.sd_meaning.specs.Run.{Ended, Outcome, run}
use Rattle.sd_meaning.specs.Inputs.{IsMeaning, SameInput}

-- From equal inputs the old f ends without a failed assertion, and the new g fails one.
pub record NewFailure (P Q : Program) (f g : Text) : Type 0 where
  pub M : Meaning
  pub is_meaning : IsMeaning P Q M
  pub ins : List Value
  pub ins' : List Value
  pub globals : Store
  pub globals' : Store
  pub same_input : SameInput P Q f g ins globals ins' globals'
  pub old_steps : ℕ
  pub new_steps : ℕ
  pub outs : List Value
  pub globals_after : Store
  pub old_ends : run P M old_steps f ins globals ≡ Ended outs globals_after
  pub new_fails : run Q M new_steps g ins' globals' ≡ Outcome.Failed
