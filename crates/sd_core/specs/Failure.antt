-- New failures of core programs.
use Rattle.std.specs.Prelude.{◌≡◌, ℕ, suc, true, false, ◌&&◌, List, [], ◌∷◌, ◌++◌, Option, Some, None, get_or, slice_get, if◌then◌else◌}
use Rattle.std.specs.List.{AllByRecursion}
use Rattle.sd_base.specs.declared.sort.Var.{Var}
use Rattle.sd_base.specs.Value.{same_text, Value}
use Rattle.sd_base.specs.Meaning.{Meaning}
use Rattle.sd_core.specs.declared.tree.CoreProc.{CoreProc}
use Rattle.sd_core.specs.declared.tree.CoreProgram.{CoreProgram}
use Rattle.sd_core.specs.declared.tree.Shared.{Shared}
use Rattle.sd_core.specs.Run.{nothing, Ended, flag_run}
use Rattle.sd_core.specs.Interpretation.{core_interpretation}
use Rattle.sd_base.specs.Sorts.{same_sort}
use Rattle.sd_core.specs.Formed.{sorts_of}
use Rattle.sd_core.specs.Meanings.{HaveSorts, IsMeaningOf}

-- ---- shared globals

-- the place of a variable of this name and type, where places are counted from n on
abbrev pub place_from : ℕ → List Var → Var → Option ℕ
place_from n [] x = None
place_from n (y ∷ ys) x = if same_text x.name y.name && same_sort x.sort y.sort then Some n else place_from (suc n) ys x

abbrev pub shared_at : ℕ → Option ℕ → List Shared
shared_at old None = []
shared_at old (Some new) = record { old = old; new = new } ∷ []

abbrev pub shared_from : ℕ → List Var → List Var → List Shared
shared_from n [] news = []
shared_from n (x ∷ olds) news = shared_at n (place_from 0 news x) ++ shared_from (suc n) olds news

-- the globals that both programs declare with one name and type, in the order of the old program
abbrev pub shared_of : List Var → List Var → List Shared
shared_of = shared_from 0

-- ---- inputs

-- typed inputs of a procedure
pub record IsInputOf (P : CoreProgram) (p : CoreProc) (ins globals : List Value) : Type 0 where
  pub ins_typed : HaveSorts (sorts_of p.ins) ins
  pub globals_typed : HaveSorts (sorts_of P.globals) globals

-- The in-parameters are equal by position, and so are the shared globals.
pub record AreEqualInputs (P Q : CoreProgram) (ins globals ins' globals' : List Value) : Type 0 where
  pub same_ins : ins ≡ ins'
  pub same_globals : AllByRecursion (λ s. get_or globals s.old nothing ≡ get_or globals' s.new nothing)
      (shared_of P.globals Q.globals)

-- From equal inputs procedure i of the old program ends with its flag down, and procedure j of the new one with its
-- flag up.
pub record NewFailureOf (P Q : CoreProgram) (i j : ℕ) : Type 0 where
  pub M : Meaning
  pub old_meaning : IsMeaningOf P M
  pub new_meaning : IsMeaningOf Q M
  pub old : CoreProc
  pub new : CoreProc
  pub old_found : slice_get P.procs i ≡ Some old
  pub new_found : slice_get Q.procs j ≡ Some new
  pub ins : List Value
  pub globals : List Value
  pub ins' : List Value
  pub globals' : List Value
  pub old_input : IsInputOf P old ins globals
  pub new_input : IsInputOf Q new ins' globals'
  pub equal : AreEqualInputs P Q ins globals ins' globals'
  pub old_calls : ℕ
  pub new_calls : ℕ
  pub outs : List Value
  pub after : List Value
  pub outs' : List Value
  pub after' : List Value
  pub old_ends : flag_run (core_interpretation P M) P.procs old_calls i ins globals ≡ Ended outs after false
  pub new_fails : flag_run (core_interpretation Q M) Q.procs new_calls j ins' globals' ≡ Ended outs' after' true
