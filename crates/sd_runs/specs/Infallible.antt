-- Procedures that never raise their flag.
use Rattle.std.specs.Prelude.{◌≡◌, ℕ, zero, suc, ◌<◌, Bool, true, false, not, ◌&&◌, List, Option, Some, None, length, slice_get, get_or, nat_lt}
use Rattle.std.specs.List.{AllByRecursion, list_all}
use Rattle.sd_core.specs.declared.CoreProc.{CoreProc}
use Rattle.sd_runs.specs.Calls.{callees_of, any_fail}

-- a body without a failure, which calls procedures of this set alone
pub record IsInfallibleBody (infallible : ℕ → Bool) (p : CoreProc) : Type 0 where
  pub no_fail : any_fail p.body ≡ false
  pub callees : AllByRecursion (λ q. infallible q ≡ true) (callees_of p.body)

-- a set of procedures with such bodies
abbrev pub IsInfallibleSet : List CoreProc → (ℕ → Bool) → Type 0
IsInfallibleSet procs infallible =
    (q : ℕ) (p : CoreProc) → infallible q ≡ true → slice_get procs q ≡ Some p → IsInfallibleBody infallible p

-- a set of procedures: of places in the list
abbrev pub AreIn : List CoreProc → (ℕ → Bool) → Type 0
AreIn procs infallible = (q : ℕ) → infallible q ≡ true → q < length procs

-- the infallible procedures: the greatest set of procedures with such bodies
pub record AreTheInfallible (procs : List CoreProc) (infallible : ℕ → Bool) : Type 0 where
  pub is_set : IsInfallibleSet procs infallible
  pub are_in : AreIn procs infallible
  pub greatest : (other : ℕ → Bool) → IsInfallibleSet procs other → AreIn procs other
      → (q : ℕ) → other q ≡ true → infallible q ≡ true

-- whether the entry of a procedure is set
abbrev pub entry_at : List Bool → ℕ → Bool
entry_at entries q = get_or entries q false

-- ---- as a function of the procedures

-- whether this procedure has such a body
abbrev pub is_infallible_body : (ℕ → Bool) → Option CoreProc → Bool
is_infallible_body infallible None = false
is_infallible_body infallible (Some p) = not (any_fail p.body) && list_all infallible (callees_of p.body)

-- whether no failure, and no call of a place without procedure, is reached from a procedure within n calls inside one
-- another
abbrev pub infallible_within : List CoreProc → ℕ → ℕ → Bool
infallible_within procs zero q = nat_lt q (length procs)
infallible_within procs (suc n) q = is_infallible_body (infallible_within procs n) (slice_get procs q)

-- the infallible procedures: those from which none is reached within as many calls as there are procedures
unfoldable pub infallible_of : List CoreProc → ℕ → Bool
infallible_of procs q = infallible_within procs (length procs) q
