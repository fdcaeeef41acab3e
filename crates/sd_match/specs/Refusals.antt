-- When two programs can't be compared.
use Rattle.std.specs.Prelude.{◌≡◌, ℕ, suc, Bool, true, false, not, ◌&&◌, List, [], ◌∷◌, Option, Some, None, if◌then◌else◌}
use Rattle.std.specs.Bool.{beq}
use Rattle.sd_base.specs.declared.Var.{Var}
use Rattle.sd_base.specs.declared.Sort.{Sort}
use Rattle.sd_base.specs.Value.{Text, same_text}
use Rattle.sd_core.specs.declared.Function.{Function}
use Rattle.sd_core.specs.declared.CoreProgram.{CoreProgram}
use Rattle.sd_core.specs.Formed.{same_sort, declared_as}
use Rattle.sd_match.specs.declared.refusal.MatchError.{MatchError}
use Rattle.sd_match.specs.declared.refusal.MatchError.TheVariants.{NoMemory, GlobalTypes, FunctionSignatures}

-- the type of the first variable of this name
abbrev pub sort_named : List Var → Text → Option Sort
sort_named [] f = None
sort_named (y ∷ ys) f = if same_text f y.name then Some y.sort else sort_named ys f

abbrev pub is_other_sort : Sort → Option Sort → Bool
is_other_sort s None = false
is_other_sort s (Some t) = not (same_sort s t)

-- the first global, in the order of the old program, that the new one declares with another type
abbrev pub retyped_global : List Var → List Var → Option Text
retyped_global [] news = None
retyped_global (x ∷ olds) news =
    if is_other_sort x.sort (sort_named news x.name) then Some x.name else retyped_global olds news

-- the types agree by position
abbrev pub all_same_sorts : List Sort → List Sort → Bool
all_same_sorts [] [] = true
all_same_sorts (s ∷ ss) (t ∷ ts) = same_sort s t && all_same_sorts ss ts
all_same_sorts _ _ = false

abbrev pub is_other_function : Function → Option Function → Bool
is_other_function g None = false
is_other_function g (Some h) = not (all_same_sorts g.args h.args && same_sort g.result h.result)

-- the first function or constant, in the order of the old program, that the new one declares with another signature
abbrev pub retyped_function : List Function → List Function → Option Text
retyped_function [] news = None
retyped_function (g ∷ olds) news =
    if is_other_function g (declared_as g.constant news g.name) then Some g.name else retyped_function olds news

-- ---- answers

pub data Refusal : Type 0 where
  global_types : Text → Refusal
  function_signatures : Text → Refusal

abbrev pub refusal_by : Option Text → Option Text → Option Refusal
refusal_by (Some x) f = Some (global_types x)
refusal_by None (Some f) = Some (function_signatures f)
refusal_by None None = None

-- Globals come first.
abbrev pub refusal_of : CoreProgram → CoreProgram → Option Refusal
refusal_of P Q = refusal_by (retyped_global P.globals Q.globals) (retyped_function P.functions Q.functions)

-- the error of a call that tells this refusal, unless memory ran out
abbrev pub Answers : MatchError → Option Refusal → Type 0
Answers NoMemory refusal = Unit {0}
Answers (GlobalTypes x) refusal = refusal ≡ Some (global_types x)
Answers (FunctionSignatures f) refusal = refusal ≡ Some (function_signatures f)

-- the place of the function, or of the constant, of this name, where places are counted from n on
abbrev pub function_from : (constant : Bool) → ℕ → List Function → Text → Option ℕ
function_from constant n [] f = None
function_from constant n (g ∷ gs) f =
    if beq g.constant constant && same_text f g.name then Some n else function_from constant (suc n) gs f
