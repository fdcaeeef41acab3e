-- Names that are declared one after another.
use Rattle.std.specs.Prelude.{◌≡◌, List, [], ◌∷◌, ◌++◌, Option, Result, Ok, Err, is_some, if◌then◌else◌}
use Rattle.std.specs.Map.{lookup}
use Rattle.sd_base.specs.Value.{Text, same_text}
use Rattle.sd_types.specs.Names.{is_among}
use Rattle.sd_types.specs.Answer.{and_then}
use Rattle.sd_types.specs.declared.refusal.TypeError.{TypeError}
use Rattle.sd_types.specs.declared.refusal.TypeError.TheVariants.{Twice}

-- what a name stands for
abbrev pub named : {X : Type 0} → List (Text × X) → Text → Option X
named es x = lookup (same_text x) es

-- one more name, which must be none of those before
abbrev pub with_name : List Text → Text → Result (List Text) TypeError
with_name xs x = if is_among xs x then Err (Twice x) else Ok (xs ++ x ∷ [])

abbrev pub with_names : List Text → List Text → Result (List Text) TypeError
with_names seen [] = Ok seen
with_names seen (x ∷ xs) = and_then (with_name seen x) (λ more. with_names more xs)

-- one more name with what it stands for
abbrev pub with_entry : {X : Type 0} → List (Text × X) → Text → X → Result (List (Text × X)) TypeError
with_entry es x v = if is_some (named es x) then Err (Twice x) else Ok (es ++ (x, v) ∷ [])

abbrev pub with_entries : {X : Type 0} → List (Text × X) → List (Text × X) → Result (List (Text × X)) TypeError
with_entries es [] = Ok es
with_entries es (f ∷ fs) = and_then (with_entry es f.0 f.1) (λ more. with_entries more fs)

-- each name stands for the same in both
abbrev pub FindSame : {X : Type 0} → List (Text × X) → List (Text × X) → Type 0
FindSame es fs = (x : Text) → named es x ≡ named fs x
