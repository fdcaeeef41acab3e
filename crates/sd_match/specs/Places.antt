-- Things by their names.
use Rattle.std.specs.Prelude.{List, [], ◌∷◌, map, Option, Some, None, if◌then◌else◌}
use Rattle.sd_base.specs.Value.{Text, same_text}
use Rattle.sd_core.specs.declared.CoreProc.{CoreProc}

abbrev pub proc_names : List CoreProc → List Text
proc_names = map (λ p. p.name)

-- the first thing of this name, where each has one
abbrev pub first_named : {A : Type 0} → (A → Text) → List A → Text → Option A
first_named name [] f = None
first_named name (x ∷ xs) f = if same_text f (name x) then Some x else first_named name xs f

-- the first procedure of this name
abbrev pub proc_named : List CoreProc → Text → Option CoreProc
proc_named = first_named (λ p. p.name)
