-- What a walk over two lists at once keeps.
use Rattle.std.proofs.Common.{ℕ, List, drop}
use Rattle.std.specs.Prelude.{◌↔◌}
use Rattle.std.specs.List.{AllZip}

-- after n turns the claim on both lists holds exactly if it holds of what is left of them
abbrev pub Left : {A B : Type 0} → (A → B → Type 0) → List A → List B → ℕ → Type 0
Left R us vs n = AllZip R us vs ↔ AllZip R (drop n us) (drop n vs)
