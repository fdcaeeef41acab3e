-- Names in lists.
use Rattle.std.specs.Prelude.{ℕ, suc, List, [], ◌∷◌, Option, Some, None, if◌then◌else◌}
use Rattle.sd_base.specs.Value.{Text, same_text}

-- the first place of a name, where the list begins at this one
abbrev pub place_from : ℕ → List Text → Text → Option ℕ
place_from n [] x = None
place_from n (y ∷ ys) x = if same_text x y then Some n else place_from (suc n) ys x
