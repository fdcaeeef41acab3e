-- Names in a set.
use Rattle.std.specs.Prelude.{◌≡◌, Bool, List}
use Rattle.std.specs.List.{list_any}
use Rattle.sd_base.specs.Value.{Text, same_text}

-- whether the name is one of these
abbrev pub is_among : List Text → Text → Bool
is_among names x = list_any (same_text x) names

-- the lists have the same names
abbrev pub HaveSame : List Text → List Text → Type 0
HaveSame xs ys = (q : Text) → is_among xs q ≡ is_among ys q
