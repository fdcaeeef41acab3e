-- What a table of first places tells.
use Rattle.std.specs.Prelude.{ℕ, Option}
use Rattle.std.specs.HashMap.{get}
use Rattle.sd_base.specs.declared.place.FirstPlaces.{FirstPlaces}
use Rattle.sd_base.specs.Value.{Text, same_text}

abbrev pub place_of : FirstPlaces → Text → Option ℕ
place_of table x = get same_text table.places x
