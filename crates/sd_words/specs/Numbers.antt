-- Numbers among the words.
use Rattle.std.specs.Prelude.{ℕ, Bool, false, not, ◌==◌, ◌&&◌, nat_le, List, [], ◌∷◌, Option, None, Some, if◌then◌else◌}
use Rattle.std.specs.Char.{is_ascii_digit}
use Rattle.std.specs.List.{list_all}
use Rattle.std.specs.Str.Parse.{digits_value}

-- decimal digits, of which the first isn't 0
abbrev pub is_numeral : List ℕ → Bool
is_numeral [] = false
is_numeral (first ∷ digits) = not (first == 48) && list_all is_ascii_digit (first ∷ digits)

-- the number that a word spells, if it is at most `most`
abbrev pub number_to : ℕ → List ℕ → Option ℕ
number_to most word =
    if is_numeral word && nat_le (digits_value 10 word) most then Some (digits_value 10 word) else None
