-- Names without repetition, as code collects them.
use Rattle.std.specs.Prelude.{◌≡◌, ℕ, List, [], ◌∷◌, ◌++◌, Option, if◌then◌else◌}
use Rattle.std.specs.Option.{is_some}
use Rattle.sd_base.specs.Value.{Text}
use Rattle.sd_ast.specs.declared.Spec.{Spec}
use Rattle.sd_ast.specs.declared.Spec.TheVariants.{Modifies}
use Rattle.sd_extract.specs.Extract.{is_among}

-- the table has the names of the list
abbrev pub HasSeen : (Text → Option ℕ) → List Text → Type 0
HasSeen table names = (x : Text) → is_some (table x) ≡ is_among x names

abbrev pub with_new : List Text → Text → List Text
with_new names x = if is_among x names then names else names ++ x ∷ []

abbrev pub all_new : List Text → List Text → List Text
all_new names [] = names
all_new names (x ∷ xs) = all_new (with_new names x) xs

abbrev pub specs_new : List Text → List Spec → List Text
specs_new names [] = names
specs_new names (Modifies xs ∷ specs) = specs_new (all_new names xs) specs
specs_new names (_ ∷ specs) = specs_new names specs
