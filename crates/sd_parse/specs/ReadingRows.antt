-- What the readers of lists give.
use Rattle.std.specs.Prelude.{Bool, List, [], ◌∷◌, ◌++◌}
use Rattle.sd_base.specs.Value.{Text}
use Rattle.sd_parse.specs.declared.class.TokenClass.{TokenClass}
use Rattle.sd_parse.specs.declared.class.TokenClass.TheVariants as s
use Rattle.sd_parse.specs.TokenClasses.{same_class}
use Rattle.sd_parse.specs.Reading.{Reader, ◌>>=◌, pure, look, skip, class_of, want, name, all}

-- one more at the end
abbrev pub push : {A : Type 0} → List A → A → List A
push xs x = xs ++ x ∷ []

abbrev pub join_lists : {A : Type 0} → List A → List A → List A
join_lists xs ys = xs ++ ys

-- what is read leaves nothing
abbrev pub keep : {A B : Type 0} → B → A → B
keep y x = y

-- whether the second class is the first
abbrev pub is : TokenClass → TokenClass → Bool
is x y = same_class y x

module _ {A : Type 0} (item : Reader A) where
  -- an item after a comma
  unfoldable pub next : Reader A
  next = skip >>= λ _. item

  -- the items that follow those of xs, each after a comma
  unfoldable pub more : List A → Reader (List A)
  more xs = all (is s.Comma) next push xs

  -- items with commas between them
  unfoldable pub commas : Reader (List A)
  commas = item >>= λ x. more (x ∷ [])

  abbrev pub listed_by : TokenClass → Reader (List A)
  listed_by s.Close = skip >>= λ _. pure []
  listed_by _ = commas >>= λ xs. want s.Close >>= λ _. pure xs

  -- items up to the parenthesis that closes
  unfoldable pub listed : Reader (List A)
  listed = look (λ t. listed_by (class_of t))

  unfoldable pub enclosed : Reader (List A)
  enclosed = want s.Open >>= λ _. listed

-- a name, without its place
unfoldable pub plain_name : Reader Text
plain_name = name >>= λ x. pure x.0

abbrev pub names : Reader (List Text)
names = commas plain_name
