-- What the readers of attributes and claims give.
use Rattle.std.specs.Prelude.{ℕ}
use Rattle.sd_base.specs.declared.Place.{Place}
use Rattle.sd_ast.specs.declared.Expr.{Expr}
use Rattle.sd_parse.specs.declared.class.TokenClass.{TokenClass}
use Rattle.sd_parse.specs.declared.class.TokenClass.TheVariants as s
use Rattle.sd_parse.specs.Grammar.{Whole}
use Rattle.sd_parse.specs.Reading.{Reader, ◌>>=◌, pure, look, skip, class_of, want, name, all, read}
use Rattle.sd_parse.specs.ReadingRows.{is, keep}

-- an expression alone, of height d at most
unfoldable pub expression : ℕ → Reader Expr
expression d = read d Whole >>= λ e. pure e.0

-- Attributes, of which each expression has the height limit at most. They leave nothing.
module _ (limit : ℕ) where
  abbrev pub datum_by : TokenClass → Reader (Unit {0})
  datum_by s.Text = skip >>= λ _. pure tt
  datum_by _ = expression limit >>= λ _. pure tt

  unfoldable pub datum : Reader (Unit {0})
  datum = look (λ t. datum_by (class_of t))

  unfoldable pub next_datum : Reader (Unit {0})
  next_datum = skip >>= λ _. datum

  unfoldable pub more_data : Reader (Unit {0})
  more_data = all (is s.Comma) next_datum keep tt

  abbrev pub contents_by : TokenClass → Reader (Unit {0})
  contents_by s.CloseBrace = pure tt
  contents_by _ = datum >>= λ _. more_data

  unfoldable pub contents : Reader (Unit {0})
  contents = look (λ t. contents_by (class_of t))

  unfoldable pub attribute : Reader (Unit {0})
  attribute = skip >>= λ _. name >>= λ _. contents >>= λ _. want s.CloseBrace >>= λ _. pure tt

  unfoldable pub attributes : Reader (Unit {0})
  attributes = all (is s.OpenAttribute) attribute keep tt

  -- a claim whose expression has the height d at most
  unfoldable pub claim : ℕ → TokenClass → Reader (Place × Expr)
  claim d word = want word >>= λ p. attributes >>= λ _. expression d >>= λ e. want s.Semi >>= λ _. pure (p, e)
