-- What the reader of types gives.
use Rattle.std.specs.Prelude.{ℕ, zero, suc, Bool, true, false, if◌then◌else◌, Result}
use Rattle.std.specs.declared.alloc.Global.{Global}
use denote.Ref.{MutBor}
use Rattle.sd_base.specs.declared.Sort.{Sort}
use Rattle.sd_base.specs.declared.Sort.TheVariants as sort
use Rattle.sd_parse.specs.declared.class.TokenClass.{TokenClass}
use Rattle.sd_parse.specs.declared.class.TokenClass.TheVariants as s
use Rattle.sd_parse.specs.declared.cursor.Fault.{Fault as CodeFault}
use Rattle.sd_parse.specs.Grammar.{Tokens}
use Rattle.sd_parse.specs.Reading.{Syntax, Deep, Reader, ◌>>=◌, pure, bad, look, skip, class_of, want, name, deeper, Gives}

abbrev pub begins_type : TokenClass → Bool
begins_type s.Int = true
begins_type s.Bool = true
begins_type s.Name = true
begins_type s.OpenBracket = true
begins_type _ = false

-- The types of height d + 1 at most, from a reader of those of height d at most.
module _ (d : ℕ) (inner : Reader Sort) where
  unfoldable pub map_type : Reader Sort
  map_type = deeper d (skip >>= λ _. inner >>= λ a. want s.CloseBracket >>= λ _. inner >>= λ b. pure (sort.Map a b))

  abbrev pub type_by : TokenClass → Reader Sort
  type_by s.Int = skip >>= λ _. pure sort.Int
  type_by s.Bool = skip >>= λ _. pure sort.Bool
  type_by s.Name = name >>= λ x. pure (sort.Named x.0)
  type_by s.OpenBracket = map_type
  type_by _ = bad Syntax

  unfoldable pub type_layer : Reader Sort
  type_layer = look (λ t. type_by (class_of t))

-- The types of height d at most. No type has height 0.
unfoldable pub type_of : ℕ → Reader Sort
type_of zero = look (λ t. if begins_type (class_of t) then bad Deep else bad Syntax)
type_of (suc d) = type_layer d (type_of d)

-- a function value that reads the types of height d at most
pub record NestsTypes (d : ℕ)
    (pre : Global → MutBor Tokens → ℕ → Type 0)
    (post : Global → MutBor Tokens → ℕ → Result Sort CodeFault → MutBor Tokens → Type 0) : Type 0 where
  pub callable : (alloc : Global) (old : MutBor Tokens) → pre alloc old d
  pub reads : (alloc : Global) (old new : MutBor Tokens) (r : Result Sort CodeFault) → post alloc old d r new
      → Gives (type_of d old.now) r new.now
