-- What the reader of statements gives.
use Rattle.std.specs.Prelude.{ℕ, zero, suc, Bool, true, false, if◌then◌else◌, List, [], ◌∷◌, Result}
use Rattle.std.specs.declared.alloc.Global.{Global}
use denote.Ref.{MutBor}
use Rattle.sd_base.specs.declared.Place.{Place}
use Rattle.sd_base.specs.Value.{Text}
use Rattle.sd_ast.specs.declared.Expr.{Expr}
use Rattle.sd_ast.specs.declared.Left.{Left}
use Rattle.sd_ast.specs.declared.Invariant.{Invariant}
use Rattle.sd_ast.specs.declared.Stmt.{Stmt}
use Rattle.sd_ast.specs.declared.StmtKind.{Assert, Assume, Assign, Call, If, While, Break, Return}
use Rattle.sd_parse.specs.declared.class.TokenClass.{TokenClass}
use Rattle.sd_parse.specs.declared.class.TokenClass.TheVariants as s
use Rattle.sd_parse.specs.declared.cursor.Fault.{Fault as CodeFault}
use Rattle.sd_parse.specs.Grammar.{Tokens}
use Rattle.sd_parse.specs.Statements.{stated}
use Rattle.sd_parse.specs.Reading.{Syntax, Deep, Reader, ◌>>=◌, pure, bad, look, skip, class_of, want, name, all, deeper, Gives}
use Rattle.sd_parse.specs.ReadingRows.{is, push, more, commas, enclosed, plain_name}
use Rattle.sd_parse.specs.ReadingClauses.{expression, attributes, claim}

-- ---- the parts of a statement, whose expressions have height d at most

module _ (d : ℕ) where
  unfoldable pub index : Reader Expr
  index = skip >>= λ _. expression d >>= λ e. want s.CloseBracket >>= λ _. pure e

  unfoldable pub indices : Reader (List Expr)
  indices = all (is s.OpenBracket) index push []

  -- a left side, and where it begins
  unfoldable pub left : Reader (Left × Place)
  left = name >>= λ x. indices >>= λ es. pure (record { name = x.0; indices = es }, x.1)

  -- a left side without its place
  unfoldable pub plain_left : Reader Left
  plain_left = left >>= λ l. pure l.0

abbrev pub begins_invariant : TokenClass → Bool
begins_invariant s.Free = true
begins_invariant s.Invariant = true
begins_invariant _ = false

module _ (limit d : ℕ) where
  unfoldable pub stated_invariant : Bool → Reader Invariant
  stated_invariant f = claim limit d s.Invariant >>= λ c. pure (record { free = f; expr = c.1 })

  abbrev pub invariant_by : TokenClass → Reader Invariant
  invariant_by s.Free = skip >>= λ _. stated_invariant true
  invariant_by _ = stated_invariant false

  unfoldable pub loop_invariant : Reader Invariant
  loop_invariant = look (λ t. invariant_by (class_of t))

  unfoldable pub invariants : Reader (List Invariant)
  invariants = all begins_invariant loop_invariant push []

-- ---- statements

-- what begins a statement
abbrev pub begins_statement : TokenClass → Bool
begins_statement s.Assert = true
begins_statement s.Assume = true
begins_statement s.Name = true
begins_statement s.Call = true
begins_statement s.If = true
begins_statement s.While = true
begins_statement s.Break = true
begins_statement s.Return = true
begins_statement _ = false

-- The statements of height d + 1 at most, from a reader of those of height d at most. The expressions of attributes
-- have the height limit at most.
module _ (limit d : ℕ) (inner : Reader Stmt) where
  unfoldable pub asserted : Reader Stmt
  asserted = deeper d (claim limit d s.Assert >>= λ c. pure (stated c.0 (Assert c.1)))

  unfoldable pub assumed : Reader Stmt
  assumed = deeper d (claim limit d s.Assume >>= λ c. pure (stated c.0 (Assume c.1)))

  unfoldable pub assigned : Reader Stmt
  assigned = deeper d (left d >>= λ l. more (plain_left d) (l.0 ∷ []) >>= λ ls. want s.Becomes >>= λ _.
      commas (expression d) >>= λ es. want s.Semi >>= λ _. pure (stated l.1 (Assign ls es)))

  -- a call from its procedure's name on
  unfoldable pub applied : Place → List Text → Reader Stmt
  applied p xs = name >>= λ f. enclosed (expression d) >>= λ es. want s.Semi >>= λ _. pure (stated p (Call xs f.0 es))

  -- a call without receivers from its parenthesis on
  unfoldable pub applied_to : Place → Text → Reader Stmt
  applied_to p f = enclosed (expression d) >>= λ es. want s.Semi >>= λ _. pure (stated p (Call [] f es))

  unfoldable pub received : Place → Text → Reader Stmt
  received p x = more plain_name (x ∷ []) >>= λ xs. want s.Becomes >>= λ _. applied p xs

  abbrev pub call_by : Place → Text → TokenClass → Reader Stmt
  call_by p x s.Comma = received p x
  call_by p x s.Becomes = received p x
  call_by p x _ = applied_to p x

  -- a call after its first name
  unfoldable pub call_from : Place → Text → Reader Stmt
  call_from p x = look (λ t. call_by p x (class_of t))

  unfoldable pub called : Reader Stmt
  called = skip >>= λ p. attributes limit >>= λ _. name >>= λ x. call_from p x.0

  unfoldable pub statements : Reader (List Stmt)
  statements = all begins_statement inner push []

  unfoldable pub block : Reader (List Stmt)
  block = want s.OpenBrace >>= λ _. statements >>= λ xs. want s.CloseBrace >>= λ _. pure xs

  abbrev pub branch_by : TokenClass → Reader (List Stmt)
  branch_by s.If = inner >>= λ x. pure (x ∷ [])
  branch_by _ = block

  -- what stands after `else`
  unfoldable pub branch : Reader (List Stmt)
  branch = look (λ t. branch_by (class_of t))

  abbrev pub otherwise_by : TokenClass → Reader (List Stmt)
  otherwise_by s.Else = skip >>= λ _. branch
  otherwise_by _ = pure []

  unfoldable pub otherwise : Reader (List Stmt)
  otherwise = look (λ t. otherwise_by (class_of t))

  -- an expression in parentheses after a word
  unfoldable pub guard : Reader (Place × Expr)
  guard = skip >>= λ p. want s.Open >>= λ _. expression d >>= λ e. want s.Close >>= λ _. pure (p, e)

  unfoldable pub conditional : Reader Stmt
  conditional = deeper d (guard >>= λ g. block >>= λ a. otherwise >>= λ b. pure (stated g.0 (If g.1 a b)))

  unfoldable pub looped : Reader Stmt
  looped = deeper d (guard >>= λ g. invariants limit d >>= λ is. block >>= λ ss. pure (stated g.0 (While g.1 is ss)))

  unfoldable pub broken : Reader Stmt
  broken = skip >>= λ p. want s.Semi >>= λ _. pure (stated p Break)

  unfoldable pub returned : Reader Stmt
  returned = skip >>= λ p. want s.Semi >>= λ _. pure (stated p Return)

  abbrev pub statement_by : TokenClass → Reader Stmt
  statement_by s.Assert = asserted
  statement_by s.Assume = assumed
  statement_by s.Name = assigned
  statement_by s.Call = called
  statement_by s.If = conditional
  statement_by s.While = looped
  statement_by s.Break = broken
  statement_by s.Return = returned
  statement_by _ = bad Syntax

  unfoldable pub statement_layer : Reader Stmt
  statement_layer = look (λ t. statement_by (class_of t))

-- The statements of height d at most. No statement has height 0.
unfoldable pub statement : ℕ → ℕ → Reader Stmt
statement limit zero = look (λ t. if begins_statement (class_of t) then bad Deep else bad Syntax)
statement limit (suc d) = statement_layer limit d (statement limit d)

-- a function value that reads the statements of height d at most
pub record NestsStatements (limit d : ℕ)
    (pre : Global → MutBor Tokens → ℕ → ℕ → Type 0)
    (post : Global → MutBor Tokens → ℕ → ℕ → Result Stmt CodeFault → MutBor Tokens → Type 0) : Type 0 where
  pub callable : (alloc : Global) (old : MutBor Tokens) → pre alloc old limit d
  pub reads : (alloc : Global) (old new : MutBor Tokens) (r : Result Stmt CodeFault) → post alloc old limit d r new
      → Gives (statement limit d old.now) r new.now
