-- What the readers of declarations and programs give.
use Rattle.std.specs.Prelude.{ℕ, Bool, true, false, List, [], ◌∷◌, Some, None}
use Rattle.sd_base.specs.declared.Var.{Var}
use Rattle.sd_base.specs.declared.Sort.{Sort}
use Rattle.sd_base.specs.declared.Sort.TheVariants as sort
use Rattle.sd_base.specs.Value.{Text}
use Rattle.sd_ast.specs.declared.Body.{Body}
use Rattle.sd_ast.specs.declared.Head.{Head}
use Rattle.sd_ast.specs.declared.Spec.{Spec}
use Rattle.sd_ast.specs.declared.Spec.TheVariants as spec
use Rattle.sd_ast.specs.declared.Decl.{Decl}
use Rattle.sd_ast.specs.declared.Decl.TheVariants as decl
use Rattle.sd_parse.specs.declared.class.TokenClass.{TokenClass}
use Rattle.sd_parse.specs.declared.class.TokenClass.TheVariants as s
use Rattle.sd_parse.specs.Programs.{variables}
use Rattle.sd_parse.specs.Reading.{Syntax, Got, Bad, Reader, ◌>>=◌, pure, bad, look, skip, class_of, want, name, all, deeper}
use Rattle.sd_parse.specs.ReadingRows.{is, push, join_lists, next, enclosed, names}
use Rattle.sd_parse.specs.ReadingTypes.{type_of}
use Rattle.sd_parse.specs.ReadingClauses.{attributes, claim}
use Rattle.sd_parse.specs.ReadingStatements.{statements, statement}

abbrev pub begins_spec : TokenClass → Bool
begins_spec s.Modifies = true
begins_spec s.Free = true
begins_spec s.Requires = true
begins_spec s.Ensures = true
begins_spec _ = false

abbrev pub begins_declaration : TokenClass → Bool
begins_declaration s.Type = true
begins_declaration s.Const = true
begins_declaration s.Function = true
begins_declaration s.Axiom = true
begins_declaration s.Var = true
begins_declaration s.Procedure = true
begins_declaration s.Implementation = true
begins_declaration _ = false

-- the names of a clause, up to its semicolon
abbrev pub modified_by : TokenClass → Reader (List Text)
modified_by s.Semi = pure []
modified_by _ = names

unfoldable pub modified : Reader (List Text)
modified = look (λ t. modified_by (class_of t))

unfoldable pub modifies : Reader Spec
modifies = skip >>= λ _. modified >>= λ xs. want s.Semi >>= λ _. pure (spec.Modifies xs)

-- whether constants are unique
abbrev pub uniqueness_by : TokenClass → Reader Bool
uniqueness_by s.Unique = skip >>= λ _. pure true
uniqueness_by _ = pure false

unfoldable pub uniqueness : Reader Bool
uniqueness = look (λ t. uniqueness_by (class_of t))

-- The declarations of which each type, clause and statement has the height d at most.
module _ (d : ℕ) where
  -- ---- variables

  unfoldable pub typed : Reader (List Text × Sort)
  typed = names >>= λ xs. want s.Colon >>= λ _. type_of d >>= λ T. pure (xs, T)

  unfoldable pub group : Reader (List Var)
  group = typed >>= λ g. pure (variables g.0 g.1)

  unfoldable pub more_groups : List Var → Reader (List Var)
  more_groups xs = all (is s.Comma) (next group) join_lists xs

  unfoldable pub vars : Reader (List Var)
  vars = group >>= more_groups

  unfoldable pub var_line : Reader (List Var)
  var_line = skip >>= λ _. attributes d >>= λ _. vars >>= λ xs. want s.Semi >>= λ _. pure xs

  unfoldable pub locals : Reader (List Var)
  locals = all (is s.Var) var_line join_lists []

  -- ---- heads

  abbrev pub parameters_by : TokenClass → Reader (List Var)
  parameters_by s.Close = skip >>= λ _. pure []
  parameters_by _ = vars >>= λ xs. want s.Close >>= λ _. pure xs

  unfoldable pub listed_parameters : Reader (List Var)
  listed_parameters = look (λ t. parameters_by (class_of t))

  unfoldable pub parameters : Reader (List Var)
  parameters = want s.Open >>= λ _. listed_parameters

  abbrev pub results_by : TokenClass → Reader (List Var)
  results_by s.Returns = skip >>= λ _. parameters
  results_by _ = pure []

  unfoldable pub results : Reader (List Var)
  results = look (λ t. results_by (class_of t))

  unfoldable pub head : Reader Head
  head = name >>= λ f. parameters >>= λ ins. results >>= λ outs.
      pure (record { name = f.0; at = f.1; ins = ins; outs = outs })

  -- ---- clauses

  unfoldable pub required : Bool → Reader Spec
  required f = claim d d s.Requires >>= λ c. pure (spec.Requires f c.1)

  unfoldable pub ensured : Bool → Reader Spec
  ensured f = claim d d s.Ensures >>= λ c. pure (spec.Ensures f c.1)

  abbrev pub condition_by : Bool → TokenClass → Reader Spec
  condition_by f s.Requires = required f
  condition_by f s.Ensures = ensured f
  condition_by f _ = bad Syntax

  unfoldable pub condition : Bool → Reader Spec
  condition f = look (λ t. condition_by f (class_of t))

  unfoldable pub free_condition : Reader Spec
  free_condition = skip >>= λ _. condition true

  abbrev pub clause_by : TokenClass → Reader Spec
  clause_by s.Modifies = modifies
  clause_by s.Free = free_condition
  clause_by _ = condition false

  unfoldable pub clause : Reader Spec
  clause = look (λ t. clause_by (class_of t))

  unfoldable pub clauses : Reader (List Spec)
  clauses = all begins_spec clause push []

  -- ---- bodies

  unfoldable pub body : Reader Body
  body = want s.OpenBrace >>= λ _. locals >>= λ xs. statements d d (statement d d) >>= λ ss. want s.CloseBrace >>= λ _.
      pure (record { locals = xs; stmts = ss })

  -- ---- functions

  abbrev pub named_by : Text → TokenClass → Reader Sort
  named_by x s.Colon = skip >>= λ _. type_of d
  named_by x _ = pure (sort.Named x)

  -- an argument after its first name, which is its type where no colon follows
  unfoldable pub after_name : Text → Reader Sort
  after_name x = look (λ t. named_by x (class_of t))

  unfoldable pub named_argument : Reader Sort
  named_argument = deeper d (name >>= λ x. after_name x.0)

  abbrev pub argument_by : TokenClass → Reader Sort
  argument_by s.Name = named_argument
  argument_by _ = type_of d

  unfoldable pub argument : Reader Sort
  argument = look (λ t. argument_by (class_of t))

  unfoldable pub returned_type : Reader Sort
  returned_type = skip >>= λ _. want s.Open >>= λ _. argument >>= λ T. want s.Close >>= λ _. pure T

  unfoldable pub colon_type : Reader Sort
  colon_type = want s.Colon >>= λ _. type_of d

  abbrev pub result_by : TokenClass → Reader Sort
  result_by s.Returns = returned_type
  result_by _ = colon_type

  unfoldable pub result_type : Reader Sort
  result_type = look (λ t. result_by (class_of t))

  -- ---- declarations, each at its word

  unfoldable pub types : Reader Decl
  types = skip >>= λ _. attributes d >>= λ _. names >>= λ xs. want s.Semi >>= λ _. pure (decl.Types xs)

  unfoldable pub constants : Reader Decl
  constants = skip >>= λ _. attributes d >>= λ _. uniqueness >>= λ b. typed >>= λ g. want s.Semi >>= λ _.
      pure (decl.Const b g.0 g.1)

  unfoldable pub function : Reader Decl
  function = skip >>= λ _. attributes d >>= λ _. name >>= λ f. enclosed argument >>= λ xs. result_type >>= λ T.
      want s.Semi >>= λ _. pure (decl.Function f.0 xs T)

  unfoldable pub axiom_line : Reader Decl
  axiom_line = claim d d s.Axiom >>= λ c. pure (decl.Axiom c.1)

  unfoldable pub globals : Reader Decl
  globals = var_line >>= λ xs. pure (decl.Globals xs)

  unfoldable pub declared : Head → Reader Decl
  declared p = skip >>= λ _. clauses >>= λ xs. pure (decl.Procedure (record { head = p; specs = xs; body = None }))

  unfoldable pub defined : Head → Reader Decl
  defined p = clauses >>= λ xs. body >>= λ b. pure (decl.Procedure (record { head = p; specs = xs; body = Some b }))

  abbrev pub procedure_by : Head → TokenClass → Reader Decl
  procedure_by p s.Semi = declared p
  procedure_by p _ = defined p

  unfoldable pub procedure_from : Head → Reader Decl
  procedure_from p = look (λ t. procedure_by p (class_of t))

  unfoldable pub procedure : Reader Decl
  procedure = skip >>= λ _. attributes d >>= λ _. head >>= procedure_from

  unfoldable pub implementation : Reader Decl
  implementation = skip >>= λ _. attributes d >>= λ _. head >>= λ p. body >>= λ b.
      pure (decl.Implementation (record { head = p; body = b }))

  abbrev pub declaration_by : TokenClass → Reader Decl
  declaration_by s.Type = types
  declaration_by s.Const = constants
  declaration_by s.Function = function
  declaration_by s.Axiom = axiom_line
  declaration_by s.Var = globals
  declaration_by s.Procedure = procedure
  declaration_by s.Implementation = implementation
  declaration_by _ = bad Syntax

  unfoldable pub declaration : Reader Decl
  declaration = look (λ t. declaration_by (class_of t))

  unfoldable pub declarations : Reader (List Decl)
  declarations = all begins_declaration declaration push []

-- nothing is left
unfoldable pub ended : {A : Type 0} → A → Reader A
ended x [] = Got x []
ended x (t ∷ ts) = Bad Syntax (t ∷ ts)

unfoldable pub program : ℕ → Reader (List Decl)
program d = declarations d >>= ended
