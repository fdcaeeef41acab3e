-- What the reader of programs answers.
use Rattle.std.proofs.Common.{◌≡◌, ℕ, zero, suc, ◌≤◌, true, false, List, [], ◌∷◌, refl, arith}
use Rattle.std.specs.Prelude.{Bool, Some, None}
use Rattle.sd_base.specs.declared.Sort.{Sort}
use Rattle.sd_base.specs.declared.Sort.TheVariants as sort
use Rattle.sd_base.specs.declared.Var.{Var}
use Rattle.sd_base.specs.Value.{Text}
use Rattle.sd_ast.specs.declared.Head.{Head}
use Rattle.sd_ast.specs.declared.Spec.{Spec}
use Rattle.sd_ast.specs.declared.Spec.TheVariants as spec
use Rattle.sd_ast.specs.declared.Decl.{Decl}
use Rattle.sd_ast.specs.declared.Decl.TheVariants as decl
use Rattle.sd_parse.specs.declared.class.TokenClass.{TokenClass}
use Rattle.sd_parse.specs.declared.class.TokenClass.TheVariants as s
use Rattle.sd_parse.specs.Grammar.{Tokens}
use Rattle.sd_parse.specs.Rows as w
use Rattle.sd_parse.specs.Rows.{Row, Joined, Enclosed}
use Rattle.sd_parse.specs.Types as ty
use Rattle.sd_parse.specs.Types.{TypeText}
use Rattle.sd_parse.specs.Programs as p
use Rattle.sd_parse.specs.Programs.{variables, Vars, VarLine, Parameters, Results, HeadText, SpecText, BodyText, Uniqueness, Argument, ResultType, Declaration}
use Rattle.sd_parse.specs.Reading.{Reader, ahead, class_of}
use Rattle.sd_parse.specs.ReadingRows.{is, join_lists}
use Rattle.sd_parse.specs.ReadingRows as reading
use Rattle.sd_parse.specs.ReadingStatements.{statement}
use Rattle.sd_parse.specs.ReadingPrograms.{begins_spec, begins_declaration, modified_by, modified, modifies, uniqueness_by, uniqueness, typed, group, more_groups, vars, var_line, locals, parameters_by, listed_parameters, parameters, results_by, results, head, required, ensured, condition_by, condition, free_condition, clause_by, clause, clauses, body, named_by, after_name, named_argument, argument_by, argument, returned_type, colon_type, result_by, result_type, types, constants, function, axiom_line, globals, declared, defined, procedure_by, procedure_from, procedure, implementation, declaration_by, declaration, declarations, ended, program}
use Rattle.sd_parse.proofs.Texts.{Wanted, Both, same_is}
use Rattle.sd_parse.proofs.Spelling.{Spelled, spelled}
use Rattle.sd_parse.proofs.Algebra.{Begins, AnswersStep, Answers, Rule, bind, begins_map, begins_whole, stop, stop_syntax, into, fails, seq_at, seq, done, rule_into, want_rule, name_rule, after, wide}
use Rattle.sd_parse.proofs.Lists as lists
use Rattle.sd_parse.proofs.Lists.{Behind, joined}
use Rattle.sd_parse.proofs.Rows.{Low, Next}
use Rattle.sd_parse.proofs.RowAnswers.{low_wide, all_rule, row_rule, joined_rule, joined_up, next_wide, next_answers, enclosed_rule, full}
use Rattle.sd_parse.proofs.TypeAnswers.{type_rule}
use Rattle.sd_parse.proofs.ClauseAnswers.{attributes_rule, claim_wide, claim_rule, names_rule}
use Rattle.sd_parse.proofs.StatementAnswers.{lift_low, statements_rule, statement_rule}
use Rattle.sd_parse.proofs.Limits.{var_line_more, spec_more, body_more, declaration_more, specs_more}
use Rattle.sd_parse.proofs.ProgramTexts as made
use Rattle.sd_parse.proofs.ProgramTexts.{TypedPair, GroupText, Closed, Modified, Condition, of_requires, of_ensures, AfterName, colon, nothing_more, ProcedureFrom, declared_from, defined_from}

-- ---- names and types of constants

uniqueness_rule : Rule Uniqueness Uniqueness uniqueness
unfolding uniqueness
uniqueness_rule = record { least = record { more = []; value = false; spelt = p.plain }; up = λ u x i. i; answers = λ ts. by_class ts (class_of (ahead ts)) refl }
  where
    by_class : (ts : Tokens) (x : TokenClass) → class_of (ahead ts) ≡ x → Answers Uniqueness Uniqueness ts (uniqueness_by x ts)
    by_class ts s.Unique e = into made.to_unique made.to_unique (after s.Unique (spelled s.Unique refl) ts e (λ _. done true))
    by_class ts _ e = record { fact = ([], refl, p.plain) }

modified_rule : Rule Modified Modified modified
unfolding modified
modified_rule = record { least = record { more = []; value = []; spelt = made.none }; up = λ u x m. m; answers = λ ts. by_class ts (class_of (ahead ts)) }
  where
    by_class : (ts : Tokens) (x : TokenClass) → Answers Modified Modified ts (modified_by x ts)
    by_class ts s.Semi = record { fact = ([], refl, made.none) }
    by_class ts _ = into (λ u xs m. made.some m) (λ u xs m. made.some m) (names_rule.answers ts)

module _ (d : ℕ) (pos : 1 ≤ d) where
  -- ---- variables

  typed_rule : Rule (Low TypedPair d) (Low TypedPair (wide d)) (typed d)
  unfolding typed
  typed_rule = rule_into (made.to_typed d) (made.to_typed (wide d)) (low_wide TypedPair d) (seq names_rule (λ xs. seq (want_rule s.Colon (spelled s.Colon refl)) (λ _. seq (type_rule d pos) (λ T. done (xs, T)))))

  group_rule : Rule (Low GroupText d) (Low GroupText (wide d)) (group d)
  unfolding group
  group_rule = rule_into (made.to_group d) (made.to_group (wide d)) (low_wide GroupText d) (seq typed_rule (λ g. done (variables g.0 g.1)))

  groups_up : (acc : List Var) (u : Tokens) (xs : List Var) → Behind (lists.Joined (Next (Low GroupText d))) acc u xs → Behind (lists.Joined (Next (Low GroupText (wide d)))) acc u xs
  groups_up acc u xs m = record { items = m.items; same = m.same; list = joined_up (next_wide (low_wide GroupText d)) m.list }

  more_groups_rule : (acc : List Var) → Rule (Behind (lists.Joined (Next (Low GroupText d))) acc) (Behind (lists.Joined (Next (Low GroupText (wide d)))) acc) (more_groups d acc)
  unfolding more_groups
  more_groups_rule acc = rule_into (λ u y m. joined (Next (Low GroupText d)) (is s.Comma) m) (λ u y m. joined (Next (Low GroupText (wide d))) (is s.Comma) m) (groups_up acc)
      (all_rule (Next (Low GroupText d)) (Next (Low GroupText (wide d))) (is s.Comma) (reading.next (group d)) join_lists (next_wide (low_wide GroupText d)) (next_answers group_rule) acc)

  vars_rule : Rule (Low Vars d) (Low Vars (wide d)) (vars d)
  unfolding vars
  vars_rule = rule_into (made.to_vars d) (made.to_vars (wide d)) (low_wide Vars d) (seq group_rule (λ ys. more_groups_rule ys))

  line_up : (u : Tokens) (xs : List Var) → Low (VarLine d) d u xs → Low (VarLine (wide d)) (wide d) u xs
  line_up = lift_low (var_line_more (omega arith)) d

  line_answers : (ts : Tokens) → class_of (ahead ts) ≡ s.Var → Answers (Low (VarLine d) d) (Low (VarLine (wide d)) (wide d)) ts (var_line d ts)
  unfolding var_line
  line_answers ts e = into (made.to_line d) (made.to_line (wide d)) (after s.Var (spelled s.Var refl) ts e (λ _. seq (attributes_rule d pos) (λ _. seq vars_rule (λ ys. seq (want_rule s.Semi (spelled s.Semi refl)) (λ _. done ys)))))

  locals_rule : Rule (Low (Joined (VarLine d)) d) (Low (Joined (VarLine (wide d))) (wide d)) (locals d)
  unfolding locals
  locals_rule = joined_rule (VarLine d) (VarLine (wide d)) d line_up (is s.Var) (var_line d) (λ ts e. line_answers ts (same_is (class_of (ahead ts)) s.Var e))

  -- ---- heads

  closed_up : (u : Tokens) (xs : List Var) → Closed d u xs → Closed (wide d) u xs
  closed_up u xs (made.empty i) = made.empty i
  closed_up u xs (made.given w i) = made.given (low_wide Vars d _ _ w) i

  listed_rule : Rule (Closed d) (Closed (wide d)) (listed_parameters d)
  unfolding listed_parameters
  listed_rule = record { least = record { more = (spelled s.Close refl).token ∷ []; value = []; spelt = made.empty (spelled s.Close refl).is }; up = closed_up; answers = λ ts. by_class ts (class_of (ahead ts)) refl }
    where
      by_class : (ts : Tokens) (x : TokenClass) → class_of (ahead ts) ≡ x → Answers (Closed d) (Closed (wide d)) ts (parameters_by d x ts)
      by_class ts s.Close e = into (made.to_none d) (made.to_none (wide d)) (after s.Close (spelled s.Close refl) ts e (λ _. done []))
      by_class ts _ e = into (made.to_some d) (made.to_some (wide d)) ((seq vars_rule (λ ys. seq (want_rule s.Close (spelled s.Close refl)) (λ _. done ys))).answers ts)

  parameters_rule : Rule (Low Parameters d) (Low Parameters (wide d)) (parameters d)
  unfolding parameters
  parameters_rule = rule_into (made.to_parameters d) (made.to_parameters (wide d)) (low_wide Parameters d) (seq (want_rule s.Open (spelled s.Open refl)) (λ _. listed_rule))

  results_rule : Rule (Low Results d) (Low Results (wide d)) (results d)
  unfolding results
  results_rule = record { least = record { more = []; value = []; spelt = record { height = 0; spelt = p.none; low = omega arith } }; up = low_wide Results d; answers = λ ts. by_class ts (class_of (ahead ts)) refl }
    where
      by_class : (ts : Tokens) (x : TokenClass) → class_of (ahead ts) ≡ x → Answers (Low Results d) (Low Results (wide d)) ts (results_by d x ts)
      by_class ts s.Returns e = into (made.to_results d) (made.to_results (wide d)) (after s.Returns (spelled s.Returns refl) ts e (λ _. parameters_rule))
      by_class ts _ e = record { fact = ([], refl, record { height = 0; spelt = p.none; low = omega arith }) }

  head_rule : Rule (Low HeadText d) (Low HeadText (wide d)) (head d)
  unfolding head
  head_rule = rule_into (made.to_head d) (made.to_head (wide d)) (low_wide HeadText d) (seq name_rule (λ f. seq parameters_rule (λ ins. seq results_rule (λ outs. done (record { name = f.0; at = f.1; ins = ins; outs = outs })))))

  -- ---- clauses

  spec_up : (u : Tokens) (x : Spec) → Low (SpecText d) d u x → Low (SpecText (wide d)) (wide d) u x
  spec_up = lift_low (spec_more (omega arith)) d

  modifies_answers : (ts : Tokens) → class_of (ahead ts) ≡ s.Modifies → Answers (Low (SpecText d) d) (Low (SpecText (wide d)) (wide d)) ts (modifies ts)
  unfolding modifies
  modifies_answers ts e = into (made.to_modifies d) (made.to_modifies (wide d)) (after s.Modifies (spelled s.Modifies refl) ts e (λ _. seq modified_rule (λ xs. seq (want_rule s.Semi (spelled s.Semi refl)) (λ _. done (spec.Modifies xs)))))

  condition_up : (f : Bool) (u : Tokens) (x : Spec) → Condition d f u x → Condition (wide d) f u x
  condition_up f u x (of_requires w) = of_requires (claim_wide d d s.Requires _ _ w)
  condition_up f u x (of_ensures w) = of_ensures (claim_wide d d s.Ensures _ _ w)

  required_rule : (f : Bool) → Rule (Condition d f) (Condition (wide d) f) (required d f)
  unfolding required
  required_rule f = rule_into (made.to_required d f) (made.to_required (wide d) f) (condition_up f) (seq (claim_rule d d s.Requires pos pos (spelled s.Requires refl)) (λ k. done (spec.Requires f k.1)))

  ensured_rule : (f : Bool) → Rule (Condition d f) (Condition (wide d) f) (ensured d f)
  unfolding ensured
  ensured_rule f = rule_into (made.to_ensured d f) (made.to_ensured (wide d) f) (condition_up f) (seq (claim_rule d d s.Ensures pos pos (spelled s.Ensures refl)) (λ k. done (spec.Ensures f k.1)))

  condition_rule : (f : Bool) → Rule (Condition d f) (Condition (wide d) f) (condition d f)
  unfolding condition
  condition_rule f = record { least = (required_rule f).least; up = condition_up f; answers = λ ts. by_class ts (class_of (ahead ts)) }
    where
      by_class : (ts : Tokens) (x : TokenClass) → Answers (Condition d f) (Condition (wide d) f) ts (condition_by d f x ts)
      by_class ts s.Requires = (required_rule f).answers ts
      by_class ts s.Ensures = (ensured_rule f).answers ts
      by_class ts _ = fails (required_rule f).least

  clause_rule : Rule (Low (SpecText d) d) (Low (SpecText (wide d)) (wide d)) (clause d)
  unfolding clause free_condition
  clause_rule = record {
    least = record { more = (spelled s.Modifies refl).token ∷ (spelled s.Semi refl).token ∷ []; value = spec.Modifies []; spelt = record { height = 0; spelt = p.modifies_none (spelled s.Modifies refl).is (spelled s.Semi refl).is; low = omega arith } };
    up = spec_up;
    answers = λ ts. by_class ts (class_of (ahead ts)) refl;
  }
    where
      by_class : (ts : Tokens) (x : TokenClass) → class_of (ahead ts) ≡ x → Answers (Low (SpecText d) d) (Low (SpecText (wide d)) (wide d)) ts (clause_by d x ts)
      by_class ts s.Modifies e = modifies_answers ts e
      by_class ts s.Free e = into (made.to_free d) (made.to_free (wide d)) (after s.Free (spelled s.Free refl) ts e (λ _. condition_rule true))
      by_class ts _ e = into (made.to_checked d) (made.to_checked (wide d)) ((condition_rule false).answers ts)

  clauses_rule : Rule (Low (Row (SpecText d)) d) (Low (Row (SpecText (wide d))) (wide d)) (clauses d)
  unfolding clauses
  clauses_rule = row_rule (SpecText d) (SpecText (wide d)) d spec_up begins_spec (clause d) (λ ts e. clause_rule.answers ts)

  body_rule : Rule (Low (BodyText d) d) (Low (BodyText (wide d)) (wide d)) (body d)
  unfolding body
  body_rule = rule_into (made.to_body d) (made.to_body (wide d)) (lift_low (λ u x h y. body_more (omega arith) y) d)
      (seq (want_rule s.OpenBrace (spelled s.OpenBrace refl)) (λ _. seq locals_rule (λ xs. seq (statements_rule d d pos (statement d d) (λ pos. statement_rule d d pos pos) pos) (λ ss. seq (want_rule s.CloseBrace (spelled s.CloseBrace refl)) (λ _. done (record { locals = xs; stmts = ss }))))))

  -- ---- functions

  name_up : (x : Text) (u : Tokens) (T : Sort) → AfterName d x u T → AfterName (wide d) x u T
  name_up x u T (colon {u = v} {T = S} i w) = colon i (low_wide TypeText d v S w)
  name_up x u T nothing_more = nothing_more

  after_name_rule : (x : Text) → Rule (AfterName d x) (AfterName (wide d) x) (after_name d x)
  unfolding after_name
  after_name_rule x = record { least = record { more = []; value = sort.Named x; spelt = nothing_more }; up = name_up x; answers = λ ts. by_class ts (class_of (ahead ts)) refl }
    where
      by_class : (ts : Tokens) (y : TokenClass) → class_of (ahead ts) ≡ y → Answers (AfterName d x) (AfterName (wide d) x) ts (named_by d x y ts)
      by_class ts s.Colon e = into (made.to_colon d x) (made.to_colon (wide d) x) (after s.Colon (spelled s.Colon refl) ts e (λ _. type_rule d pos))
      by_class ts _ e = record { fact = ([], refl, nothing_more) }

named_answers : (d : ℕ) → 1 ≤ d → (ts : Tokens) → Answers (Low Argument d) (Low Argument (wide d)) ts (named_argument d ts)
unfolding named_argument
named_answers zero pos ts = absurd (omega arith)
named_answers (suc d) pos ts = into (made.to_argument (suc d) (omega arith)) (made.to_argument (wide (suc d)) (omega arith)) ((seq name_rule (λ y. after_name_rule (suc d) pos y.0)).answers ts)

module _ (d : ℕ) (pos : 1 ≤ d) where
  argument_rule : Rule (Low Argument d) (Low Argument (wide d)) (argument d)
  unfolding argument
  argument_rule = record {
    least = record { more = (spelled s.Int refl).token ∷ []; value = sort.Int; spelt = record { height = 1; spelt = p.bare (ty.int (spelled s.Int refl).is); low = pos } };
    up = low_wide Argument d;
    answers = λ ts. by_class ts (class_of (ahead ts));
  }
    where
      bare : (n : ℕ) (u : Tokens) (T : Sort) → Low TypeText n u T → Low Argument n u T
      bare n u T w = record { height = w.height; spelt = p.bare w.spelt; low = w.low }

      by_class : (ts : Tokens) (x : TokenClass) → Answers (Low Argument d) (Low Argument (wide d)) ts (argument_by d x ts)
      by_class ts s.Name = named_answers d pos ts
      by_class ts _ = into (bare d) (bare (wide d)) ((type_rule d pos).answers ts)

  result_rule : Rule (Low ResultType d) (Low ResultType (wide d)) (result_type d)
  unfolding result_type returned_type colon_type
  result_rule = record {
    least = record { more = (spelled s.Colon refl).token ∷ (spelled s.Int refl).token ∷ []; value = sort.Int; spelt = record { height = 1; spelt = p.colon (spelled s.Colon refl).is (ty.int (spelled s.Int refl).is); low = pos } };
    up = low_wide ResultType d;
    answers = λ ts. by_class ts (class_of (ahead ts)) refl;
  }
    where
      by_class : (ts : Tokens) (x : TokenClass) → class_of (ahead ts) ≡ x → Answers (Low ResultType d) (Low ResultType (wide d)) ts (result_by d x ts)
      by_class ts s.Returns e = into (made.to_returned d) (made.to_returned (wide d)) (after s.Returns (spelled s.Returns refl) ts e (λ _. seq (want_rule s.Open (spelled s.Open refl)) (λ _. seq argument_rule (λ T. seq (want_rule s.Close (spelled s.Close refl)) (λ _. done T)))))
      by_class ts _ e = into (made.to_colon_type d) (made.to_colon_type (wide d)) ((seq (want_rule s.Colon (spelled s.Colon refl)) (λ _. type_rule d pos)).answers ts)

  -- ---- declarations

  -- the place of a declaration, in its two languages
  abbrev Here : Tokens → Reader Decl → Type 0
  Here ts q = Answers (Low (Declaration d) d) (Low (Declaration (wide d)) (wide d)) ts (q ts)

  types_answers : (ts : Tokens) → class_of (ahead ts) ≡ s.Type → Here ts (types d)
  unfolding types
  types_answers ts e = into (made.to_types d) (made.to_types (wide d)) (after s.Type (spelled s.Type refl) ts e (λ _. seq (attributes_rule d pos) (λ _. seq names_rule (λ xs. seq (want_rule s.Semi (spelled s.Semi refl)) (λ _. done (decl.Types xs))))))

  constants_answers : (ts : Tokens) → class_of (ahead ts) ≡ s.Const → Here ts (constants d)
  unfolding constants
  constants_answers ts e = into (made.to_constants d) (made.to_constants (wide d)) (after s.Const (spelled s.Const refl) ts e (λ _. seq (attributes_rule d pos) (λ _. seq uniqueness_rule (λ b. seq (typed_rule d pos) (λ g. seq (want_rule s.Semi (spelled s.Semi refl)) (λ _. done (decl.Const b g.0 g.1)))))))

  function_answers : (ts : Tokens) → class_of (ahead ts) ≡ s.Function → Here ts (function d)
  unfolding function
  function_answers ts e = into (made.to_function d) (made.to_function (wide d))
      (after s.Function (spelled s.Function refl) ts e (λ _. seq (attributes_rule d pos) (λ _. seq name_rule (λ f. seq (enclosed_rule Argument Argument d (low_wide Argument d) (full argument_rule)) (λ xs. seq result_rule (λ T. seq (want_rule s.Semi (spelled s.Semi refl)) (λ _. done (decl.Function f.0 xs T))))))))

  axiom_answers : (ts : Tokens) → Here ts (axiom_line d)
  unfolding axiom_line
  axiom_answers ts = into (made.to_axiom d) (made.to_axiom (wide d)) ((seq (claim_rule d d s.Axiom pos pos (spelled s.Axiom refl)) (λ k. done (decl.Axiom k.1))).answers ts)

  globals_answers : (ts : Tokens) → class_of (ahead ts) ≡ s.Var → Here ts (globals d)
  unfolding globals
  globals_answers ts e = into (made.to_globals d) (made.to_globals (wide d)) (seq_at (line_up d pos) (line_answers d pos ts e) (λ xs. done (decl.Globals xs)))

  procedure_up : (f : Head) (u : Tokens) (x : Decl) → ProcedureFrom d f u x → ProcedureFrom (wide d) f u x
  procedure_up f u x (declared_from i w) = declared_from i (lift_low (λ u x h y. specs_more (omega arith) y) d _ _ w)
  procedure_up f u x (defined_from w y) = defined_from (lift_low (λ u x h y. specs_more (omega arith) y) d _ _ w) (lift_low (λ u x h y. body_more (omega arith) y) d _ _ y)

  procedure_from_rule : (f : Head) → Rule (ProcedureFrom d f) (ProcedureFrom (wide d) f) (procedure_from d f)
  unfolding procedure_from declared defined
  procedure_from_rule f = record {
    least = record { more = (spelled s.Semi refl).token ∷ []; value = decl.Procedure (record { head = f; specs = []; body = None }); spelt = declared_from (spelled s.Semi refl).is (record { height = 0; spelt = w.none; low = omega arith }) };
    up = procedure_up f;
    answers = λ ts. by_class ts (class_of (ahead ts)) refl;
  }
    where
      by_class : (ts : Tokens) (x : TokenClass) → class_of (ahead ts) ≡ x → Answers (ProcedureFrom d f) (ProcedureFrom (wide d) f) ts (procedure_by d f x ts)
      by_class ts s.Semi e = into (made.to_declared d f) (made.to_declared (wide d) f) (after s.Semi (spelled s.Semi refl) ts e (λ _. seq (clauses_rule d pos) (λ xs. done (decl.Procedure (record { head = f; specs = xs; body = None })))))
      by_class ts _ e = into (made.to_defined d f) (made.to_defined (wide d) f) ((seq (clauses_rule d pos) (λ xs. seq (body_rule d pos) (λ b. done (decl.Procedure (record { head = f; specs = xs; body = Some b }))))).answers ts)

  procedure_answers : (ts : Tokens) → class_of (ahead ts) ≡ s.Procedure → Here ts (procedure d)
  unfolding procedure
  procedure_answers ts e = into (made.to_procedure d) (made.to_procedure (wide d)) (after s.Procedure (spelled s.Procedure refl) ts e (λ _. seq (attributes_rule d pos) (λ _. seq (head_rule d pos) (λ f. procedure_from_rule f))))

  implementation_answers : (ts : Tokens) → class_of (ahead ts) ≡ s.Implementation → Here ts (implementation d)
  unfolding implementation
  implementation_answers ts e = into (made.to_implementation d) (made.to_implementation (wide d))
      (after s.Implementation (spelled s.Implementation refl) ts e (λ _. seq (attributes_rule d pos) (λ _. seq (head_rule d pos) (λ f. seq (body_rule d pos) (λ b. done (decl.Implementation (record { head = f; body = b })))))))

  least : Begins (Low (Declaration d) d) []
  least = begins_map (Both (Wanted s.Type) _) (Low (Declaration d) d) (λ x. x) [] (made.to_types d) (seq (want_rule s.Type (spelled s.Type refl)) (λ _. seq (attributes_rule d pos) (λ _. seq names_rule (λ xs. seq (want_rule s.Semi (spelled s.Semi refl)) (λ _. done (decl.Types xs)))))).least

  declaration_answers : (ts : Tokens) → Here ts (declaration d)
  unfolding declaration
  declaration_answers ts = by_class (class_of (ahead ts)) refl
    where
      by_class : (x : TokenClass) → class_of (ahead ts) ≡ x → Here ts (declaration_by d x)
      by_class s.Type e = types_answers ts e
      by_class s.Const e = constants_answers ts e
      by_class s.Function e = function_answers ts e
      by_class s.Axiom e = axiom_answers ts
      by_class s.Var e = globals_answers ts e
      by_class s.Procedure e = procedure_answers ts e
      by_class s.Implementation e = implementation_answers ts e
      by_class _ e = fails least

  declarations_rule : Rule (Low (Row (Declaration d)) d) (Low (Row (Declaration (wide d))) (wide d)) (declarations d)
  unfolding declarations
  declarations_rule = row_rule (Declaration d) (Declaration (wide d)) d (lift_low (declaration_more (omega arith)) d) begins_declaration (declaration d) (λ ts e. declaration_answers ts)

  ended_answers : (xs : List Decl) (u rest : Tokens) → Low (Row (Declaration d)) d u xs → AnswersStep (Low (Row (Declaration d)) d) (Low (Row (Declaration (wide d))) (wide d)) u rest (ended xs rest)
  unfolding ended
  ended_answers xs u [] w = stop (Low (Row (Declaration d)) d) (Low (Row (Declaration (wide d))) (wide d)) u [] xs w
  ended_answers xs u (t ∷ ts) w = stop_syntax (Low (Row (Declaration d)) d) (Low (Row (Declaration (wide d))) (wide d)) u (t ∷ ts) (begins_whole (Low (Row (Declaration d)) d) u xs w)

  -- The reader's answers.
  pub program_answers : (ts : Tokens) → Answers (Low (Row (Declaration d)) d) (Low (Row (Declaration (wide d))) (wide d)) ts (program d ts)
  unfolding program
  program_answers ts = record { fact = bind (Low (Row (Declaration d)) d) (Low (Row (Declaration (wide d))) (wide d)) (Low (Row (Declaration d)) d) (Low (Row (Declaration (wide d))) (wide d)) [] ts (declarations d ts) ended (declarations_rule.answers ts).fact (λ u b. b) (λ u b. b) ended_answers }
