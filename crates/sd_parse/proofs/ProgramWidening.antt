-- The laws of widening hold of the readers of declarations and programs.
use Rattle.std.proofs.Common.{◌≡◌, ℕ, suc, true, false, List, [], ◌∷◌, ◌++◌, refl}
use Rattle.std.specs.Prelude.{Bool}
use Rattle.sd_base.specs.declared.Var.{Var}
use Rattle.sd_base.specs.Value.{Text}
use Rattle.sd_lex.specs.declared.Token.{Token}
use Rattle.sd_ast.specs.declared.Head.{Head}
use Rattle.sd_parse.specs.declared.class.TokenClass.{TokenClass}
use Rattle.sd_parse.specs.declared.class.TokenClass.TheVariants as s
use Rattle.sd_parse.specs.Grammar.{Tokens}
use Rattle.sd_parse.specs.ReadingRows.{push, join_lists, is}
use Rattle.sd_parse.specs.ReadingPrograms.{begins_spec, begins_declaration, modified_by, modified, modifies, uniqueness_by, uniqueness, typed, group, more_groups, vars, var_line, locals, parameters_by, listed_parameters, parameters, results_by, results, head, required, ensured, condition_by, condition, free_condition, clause_by, clause, clauses, body, named_by, after_name, named_argument, argument_by, argument, returned_type, colon_type, result_by, result_type, types, constants, function, axiom_line, globals, declared, defined, procedure_by, procedure_from, procedure, implementation, declaration_by, declaration, declarations, ended, program}
use Rattle.sd_parse.proofs.Local.{Local, rest_of, before, nothing_left}
use Rattle.sd_parse.proofs.Widening.{Widens, Item, still, after_item, sequence, item_sequence, got, choice, item_choice, name_item, skip_item, want_item, items, below, widening}
use Rattle.sd_parse.proofs.StatementWidening.{next_item, widen_enclosed, widen_names, widen_type_of, widen_attributes, claim_item, widen_statements, statement_item}

widen_modified_by : (y : TokenClass) → Widens (modified_by y) (modified_by y)
widen_modified_by s.Semi = search widening
widen_modified_by _ = widen_names

widen_uniqueness_by : (y : TokenClass) → Widens (uniqueness_by y) (uniqueness_by y)
widen_uniqueness_by s.Unique = search widening
widen_uniqueness_by _ = search widening

module _ (d : ℕ) where
  -- ---- variables

  widen_typed : Widens (typed d) (typed (suc d))
  unfolding typed
  widen_typed = sequence widen_names (λ xs. after_item (want_item s.Colon) (λ _. sequence (widen_type_of d) (λ T. got _)))

  widen_group : Widens (group d) (group (suc d))
  unfolding group
  widen_group = search (widening, widen_typed)

  widen_vars : Widens (vars d) (vars (suc d))
  unfolding vars more_groups
  widen_vars = sequence widen_group (λ xs. items (is s.Comma) join_lists (next_item widen_group) xs)

  var_line_item : Item (var_line d) (var_line (suc d))
  unfolding var_line
  var_line_item = item_sequence skip_item (λ _. sequence (widen_attributes d) (λ _. sequence widen_vars (λ xs. after_item (want_item s.Semi) (λ _. got _))))

  -- ---- heads

  widen_parameters_by : (y : TokenClass) → Widens (parameters_by d y) (parameters_by (suc d) y)
  widen_parameters_by s.Close = search widening
  widen_parameters_by _ = search (widening, widen_vars)

  widen_parameters : Widens (parameters d) (parameters (suc d))
  unfolding parameters listed_parameters
  widen_parameters = after_item (want_item s.Open) (λ _. choice widen_parameters_by)

  widen_results_by : (y : TokenClass) → Widens (results_by d y) (results_by (suc d) y)
  widen_results_by s.Returns = search (widening, widen_parameters)
  widen_results_by _ = search widening

  widen_head : Widens (head d) (head (suc d))
  unfolding head results
  widen_head = after_item name_item (λ f. sequence widen_parameters (λ ins. sequence (choice widen_results_by) (λ outs. got _)))

  -- ---- clauses and bodies

  condition_by_item : (f : Bool) (y : TokenClass) → Item (condition_by d f y) (condition_by (suc d) f y)
  unfolding required ensured
  condition_by_item f s.Requires = search (widening, claim_item d d)
  condition_by_item f s.Ensures = search (widening, claim_item d d)
  condition_by_item f _ = search widening

  condition_item : (f : Bool) → Item (condition d f) (condition (suc d) f)
  unfolding condition
  condition_item f = item_choice (condition_by_item f)

  clause_by_item : (y : TokenClass) → Item (clause_by d y) (clause_by (suc d) y)
  unfolding modifies modified free_condition
  clause_by_item s.Modifies = item_sequence skip_item (λ _. sequence (choice widen_modified_by) (λ xs. after_item (want_item s.Semi) (λ _. got _)))
  clause_by_item s.Free = item_sequence skip_item (λ _. (condition_item true).widens)
  clause_by_item _ = condition_item false

  widen_clauses : Widens (clauses d) (clauses (suc d))
  unfolding clauses clause
  widen_clauses = items begins_spec push (item_choice clause_by_item) []

  widen_body : Widens (body d) (body (suc d))
  unfolding body locals
  widen_body = after_item (want_item s.OpenBrace) (λ _. sequence (items (is s.Var) join_lists var_line_item []) (λ xs. sequence (widen_statements d d (statement_item d d)) (λ ss. after_item (want_item s.CloseBrace) (λ _. got _))))

  -- ---- functions

  widen_named_by : (x : Text) (y : TokenClass) → Widens (named_by d x y) (named_by (suc d) x y)
  widen_named_by x s.Colon = search (widening, widen_type_of)
  widen_named_by x _ = search widening

  widen_argument_by : (y : TokenClass) → Widens (argument_by d y) (argument_by (suc d) y)
  unfolding named_argument after_name
  widen_argument_by s.Name = below d (after_item name_item (λ x. choice (widen_named_by x.0)))
  widen_argument_by _ = widen_type_of d

  widen_argument : Widens (argument d) (argument (suc d))
  unfolding argument
  widen_argument = choice widen_argument_by

  widen_result_by : (y : TokenClass) → Widens (result_by d y) (result_by (suc d) y)
  unfolding returned_type colon_type
  widen_result_by s.Returns = search (widening, widen_argument) depth 9
  widen_result_by _ = search (widening, widen_type_of)

  -- ---- declarations

  widen_procedure_by : (p : Head) (y : TokenClass) → Widens (procedure_by d p y) (procedure_by (suc d) p y)
  unfolding declared defined
  widen_procedure_by p s.Semi = search (widening, widen_clauses)
  widen_procedure_by p _ = search (widening, widen_clauses, widen_body)

  declaration_by_item : (y : TokenClass) → Item (declaration_by d y) (declaration_by (suc d) y)
  unfolding types constants function axiom_line globals procedure implementation uniqueness result_type procedure_from
  declaration_by_item s.Type = item_sequence skip_item (λ _. sequence (widen_attributes d) (λ _. sequence widen_names (λ xs. after_item (want_item s.Semi) (λ _. got _))))
  declaration_by_item s.Const = item_sequence skip_item (λ _. sequence (widen_attributes d) (λ _. sequence (choice widen_uniqueness_by) (λ b. sequence widen_typed (λ g. after_item (want_item s.Semi) (λ _. got _)))))
  declaration_by_item s.Function = item_sequence skip_item (λ _. sequence (widen_attributes d) (λ _. after_item name_item (λ f. sequence (widen_enclosed widen_argument) (λ xs. sequence (choice widen_result_by) (λ T. after_item (want_item s.Semi) (λ _. got _))))))
  declaration_by_item s.Axiom = search (widening, claim_item d d)
  declaration_by_item s.Var = search (widening, var_line_item)
  declaration_by_item s.Procedure = item_sequence skip_item (λ _. sequence (widen_attributes d) (λ _. sequence widen_head (λ p. choice (widen_procedure_by p))))
  declaration_by_item s.Implementation = item_sequence skip_item (λ _. sequence (widen_attributes d) (λ _. sequence widen_head (λ p. sequence widen_body (λ b. got _))))
  declaration_by_item _ = search widening

local_ended : {A : Type 0} (x : A) → Local (ended x)
unfolding ended
local_ended {A} x = record { suffix = suffix; blind = blind }
  where
    suffix : (ts : Tokens) → (u : Tokens) × (ts ≡ u ++ rest_of (ended x ts))
    suffix [] = ([], refl)
    suffix (t ∷ ts) = ([], refl)

    blind : (u : Tokens) (t : Token) (v w : Tokens) → rest_of (ended x (u ++ t ∷ v)) ≡ t ∷ v → ended x (u ++ t ∷ w) ≡ before (ended x (u ++ t ∷ v)) (t ∷ w)
    blind [] t v w e = refl
    blind (a ∷ u) t v w e = absurd (let z : a ∷ u ≡ [] = nothing_left (a ∷ u) (t ∷ v) e in cc)

-- The reader of programs looks no further than the next token, and more height changes only the answer that a token is too deep.
pub widen_program : (d : ℕ) → Widens (program d) (program (suc d))
unfolding program declarations declaration
widen_program d = sequence (items begins_declaration push (item_choice (declaration_by_item d)) []) (λ xs. still (local_ended xs))
