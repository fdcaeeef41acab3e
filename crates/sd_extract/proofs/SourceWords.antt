-- The words of trees, of meaning and of typing that several proof files use.
pub use Rattle.sd_ast.specs.Tree.{BinaryOf, OldOf, SelectOf, StoreOf, UnaryOf, names_of}
pub use Rattle.sd_ast.specs.declared.BinOp.{BinOp}
pub use Rattle.sd_ast.specs.declared.Body.{Body}
pub use Rattle.sd_ast.specs.declared.Decl.{Decl}
pub use Rattle.sd_ast.specs.declared.Decl.TheVariants.{Axiom, Const, Function, Globals, Implementation, Procedure}
pub use Rattle.sd_ast.specs.declared.Expr.{Expr}
pub use Rattle.sd_ast.specs.declared.ExprKind.{Apply', ExprKind, Row_of-Expr, end_of-Expr, more_of-Expr}
pub use Rattle.sd_ast.specs.declared.Head.{Head}
pub use Rattle.sd_ast.specs.declared.Impl.{Impl}
pub use Rattle.sd_ast.specs.declared.Invariant.{Invariant}
pub use Rattle.sd_ast.specs.declared.Left.{Left}
pub use Rattle.sd_ast.specs.declared.Proc.{Proc}
pub use Rattle.sd_ast.specs.declared.Program.{Program}
pub use Rattle.sd_ast.specs.declared.Spec.{Spec}
pub use Rattle.sd_ast.specs.declared.Spec.TheVariants.{Ensures, Modifies, Requires}
pub use Rattle.sd_ast.specs.declared.Stmt.{Stmt}
pub use Rattle.sd_ast.specs.declared.StmtKind.{Assert, Assign, Assume, Break, Call, If, If', Return, Row_of-Stmt, StmtKind, While, While', end_of-Stmt, more_of-Stmt}
pub use Rattle.sd_ast.specs.declared.StmtKind.TheBlock.{hidden-the_row-Stmt-0}
pub use Rattle.sd_ast.specs.declared.UnOp.{UnOp}
pub use Rattle.sd_base.specs.Meaning.{Interpretation, Meaning, index_of, interpretation, truth_of}
pub use Rattle.sd_base.specs.Sorts.{MapOf}
pub use Rattle.sd_base.specs.Value.{Text, Truth, Value, same_text, write as write_map}
pub use Rattle.sd_base.specs.declared.Sort.{Bool as BoolSort, Sort}
pub use Rattle.sd_base.specs.declared.Var.{Var}
pub use Rattle.sd_meaning.specs.Evaluate.{State, Store, value, value_of, variable}
pub use Rattle.sd_meaning.specs.Inputs.{HasSorts, globals_in, nowhere, uniques_in}
pub use Rattle.sd_meaning.specs.Routine.{Clause, Routine, Routine as SourceRoutine, clauses_of, ensures_of, implementation_in, procedure_in, requires_of, routine_named, with_body}
pub use Rattle.sd_meaning.specs.Run.{Blocked, Breaks, Ended, Failed, Fails, Flow, Blocks as FreeFails, Holds, Level, Next, Outcome, Returns, Unfinished, Verdict, before, each, entered, if_assumed, if_holds, kinds_in, kinds_of, level_by}
pub use Rattle.sd_meaning.specs.Run.{new_values, outcome_of, reach, run, set as set_variable, step, values_of, verdict}
pub use Rattle.sd_types.specs.Answer.{and_then, both}
pub use Rattle.sd_types.specs.Declarations.{WellTyped, body_variables, callee_of, constants_of, decl_rule, known_sorts, locals_of, modifies_of, own_names, parameters, variables_as}
pub use Rattle.sd_types.specs.Names.{is_among}
pub use Rattle.sd_types.specs.Phrases.{is_truth, known_sort}
pub use Rattle.sd_types.specs.Scopes.{Context, context, declared_as, if_named, may_name, or_global}
pub use Rattle.sd_types.specs.Statements.{assignable, assigned_as, has_body, left_names, modified_rule, routine}
pub use Rattle.sd_types.specs.Tables.{named, with_name, with_names}
pub use Rattle.sd_types.specs.TypedBodies.{AllHave, AreTypedStmts, Calls, IsTypedStmt}
pub use Rattle.sd_types.specs.Typing.{HasType}
pub use Rattle.sd_types.specs.declared.refusal.TypeError.{TypeError}
pub use Rattle.sd_types.specs.declared.refusal.TypeError.TheVariants.{Twice}
pub use Rattle.sd_types.specs.declared.scope.Callee.{Callee}
pub use Rattle.sd_types.specs.declared.scope.Nature.{Nature}
pub use Rattle.sd_types.specs.declared.scope.Scope.{Scope}
pub use Rattle.sd_types.specs.declared.scope.Signature.{Signature}
pub use Rattle.sd_types.specs.declared.scope.Variable.{Variable}
