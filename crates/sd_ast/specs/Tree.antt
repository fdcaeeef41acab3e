-- Trees by cases. The child of an expression is written as its place and its kind.
use Rattle.std.specs.Prelude.{List, [], ◌∷◌, map}
use Rattle.sd_base.specs.Value.{Text}
use Rattle.sd_base.specs.declared.Var.{Var}
use Rattle.sd_base.specs.declared.Place.{Place}
use Rattle.sd_ast.specs.declared.tree.BinOp.{BinOp}
use Rattle.sd_ast.specs.declared.tree.UnOp.{UnOp}
use Rattle.sd_ast.specs.declared.tree.Decl.{Decl}
use Rattle.sd_ast.specs.declared.tree.Decl.TheVariants.{Procedure}
use Rattle.sd_ast.specs.declared.tree.ExprKind.{ExprKind, Old', Unary', Binary', Select', Store', more_of-Expr, end_of-Expr}

pattern abbrev pub OldOf : Place → ExprKind → ExprKind
OldOf p a = Old' tt (more_of-Expr p a end_of-Expr)

pattern abbrev pub UnaryOf : UnOp → Place → ExprKind → ExprKind
UnaryOf op p a = Unary' op tt (more_of-Expr p a end_of-Expr)

pattern abbrev pub BinaryOf : BinOp → Place → ExprKind → Place → ExprKind → ExprKind
BinaryOf op p a q b = Binary' op tt (more_of-Expr p a end_of-Expr) tt (more_of-Expr q b end_of-Expr)

pattern abbrev pub SelectOf : Place → ExprKind → Place → ExprKind → ExprKind
SelectOf p m q i = Select' tt (more_of-Expr p m end_of-Expr) tt (more_of-Expr q i end_of-Expr)

pattern abbrev pub StoreOf : Place → ExprKind → Place → ExprKind → Place → ExprKind → ExprKind
StoreOf p m q i r v =
    Store' tt (more_of-Expr p m end_of-Expr) tt (more_of-Expr q i end_of-Expr) tt (more_of-Expr r v end_of-Expr)

abbrev pub names_of : List Var → List Text
names_of = map (λ x. x.name)

-- the names of the `procedure` declarations, in text order
abbrev pub procedure_names : List Decl → List Text
procedure_names [] = []
procedure_names (Procedure p ∷ ds) = p.head.name ∷ procedure_names ds
procedure_names (_ ∷ ds) = procedure_names ds
