-- A translated expression has the value of the expression.
use Rattle.std.proofs.Common.{◌≡◌, List, [], ◌∷◌, Option, Some, None, refl, sym, ◌∙◌, ap, arith}
use Rattle.std.specs.Prelude.{true, false, not, map, unwrap_or, option_map, if◌then◌else◌, int_lt, int_le, ℤ}
use Rattle.sd_extract.proofs.SourceWords.{Text, same_text, Value, Truth, write_map, BinOp, UnOp, ExprKind, Apply', Row_of-Expr, end_of-Expr, more_of-Expr, OldOf, UnaryOf, BinaryOf, SelectOf, StoreOf, Interpretation, State, value_of, variable, value, truth_of, index_of}
use Rattle.sd_extract.proofs.CoreWords.{Spot, CoreOp, CoreExpr, Apply, Op, Row_of-CoreExpr, end_of-CoreExpr, more_of-CoreExpr, items-the_row-CoreExpr, items_hidden-the_row-CoreExpr-0, hidden-the_row-CoreExpr-0, Store, read, nothing, value_in, Names, place_in, either_place, place_of, at_place, negated, both, unary_of, binary_of, core_of, cores_of}
use Rattle.sd_base.specs.Value.{read as read_map}
use Rattle.sd_ast.specs.declared.BinOp.TheVariants as bin
use Rattle.sd_ast.specs.declared.UnOp.TheVariants as un
use Rattle.sd_ast.specs.declared.ExprKind.{Var}
use Rattle.sd_meaning.specs.Evaluate.{unary, binary, values}
use Rattle.sd_base.specs.Meaning.{number_of}
use Rattle.sd_meaning.specs.Run.{named}
use Rattle.sd_core.specs.declared.CoreOp.TheVariants as op
use Rattle.sd_core.specs.Run.{apply, values_in}

-- ---- the tie

-- what stands at these spots
abbrev pub at_all : Store Value → List Spot → List Value
at_all st ps = map (read nothing st) ps

-- each name is kept at its place, now and at the entry
pub record Kept (N : Names) (s : State) (st : Store Value) : Type 0 where
  pub locals : s.locals ≡ named N.local_names (at_all st N.locals)
  pub globals : s.globals ≡ named N.global_names (at_all st N.globals)
  pub entry : s.entry ≡ named N.global_names (at_all st N.entry)

-- ---- names

pub value_of-named : (st : Store Value) (xs : List Text) (ps : List Spot) (y : Text) → value_of (named xs (at_all st ps)) y ≡ option_map (read nothing st) (place_in xs ps y)
value_of-named st [] [] y = refl
value_of-named st [] (p ∷ ps) y = refl
value_of-named st (x ∷ xs) [] y = refl
value_of-named st (x ∷ xs) (p ∷ ps) y =
    elim (same_text y x) as (λ b. (if b then Some (read nothing st p) else value_of (named xs (at_all st ps)) y) ≡ option_map (read nothing st) (if b then Some p else place_in xs ps y)) [ true ↦ refl | false ↦ value_of-named st xs ps y ]

by_place : (I : Interpretation) (st : Store Value) (x : Text) (o g : Option Spot) → unwrap_or (option_map (read nothing st) o) (unwrap_or (option_map (read nothing st) g) (I.constant x)) ≡ value_in I st (at_place (either_place o g) x)
by_place I st x (Some p) g = refl
by_place I st x None (Some p) = refl
by_place I st x None None = refl

pub variable_kept : (I : Interpretation) (N : Names) (s : State) (st : Store Value) → Kept N s st → (x : Text) → variable I s x ≡ value_in I st (at_place (place_of N x) x)
variable_kept I N s st k x =
    let e = ap (λ t. value_of t x) k.locals ∙ value_of-named st N.local_names N.locals x in
    let f = ap (λ t. value_of t x) k.globals ∙ value_of-named st N.global_names N.globals x in
    (λ i. unwrap_or (e i) (unwrap_or (f i) (I.constant x))) ∙ by_place I st x (place_in N.local_names N.locals x) (place_in N.global_names N.globals x)

-- ---- operators

row_values : (I : Interpretation) (st : Store Value) {n : _} (es : Row_of-CoreExpr n) → values_in I st es ≡ map (value_in I st) (items-the_row-CoreExpr n es)
row_values I st end_of-CoreExpr = refl
row_values I st (more_of-CoreExpr e es) = ap (λ vs. value_in I st e ∷ vs) (row_values I st es)

pub value-Op : (I : Interpretation) (st : Store Value) (o : CoreOp) (es : List CoreExpr) → value_in I st (Op o es) ≡ apply o (map (value_in I st) es)
value-Op I st o es = ap (apply o) (row_values I st (hidden-the_row-CoreExpr-0 es) ∙ ap (map (value_in I st)) (items_hidden-the_row-CoreExpr-0 es))

pub value-Apply : (I : Interpretation) (st : Store Value) (f : Text) (es : List CoreExpr) → value_in I st (Apply f es) ≡ I.apply f (map (value_in I st) es)
value-Apply I st f es = ap (I.apply f) (row_values I st (hidden-the_row-CoreExpr-0 es) ∙ ap (map (value_in I st)) (items_hidden-the_row-CoreExpr-0 es))

int_flip : (a b : ℤ) → int_lt a b ≡ not (int_le b a)
int_flip a b = grind arith

value_unary : (I : Interpretation) (st : Store Value) (o : UnOp) (a : CoreExpr) → unary o (value_in I st a) ≡ value_in I st (unary_of o a)
value_unary I st un.Not a = sym (value-Op I st op.Not (a ∷ []))
value_unary I st un.Neg a = sym (value-Op I st op.Neg (a ∷ []))

pub value-negated : (I : Interpretation) (st : Store Value) (a : CoreExpr) → value_in I st (negated a) ≡ Truth (not (truth_of (value_in I st a)))
value-negated I st a = value-Op I st op.Not (a ∷ [])

value-both : (I : Interpretation) (st : Store Value) (o : CoreOp) (a b : CoreExpr) → value_in I st (both o a b) ≡ apply o (value_in I st a ∷ value_in I st b ∷ [])
value-both I st o a b = value-Op I st o (a ∷ b ∷ [])

value-not_both : (I : Interpretation) (st : Store Value) (o : CoreOp) (a b : CoreExpr) → value_in I st (negated (both o a b)) ≡ Truth (not (truth_of (apply o (value_in I st a ∷ value_in I st b ∷ []))))
value-not_both I st o a b = value-negated I st (both o a b) ∙ ap (λ v. Truth (not (truth_of v))) (value-both I st o a b)

flipped : (x y : Value) → Truth (int_lt (number_of x) (number_of y)) ≡ Truth (not (int_le (number_of y) (number_of x)))
flipped x y = ap (λ b. Truth b) (int_flip (number_of x) (number_of y))

value_binary : (I : Interpretation) (st : Store Value) (o : BinOp) (a b : CoreExpr) → binary o (value_in I st a) (value_in I st b) ≡ value_in I st (binary_of o a b)
value_binary I st bin.Iff a b = sym (value-both I st op.Eq a b)
value_binary I st bin.Implies a b =
    sym (value-both I st op.Or (negated a) b ∙ ap (λ v. apply op.Or (v ∷ value_in I st b ∷ [])) (value-negated I st a))
value_binary I st bin.Explies a b =
    sym (value-both I st op.Or a (negated b) ∙ ap (λ v. apply op.Or (value_in I st a ∷ v ∷ [])) (value-negated I st b))
value_binary I st bin.And a b = sym (value-both I st op.And a b)
value_binary I st bin.Or a b = sym (value-both I st op.Or a b)
value_binary I st bin.Eq a b = sym (value-both I st op.Eq a b)
value_binary I st bin.Ne a b = sym (value-not_both I st op.Eq a b)
value_binary I st bin.Lt a b = flipped (value_in I st a) (value_in I st b) ∙ sym (value-not_both I st op.Le b a)
value_binary I st bin.Le a b = sym (value-both I st op.Le a b)
value_binary I st bin.Gt a b = flipped (value_in I st b) (value_in I st a) ∙ sym (value-not_both I st op.Le a b)
value_binary I st bin.Ge a b = sym (value-both I st op.Le b a)
value_binary I st bin.Add a b = sym (value-both I st op.Add a b)
value_binary I st bin.Sub a b = sym (value-both I st op.Sub a b)
value_binary I st bin.Mul a b = sym (value-both I st op.Mul a b)

-- ---- expressions

module _ (I : Interpretation) (st : Store Value) where
  mutual
    pub value_kept : (N : Names) (s : State) → Kept N s st → (e : ExprKind) → value I s e ≡ value_in I st (core_of N e)
    value_kept N s k (Var x) = variable_kept I N s st k x
    value_kept N s k (Apply' f shape args) = ap (I.apply f) (values_kept N s k args) ∙ sym (value-Apply I st f (cores_of N args))
    value_kept N s k (OldOf p e) =
        value_kept (record N { globals = N.entry }) (record s { globals = s.entry }) (record { locals = k.locals; globals = k.entry; entry = k.entry }) e
    value_kept N s k (UnaryOf o p a) = ap (unary o) (value_kept N s k a) ∙ value_unary I st o (core_of N a)
    value_kept N s k (BinaryOf o p a q b) =
        let f = value_kept N s k a in let g = value_kept N s k b in
        (λ i. binary o (f i) (g i)) ∙ value_binary I st o (core_of N a) (core_of N b)
    value_kept N s k (SelectOf p m q j) =
        let f = value_kept N s k m in let g = value_kept N s k j in
        (λ i. read_map (f i) (index_of (g i))) ∙ sym (value-both I st op.Read (core_of N m) (core_of N j))
    value_kept N s k (StoreOf p m q j r v) =
        let f = value_kept N s k m in let g = value_kept N s k j in let h = value_kept N s k v in
        (λ i. write_map (f i) (index_of (g i)) (h i)) ∙ sym (value-Op I st op.Write (core_of N m ∷ core_of N j ∷ core_of N v ∷ []))
    value_kept N s k _ = refl

    pub values_kept : (N : Names) (s : State) → Kept N s st → {m : _} → (es : Row_of-Expr m) → values I s es ≡ map (value_in I st) (cores_of N es)
    values_kept N s k end_of-Expr = refl
    values_kept N s k (more_of-Expr p e es) =
        let f = value_kept N s k e in let g = values_kept N s k es in λ i. f i ∷ g i
