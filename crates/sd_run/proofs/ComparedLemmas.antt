-- The test for programs that are compared is exact.
use Rattle.std.proofs.Common.{◌≡◌, ◌∙◌, sym, ap, refl, subst, Bool, true, false, ◌&&◌, List, ◌∷◌, ◌++◌, map, ◌↔◌, Contains, inl, inr, arith}
use Rattle.std.proofs.lemmas.Bool.{and_parts, and_from}
use Rattle.std.specs.Prelude.{Option, Some, None}
use Rattle.std.specs.List.{list_all, AllByRecursion}
use Rattle.std.proofs.lemmas.List.Folds.{list_all-map}
use Rattle.std.proofs.lemmas.List.Elements.{Contains-append_left, Contains-append_right}
use Rattle.sd_base.specs.declared.Sort.{Sort, Int, Bool as BoolSort}
use Rattle.sd_base.specs.declared.Var.{Var}
use Rattle.sd_base.proofs.Lists.{contains-head, contains-tail}
use Rattle.sd_ast.specs.declared.BinOp.{BinOp}
use Rattle.sd_ast.specs.declared.BinOp.TheVariants.{Mul}
use Rattle.sd_ast.specs.declared.Expr.{Expr}
use Rattle.sd_ast.specs.declared.ExprKind.{ExprKind, Apply', Row_of-Expr, end_of-Expr, more_of-Expr}
use Rattle.sd_ast.specs.declared.StmtKind.{StmtKind, Assert, Assume, Assign, Call, If', While', Break, Return, Row_of-Stmt, end_of-Stmt, more_of-Stmt}
use Rattle.sd_ast.specs.declared.Stmt.{Stmt}
use Rattle.sd_ast.specs.declared.Left.{Left}
use Rattle.sd_ast.specs.declared.Invariant.{Invariant}
use Rattle.sd_ast.specs.declared.Spec.{Spec}
use Rattle.sd_ast.specs.declared.Spec.TheVariants.{Modifies, Requires, Ensures}
use Rattle.sd_ast.specs.declared.Head.{Head}
use Rattle.sd_ast.specs.declared.Body.{Body}
use Rattle.sd_ast.specs.declared.Decl.{Decl}
use Rattle.sd_ast.specs.declared.Decl.TheVariants.{Globals, Procedure, Implementation}
use Rattle.sd_ast.specs.Tree.{OldOf, UnaryOf, BinaryOf, SelectOf, StoreOf}
use Rattle.sd_run.specs.Compared.{is_plain_sort, are_plain, is_no_product, has_no_product, have_no_product, none_has_product, is_compared, have_compared, are_compared, is_compared_spec, is_compared_head, is_compared_body, maybe_compared_body, is_compared_decl}
use Rattle.sd_run.specs.ComparedPrograms.{expressions_of, parts_of, Multiplies, product, part, statements_of, blocks_of, values_of, HasProduct, value, index, inner, IsPlainSort, locals_in, body_in, IsComparedClause, IsComparedDecl, ComparedIsExact}
use Rattle.sd_run.proofs.Booleans.{contains_true, true_contains, append_join, append_split, all_exact}

-- ---- expressions

row_parts : {m : _} (r : Row_of-Expr m) → have_no_product r ≡ list_all has_no_product (expressions_of r)
row_parts end_of-Expr = refl
row_parts (more_of-Expr p e es) = ap (λ b. has_no_product e && b) (row_parts es)

one : (a : Bool) → a ≡ true → (a && true) ≡ true
one a h = and_from a true h refl

two : (a b : Bool) → (a && b) ≡ true → (a && (b && true)) ≡ true
two a b h = let s = and_parts a b h in and_from a (b && true) s.0 (one b s.1)

three : (a b c : Bool) → ((a && b) && c) ≡ true → (a && (b && (c && true))) ≡ true
three a b c h = let s = and_parts (a && b) c h in let t = and_parts a b s.0 in and_from a (b && (c && true)) t.0 (two b c (and_from b c t.1 s.1))

-- no part has a product where the whole has none
parts_plain : (e : ExprKind) → has_no_product e ≡ true → list_all has_no_product (parts_of e) ≡ true
parts_plain (Apply' f shape args) h = sym (row_parts args) ∙ h
parts_plain (OldOf p a) h = one (has_no_product a) h
parts_plain (UnaryOf op p a) h = one (has_no_product a) h
parts_plain (BinaryOf op p a q b) h =
    let s = and_parts (is_no_product op && has_no_product a) (has_no_product b) h in
    two (has_no_product a) (has_no_product b) (and_from (has_no_product a) (has_no_product b) (and_parts (is_no_product op) (has_no_product a) s.0).1 s.1)
parts_plain (SelectOf p m q i) h = two (has_no_product m) (has_no_product i) h
parts_plain (StoreOf p m q i r v) h = three (has_no_product m) (has_no_product i) (has_no_product v) h
parts_plain _ h = refl

no_product : (e : ExprKind) → has_no_product e ≡ true → Multiplies e → ⊥
no_product _ h (product p q a b) = let bad : false ≡ true = h in cc
no_product e h (part _ a c m) = no_product a (contains_true has_no_product (parts_of e) a (parts_plain e h) c) m

is_other : (op : BinOp) → (op ≡ Mul → ⊥) → is_no_product op ≡ true
is_other Mul h = absurd (h refl)
is_other _ h = refl

mutual
  plain : (e : ExprKind) → (Multiplies e → ⊥) → has_no_product e ≡ true
  plain (Apply' f shape args) h = plain_row args (λ a c m. h (part (Apply' f shape args) a c m))
  plain (OldOf p a) h = plain a (λ m. h (part (OldOf p a) a (0, omega arith, refl) m))
  plain (UnaryOf op p a) h = plain a (λ m. h (part (UnaryOf op p a) a (0, omega arith, refl) m))
  plain (BinaryOf op p a q b) h =
      and_from (is_no_product op && has_no_product a) (has_no_product b)
      (and_from (is_no_product op) (has_no_product a) (is_other op (λ is. h (subst (λ (o : BinOp). Multiplies (BinaryOf o p a q b)) (sym is) (product p q a b)))) (plain a (λ m. h (part (BinaryOf op p a q b) a (0, omega arith, refl) m))))
      (plain b (λ m. h (part (BinaryOf op p a q b) b (1, omega arith, refl) m)))
  plain (SelectOf p a q i) h =
      and_from (has_no_product a) (has_no_product i) (plain a (λ m. h (part (SelectOf p a q i) a (0, omega arith, refl) m))) (plain i (λ m. h (part (SelectOf p a q i) i (1, omega arith, refl) m)))
  plain (StoreOf p a q i r v) h =
      and_from (has_no_product a && has_no_product i) (has_no_product v)
      (and_from (has_no_product a) (has_no_product i) (plain a (λ m. h (part (StoreOf p a q i r v) a (0, omega arith, refl) m))) (plain i (λ m. h (part (StoreOf p a q i r v) i (1, omega arith, refl) m))))
      (plain v (λ m. h (part (StoreOf p a q i r v) v (2, omega arith, refl) m)))
  plain _ h = refl

  plain_row : {n : _} (r : Row_of-Expr n) → ((a : ExprKind) → Contains (expressions_of r) a → Multiplies a → ⊥) → have_no_product r ≡ true
  plain_row end_of-Expr h = refl
  plain_row (more_of-Expr p e es) h =
      and_from (has_no_product e) (have_no_product es) (plain e (h e (contains-head e (expressions_of es)))) (plain_row es (λ a c. h a (contains-tail e (expressions_of es) a c)))

-- ---- statements

abbrev is_plain : Expr → Bool
is_plain e = has_no_product e.kind

row_blocks : {m : _} (r : Row_of-Stmt m) → have_compared r ≡ list_all is_compared (statements_of r)
row_blocks end_of-Stmt = refl
row_blocks (more_of-Stmt p s ss) = ap (λ b. is_compared s && b) (row_blocks ss)

values_plain : (s : StmtKind) → is_compared s ≡ true → list_all is_plain (values_of s) ≡ true
values_plain (Assert e) h = one (is_plain e) h
values_plain (Assume e) h = one (is_plain e) h
values_plain (Assign ls es) h = (and_parts (list_all (λ (l : Left). none_has_product l.indices) ls) (none_has_product es) h).1
values_plain (Call xs f es) h = h
values_plain (If' e shape a shape' b) h = one (is_plain e) (and_parts (is_plain e) (have_compared a) (and_parts (is_plain e && have_compared a) (have_compared b) h).0).0
values_plain (While' e is shape a) h =
    let s = and_parts (is_plain e) (list_all (λ (i : Invariant). is_plain i.expr) is) (and_parts (is_plain e && list_all (λ (i : Invariant). is_plain i.expr) is) (have_compared a) h).0 in
    and_from (is_plain e) (list_all is_plain (map (λ (i : Invariant). i.expr) is)) s.0 (list_all-map is_plain (λ (i : Invariant). i.expr) is ∙ s.1)
values_plain Break h = refl
values_plain Return h = refl

blocks_plain : (s : StmtKind) → is_compared s ≡ true → list_all is_compared (blocks_of s) ≡ true
blocks_plain (If' e shape a shape' b) h =
    let s = and_parts (is_plain e && have_compared a) (have_compared b) h in
    append_join is_compared (statements_of a) (statements_of b) (sym (row_blocks a) ∙ (and_parts (is_plain e) (have_compared a) s.0).1) (sym (row_blocks b) ∙ s.1)
blocks_plain (While' e is shape a) h = sym (row_blocks a) ∙ (and_parts (is_plain e && list_all (λ (i : Invariant). is_plain i.expr) is) (have_compared a) h).1
blocks_plain _ h = refl

no_product_in : (s : StmtKind) → is_compared s ≡ true → HasProduct s → ⊥
no_product_in s h (value _ e c m) = no_product e.kind (contains_true is_plain (values_of s) e (values_plain s h) c) m
no_product_in _ h (index ls es l e c d m) =
    let lefts = (and_parts (list_all (λ (k : Left). none_has_product k.indices) ls) (none_has_product es) h).0 in
    no_product e.kind (contains_true is_plain l.indices e (contains_true (λ (k : Left). none_has_product k.indices) ls l lefts c) d) m
no_product_in s h (inner _ t c m) = no_product_in t (contains_true is_compared (blocks_of s) t (blocks_plain s h) c) m

-- expressions of a statement without products
plain_values : (es : List Expr) → ((e : Expr) → Contains es e → Multiplies e.kind → ⊥) → none_has_product es ≡ true
plain_values es h = true_contains is_plain es (λ e c. plain e.kind (h e c))

mutual
  compared : (s : StmtKind) → (HasProduct s → ⊥) → is_compared s ≡ true
  compared (Assert e) h = plain e.kind (λ m. h (value (Assert e) e (0, omega arith, refl) m))
  compared (Assume e) h = plain e.kind (λ m. h (value (Assume e) e (0, omega arith, refl) m))
  compared (Assign ls es) h =
      and_from (list_all (λ (l : Left). none_has_product l.indices) ls) (none_has_product es)
      (true_contains (λ (l : Left). none_has_product l.indices) ls (λ l c. plain_values l.indices (λ e d m. h (index ls es l e c d m))))
      (plain_values es (λ e c m. h (value (Assign ls es) e c m)))
  compared (Call xs f es) h = plain_values es (λ e c m. h (value (Call xs f es) e c m))
  compared (If' e shape a shape' b) h =
      and_from (is_plain e && have_compared a) (have_compared b)
      (and_from (is_plain e) (have_compared a) (plain e.kind (λ m. h (value (If' e shape a shape' b) e (0, omega arith, refl) m)))
      (compared_all a (λ t c m. h (inner (If' e shape a shape' b) t (Contains-append_left (statements_of a) (statements_of b) t c) m))))
      (compared_all b (λ t c m. h (inner (If' e shape a shape' b) t (Contains-append_right (statements_of a) (statements_of b) t c) m)))
  compared (While' e is shape a) h =
      let values = plain_values (e ∷ map (λ (i : Invariant). i.expr) is) (λ x c m. h (value (While' e is shape a) x c m)) in
      let s = and_parts (is_plain e) (list_all is_plain (map (λ (i : Invariant). i.expr) is)) values in
      and_from (is_plain e && list_all (λ (i : Invariant). is_plain i.expr) is) (have_compared a)
      (and_from (is_plain e) (list_all (λ (i : Invariant). is_plain i.expr) is) s.0 (sym (list_all-map is_plain (λ (i : Invariant). i.expr) is) ∙ s.1))
      (compared_all a (λ t c m. h (inner (While' e is shape a) t c m)))
  compared Break h = refl
  compared Return h = refl

  compared_all : {n : _} (r : Row_of-Stmt n) → ((t : StmtKind) → Contains (statements_of r) t → HasProduct t → ⊥) → have_compared r ≡ true
  compared_all end_of-Stmt h = refl
  compared_all (more_of-Stmt p s ss) h =
      and_from (is_compared s) (have_compared ss) (compared s (h s (contains-head s (statements_of ss)))) (compared_all ss (λ t c. h t (contains-tail s (statements_of ss) t c)))

-- ---- declarations

sort_exact : (x : Var) → (is_plain_sort x.sort ≡ true) ↔ IsPlainSort x.sort
sort_exact x = go x.sort
  where
    go : (s : Sort) → (is_plain_sort s ≡ true) ↔ IsPlainSort s
    go Int = (λ h. inl refl, λ h. refl)
    go BoolSort = (λ h. inr refl, λ h. refl)
    go _ = (λ h. absurd (let bad : false ≡ true = h in cc), λ h. elim h [ inl e ↦ absurd (cc) | inr e ↦ absurd (cc) ])

clause_exact : (s : Spec) → (is_compared_spec s ≡ true) ↔ IsComparedClause s
clause_exact (Modifies names) = (λ h. tt, λ h. refl)
clause_exact (Requires free e) = (no_product e.kind, plain e.kind)
clause_exact (Ensures free e) = (no_product e.kind, plain e.kind)

sorts_exact : (xs : List Var) → (are_plain xs ≡ true) ↔ AllByRecursion (λ x. IsPlainSort x.sort) xs
sorts_exact = all_exact (λ (x : Var). is_plain_sort x.sort) (λ x. IsPlainSort x.sort) sort_exact

clauses_exact : (ss : List Spec) → (list_all is_compared_spec ss ≡ true) ↔ AllByRecursion IsComparedClause ss
clauses_exact = all_exact is_compared_spec IsComparedClause clause_exact

body_exact : (ss : List Stmt) → (are_compared ss ≡ true) ↔ AllByRecursion (λ s. HasProduct s.kind → ⊥) ss
body_exact = all_exact (λ (s : Stmt). is_compared s.kind) (λ s. HasProduct s.kind → ⊥) (λ s. (no_product_in s.kind, compared s.kind))

maybe_body : (b : Option Body) → maybe_compared_body b ≡ (are_plain (locals_in b) && are_compared (body_in b))
maybe_body None = refl
maybe_body (Some b) = refl

module _ (h : Head) (locals : List Var) (stmts : List Stmt) where
  vars_split : is_compared_head h ≡ true → are_plain locals ≡ true → are_plain (h.ins ++ (h.outs ++ locals)) ≡ true
  vars_split head is =
      let s = and_parts (are_plain h.ins) (are_plain h.outs) head in
      append_join (λ (x : Var). is_plain_sort x.sort) h.ins (h.outs ++ locals) s.0 (append_join (λ (x : Var). is_plain_sort x.sort) h.outs locals s.1 is)

  vars_join : are_plain (h.ins ++ (h.outs ++ locals)) ≡ true → (is_compared_head h ≡ true) × (are_plain locals ≡ true)
  vars_join is =
      let s = append_split (λ (x : Var). is_plain_sort x.sort) h.ins (h.outs ++ locals) is in
      let t = append_split (λ (x : Var). is_plain_sort x.sort) h.outs locals s.1 in
      (and_from (are_plain h.ins) (are_plain h.outs) s.0 t.0, t.1)

decl_exact : (d : Decl) → (is_compared_decl d ≡ true) ↔ IsComparedDecl d
decl_exact (Globals vars) = (
  λ h. record { kind = tt; sorts = (sorts_exact vars).0 h; clauses = tt; body = tt },
  λ h. (sorts_exact vars).1 h.sorts,
)
decl_exact (Procedure p) = (
  λ h.
      let s = and_parts (is_compared_head p.head && list_all is_compared_spec p.specs) (maybe_compared_body p.body) h in
      let t = and_parts (is_compared_head p.head) (list_all is_compared_spec p.specs) s.0 in
      let b = and_parts (are_plain (locals_in p.body)) (are_compared (body_in p.body)) (sym (maybe_body p.body) ∙ s.1) in
      record { kind = tt; sorts = (sorts_exact _).0 (vars_split p.head (locals_in p.body) (body_in p.body) t.0 b.0); clauses = (clauses_exact p.specs).0 t.1; body = (body_exact (body_in p.body)).0 b.1 },
  λ h.
      let v = vars_join p.head (locals_in p.body) (body_in p.body) ((sorts_exact _).1 h.sorts) in
      and_from (is_compared_head p.head && list_all is_compared_spec p.specs) (maybe_compared_body p.body)
      (and_from (is_compared_head p.head) (list_all is_compared_spec p.specs) v.0 ((clauses_exact p.specs).1 h.clauses))
      (maybe_body p.body ∙ and_from (are_plain (locals_in p.body)) (are_compared (body_in p.body)) v.1 ((body_exact (body_in p.body)).1 h.body)),
)
decl_exact (Implementation i) = (
  λ h.
      let s = and_parts (is_compared_head i.head) (is_compared_body i.body) h in
      let b = and_parts (are_plain i.body.locals) (are_compared i.body.stmts) s.1 in
      record { kind = tt; sorts = (sorts_exact _).0 (vars_split i.head i.body.locals i.body.stmts s.0 b.0); clauses = tt; body = (body_exact i.body.stmts).0 b.1 },
  λ h.
      let v = vars_join i.head i.body.locals i.body.stmts ((sorts_exact _).1 h.sorts) in
      and_from (is_compared_head i.head) (is_compared_body i.body) v.0 (and_from (are_plain i.body.locals) (are_compared i.body.stmts) v.1 ((body_exact i.body.stmts).1 h.body)),
)
decl_exact _ = (λ h. absurd (let bad : false ≡ true = h in cc), λ h. absurd (h.kind))

pub compared_is_exact : ComparedIsExact
compared_is_exact P = all_exact is_compared_decl IsComparedDecl decl_exact P.decls
