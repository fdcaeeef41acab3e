-- Expressions and statements without numbers, calls and loops become such ones of the core.
use Rattle.std.proofs.Common.{◌≡◌, ℕ, ◌+◌, Bool, true, false, List, [], ◌∷◌, map, Option, Some, None, refl, sym, ap, ◌∙◌, subst}
use Rattle.std.specs.List.{AllByRecursion}
use Rattle.sd_extract.proofs.SourceWords.{Text, BinOp, UnOp, Expr, Left, ExprKind, Apply', Row_of-Expr, end_of-Expr, more_of-Expr, StmtKind, Assert, Assume, Assign, Call, If', While', Break, Return, Row_of-Stmt, end_of-Stmt, more_of-Stmt, Program, OldOf, UnaryOf, BinaryOf, SelectOf, StoreOf, Clause}
use Rattle.sd_extract.proofs.CoreWords.{Spot, CoreOp, CoreExpr, Apply, Op, Row_of-CoreExpr, end_of-CoreExpr, more_of-CoreExpr, items-the_row-CoreExpr, items_hidden-the_row-CoreExpr-0, hidden-the_row-CoreExpr-0, CoreStmt, If, Row_of-CoreStmt, end_of-CoreStmt, more_of-CoreStmt, items-the_row-CoreStmt, items_hidden-the_row-CoreStmt-0, hidden-the_row-CoreStmt-0, CoreProc, Names, at_place, place_of, unary_of, binary_of, negated, both, core_of, cores_of, Counts, Frame, Source, plus, counts, counts_all, put, checked, check, assume, stored, all_stored, cores, extracted, all_extracted, each_extracted, loops_in, all_loops_in, each_loop_in, IsPropositional}
use Rattle.sd_base.proofs.Lists.{all-append}
use Rattle.sd_ast.specs.declared.tree.BinOp.TheVariants as bin
use Rattle.sd_ast.specs.declared.tree.UnOp.TheVariants as un
use Rattle.sd_ast.specs.declared.tree.ExprKind.{Num, Truth, Var}
use Rattle.sd_core.specs.declared.tree.CoreOp.TheVariants as op
use Rattle.sd_core.specs.Propositional as propositional
use Rattle.sd_extract.specs.Propositional.{HasNoNumber, HaveNoNumber, NoneHasNumber, ArePropositional}
use Rattle.sd_extract.proofs.CodeLists.{all_map}

-- ---- rows of the core as lists

row_numberless : {m : _} (r : Row_of-CoreExpr m) → propositional.HaveNoNumber r ≡ AllByRecursion propositional.HasNoNumber (items-the_row-CoreExpr m r)
row_numberless end_of-CoreExpr = refl
row_numberless (more_of-CoreExpr e r) = ap (λ (T : Type 0). propositional.HasNoNumber e × T) (row_numberless r)

list_numberless : (es : List CoreExpr) → propositional.HaveNoNumber (hidden-the_row-CoreExpr-0 es) ≡ AllByRecursion propositional.HasNoNumber es
list_numberless es = row_numberless (hidden-the_row-CoreExpr-0 es) ∙ ap (AllByRecursion propositional.HasNoNumber) (items_hidden-the_row-CoreExpr-0 es)

pub numberless-Apply : (f : Text) (es : List CoreExpr) → AllByRecursion propositional.HasNoNumber es → propositional.HasNoNumber (Apply f es)
numberless-Apply f es a = let P : Type 0 → Type 0 = λ T. T in subst P (sym (list_numberless es)) a

pub numberless-Op : (o : CoreOp) (es : List CoreExpr) → AllByRecursion propositional.HasNoNumber es → propositional.HasNoNumber (Op o es)
numberless-Op o es a = let P : Type 0 → Type 0 = λ T. T in subst P (sym (list_numberless es)) a

row_propositional : {m : _} (r : Row_of-CoreStmt m) → propositional.ArePropositional r ≡ AllByRecursion propositional.IsPropositional (items-the_row-CoreStmt m r)
row_propositional end_of-CoreStmt = refl
row_propositional (more_of-CoreStmt s r) = ap (λ (T : Type 0). propositional.IsPropositional s × T) (row_propositional r)

list_propositional : (ss : List CoreStmt) → propositional.ArePropositional (hidden-the_row-CoreStmt-0 ss) ≡ AllByRecursion propositional.IsPropositional ss
list_propositional ss = row_propositional (hidden-the_row-CoreStmt-0 ss) ∙ ap (AllByRecursion propositional.IsPropositional) (items_hidden-the_row-CoreStmt-0 ss)

pub propositional-If : (c : CoreExpr) (a b : List CoreStmt) → propositional.HasNoNumber c → AllByRecursion propositional.IsPropositional a → AllByRecursion propositional.IsPropositional b → propositional.IsPropositional (If c a b)
propositional-If c a b h k l =
    let P : Type 0 → Type 0 = λ T. T in
    (h, subst P (sym (list_propositional a)) k, subst P (sym (list_propositional b)) l)

-- ---- expressions

one : (o : CoreOp) (a : CoreExpr) → propositional.HasNoNumber a → propositional.HasNoNumber (Op o (a ∷ []))
one o a h = numberless-Op o (a ∷ []) (h, tt)

two : (o : CoreOp) (a b : CoreExpr) → propositional.HasNoNumber a → propositional.HasNoNumber b → propositional.HasNoNumber (both o a b)
two o a b h k = numberless-Op o (a ∷ b ∷ []) (h, (k, tt))

three : (o : CoreOp) (a b c : CoreExpr) → propositional.HasNoNumber a → propositional.HasNoNumber b → propositional.HasNoNumber c → propositional.HasNoNumber (Op o (a ∷ b ∷ c ∷ []))
three o a b c h k l = numberless-Op o (a ∷ b ∷ c ∷ []) (h, (k, (l, tt)))

negated-numberless : (a : CoreExpr) → propositional.HasNoNumber a → propositional.HasNoNumber (negated a)
negated-numberless a h = one op.Not a h

at_place-numberless : (p : Option Spot) (x : Text) → propositional.HasNoNumber (at_place p x)
at_place-numberless None x = tt
at_place-numberless (Some p) x = tt

unary-numberless : (o : UnOp) (a : CoreExpr) → propositional.HasNoNumber a → propositional.HasNoNumber (unary_of o a)
unary-numberless un.Not a h = one op.Not a h
unary-numberless un.Neg a h = one op.Neg a h

binary-numberless : (o : BinOp) (a b : CoreExpr) → propositional.HasNoNumber a → propositional.HasNoNumber b → propositional.HasNoNumber (binary_of o a b)
binary-numberless bin.Implies a b h k = two op.Or (negated a) b (negated-numberless a h) k
binary-numberless bin.Explies a b h k = two op.Or a (negated b) h (negated-numberless b k)
binary-numberless bin.Ne a b h k = negated-numberless (both op.Eq a b) (two op.Eq a b h k)
binary-numberless bin.Lt a b h k = negated-numberless (both op.Le b a) (two op.Le b a k h)
binary-numberless bin.Gt a b h k = negated-numberless (both op.Le a b) (two op.Le a b h k)
binary-numberless bin.Ge a b h k = two op.Le b a k h
binary-numberless _ a b h k = two op.And a b h k

mutual
  pub core-numberless : (N : Names) (e : ExprKind) → HasNoNumber e → propositional.HasNoNumber (core_of N e)
  core-numberless N (Num n) h = absurd h
  core-numberless N (Truth b) h = tt
  core-numberless N (Var x) h = at_place-numberless (place_of N x) x
  core-numberless N (Apply' f shape args) h = numberless-Apply f (cores_of N args) (cores-numberless N args h)
  core-numberless N (OldOf p e) h = core-numberless (record N { globals = N.entry }) e h
  core-numberless N (UnaryOf o p a) h = unary-numberless o (core_of N a) (core-numberless N a h)
  core-numberless N (BinaryOf o p a q b) h = binary-numberless o (core_of N a) (core_of N b) (core-numberless N a h.0) (core-numberless N b h.1)
  core-numberless N (SelectOf p m q i) h = two op.Read (core_of N m) (core_of N i) (core-numberless N m h.0) (core-numberless N i h.1)
  core-numberless N (StoreOf p m q i r v) h =
      three op.Write (core_of N m) (core_of N i) (core_of N v) (core-numberless N m h.0) (core-numberless N i h.1) (core-numberless N v h.2)

  cores-numberless : (N : Names) {m : _} (r : Row_of-Expr m) → HaveNoNumber r → AllByRecursion propositional.HasNoNumber (cores_of N r)
  cores-numberless N end_of-Expr h = tt
  cores-numberless N (more_of-Expr p e r) h = (core-numberless N e h.0, cores-numberless N r h.1)

-- ---- statements

pub put-propositional : (ps : List Spot) (es : List CoreExpr) → AllByRecursion propositional.HasNoNumber es → AllByRecursion propositional.IsPropositional (put ps es)
put-propositional [] es h = tt
put-propositional (p ∷ ps) es h = (h, tt)

checked-propositional : (free : Bool) (c : CoreExpr) → propositional.HasNoNumber c → propositional.IsPropositional (checked free c)
checked-propositional true c h = h
checked-propositional false c h = propositional-If (negated c) _ [] (negated-numberless c h) (tt, tt) tt

abbrev pub IsNumberless : Clause → Type 0
IsNumberless c = HasNoNumber c.holds.kind

pub checks-propositional : (N : Names) (cs : List Clause) → AllByRecursion IsNumberless cs → AllByRecursion propositional.IsPropositional (map (check N) cs)
checks-propositional N = all_map IsNumberless propositional.IsPropositional (check N) (λ c h. checked-propositional c.free (core_of N c.holds.kind) (core-numberless N c.holds.kind h))

pub assumes-propositional : (N : Names) (cs : List Clause) → AllByRecursion IsNumberless cs → AllByRecursion propositional.IsPropositional (map (assume N) cs)
assumes-propositional N = all_map IsNumberless propositional.IsPropositional (assume N) (λ c h. core-numberless N c.holds.kind h)

list-numberless : (N : Names) (es : List Expr) → NoneHasNumber es → AllByRecursion propositional.HasNoNumber (cores N es)
list-numberless N = all_map (λ e. HasNoNumber e.kind) propositional.HasNoNumber (λ e. core_of N e.kind) (λ e h. core-numberless N e.kind h)

stored-numberless : (m : CoreExpr) (is : List CoreExpr) (e : CoreExpr) → propositional.HasNoNumber m → AllByRecursion propositional.HasNoNumber is → propositional.HasNoNumber e → propositional.HasNoNumber (stored m is e)
stored-numberless m [] e h k l = l
stored-numberless m (i ∷ is) e h k l =
    three op.Write m i (stored (both op.Read m i) is e) h k.0 (stored-numberless (both op.Read m i) is e (two op.Read m i h k.0) k.1 l)

all_stored-numberless : (N : Names) (ls : List Left) (es : List Expr) → AllByRecursion (λ l. NoneHasNumber l.indices) ls → NoneHasNumber es → AllByRecursion propositional.HasNoNumber (all_stored N ls es)
all_stored-numberless N [] es h k = tt
all_stored-numberless N (l ∷ ls) [] h k = tt
all_stored-numberless N (l ∷ ls) (e ∷ es) h k = (
  stored-numberless (at_place (place_of N l.name) l.name) (cores N l.indices) (core_of N e.kind) (at_place-numberless (place_of N l.name) l.name) (list-numberless N l.indices h.0) (core-numberless N e.kind k.0),
  all_stored-numberless N ls es h.1 k.1,
)

abbrev pub AllPropositional : List CoreStmt → Type 0
AllPropositional = AllByRecursion propositional.IsPropositional

module _ (P : Program) (number : Text → ℕ) (F : Frame) (leave : AllPropositional F.leave) where
  mutual
    extracted-propositional : (at : Counts) (k : StmtKind) → IsPropositional k → AllPropositional (extracted P number F at k)
    extracted-propositional at (Assert e) h = (checked-propositional false (core_of F.names e.kind) (core-numberless F.names e.kind h), tt)
    extracted-propositional at (Assume e) h = (core-numberless F.names e.kind h, tt)
    extracted-propositional at (Assign ls es) h = (all_stored-numberless F.names ls es h.0 h.1, tt)
    extracted-propositional at (If' e shape a shape' b) h =
        (propositional-If (core_of F.names e.kind) (all_extracted P number F at a) (all_extracted P number F (plus at (counts_all a)) b) (core-numberless F.names e.kind h.0) (row_extracted-propositional at a h.1) (row_extracted-propositional (plus at (counts_all a)) b h.2), tt)
    extracted-propositional at Break h = (tt, tt)
    extracted-propositional at Return h = leave
    extracted-propositional at _ h = absurd h

    row_extracted-propositional : (at : Counts) {m : _} (r : Row_of-Stmt m) → ArePropositional r → AllPropositional (all_extracted P number F at r)
    row_extracted-propositional at end_of-Stmt h = tt
    row_extracted-propositional at (more_of-Stmt p k ks) h =
        all-append propositional.IsPropositional (extracted P number F at k) (all_extracted P number F (plus at (counts k)) ks) (extracted-propositional at k h.0) (row_extracted-propositional (plus at (counts k)) ks h.1)

  pub each_extracted-propositional : (at : Counts) (ks : List StmtKind) → AllByRecursion IsPropositional ks → AllPropositional (each_extracted P number F at ks)
  each_extracted-propositional at [] h = tt
  each_extracted-propositional at (k ∷ ks) h =
      all-append propositional.IsPropositional (extracted P number F at k) (each_extracted P number F (plus at (counts k)) ks) (extracted-propositional at k h.0) (each_extracted-propositional (plus at (counts k)) ks h.1)

-- ---- loops: there are none

module _ (P : Program) (number : Text → ℕ) (S : Source) (Q : CoreProc → Type 0) where
  mutual
    loops-none : (n : ℕ) (k : StmtKind) → IsPropositional k → AllByRecursion Q (loops_in P number S n k)
    loops-none n (Call xs f es) h = absurd h
    loops-none n (If' e shape a shape' b) h = all-append Q (all_loops_in P number S n a) _ (row_loops-none n a h.1) (row_loops-none _ b h.2)
    loops-none n (While' e invs shape body) h = absurd h
    loops-none n _ h = tt

    row_loops-none : (n : ℕ) {m : _} (r : Row_of-Stmt m) → ArePropositional r → AllByRecursion Q (all_loops_in P number S n r)
    row_loops-none n end_of-Stmt h = tt
    row_loops-none n (more_of-Stmt p k ks) h = all-append Q (loops_in P number S n k) _ (loops-none n k h.0) (row_loops-none _ ks h.1)

  pub each_loops-none : (n : ℕ) (ks : List StmtKind) → AllByRecursion IsPropositional ks → AllByRecursion Q (each_loop_in P number S n ks)
  each_loops-none n [] h = tt
  each_loops-none n (k ∷ ks) h = all-append Q (loops_in P number S n k) _ (loops-none n k h.0) (each_loops-none (n + (counts k).loops) ks h.1)
