-- Expressions and assignments as code sees them.
use Rattle.std.proofs.Common.{◌≡◌, List, [], ◌∷◌, refl, sym, ap, ◌∙◌, ℕ, ◌+◌, ◌<◌, ◌≤◌, ◌++◌, length, take, drop, get_or, map}
use Rattle.sd_extract.proofs.SourceWords.{Text, Expr, UnOp, BinOp, ExprKind, Row_of-Expr, end_of-Expr, more_of-Expr, Left}
use Rattle.sd_extract.proofs.CoreWords.{CoreExpr, Op, Names, both, unary_of, binary_of, core_of, cores_of, cores, stored, all_stored}
use Rattle.sd_ast.specs.declared.ExprKind.{Apply, Old, Unary, Binary, Select, Store, items-the_row-Expr, items_hidden-the_row-Expr-0}
use Rattle.sd_ast.specs.declared.ExprKind.TheBlock.{hidden-the_row-Expr-0}
use Rattle.sd_ast.proofs.TreeLemmas.{old_is, unary_is, binary_is, select_is, store_is}
use Rattle.sd_core.specs.declared.CoreExpr.{Apply as Applied}
use Rattle.std.proofs.lemmas.List.{append-nil}
use Rattle.std.proofs.Math.ListN.{drop_of_length-le}
use Rattle.sd_base.proofs.Lists.{drop-at, take-at}
use Rattle.sd_extract.specs.Scopes.{reads}
use Rattle.sd_core.specs.declared.CoreOp.TheVariants as op

row_cores : (N : Names) {m : _} (es : Row_of-Expr m) → cores_of N es ≡ cores N (items-the_row-Expr m es)
row_cores N end_of-Expr = refl
row_cores N (more_of-Expr p e es) = ap (λ (cs : List CoreExpr). core_of N e ∷ cs) (row_cores N es)

pub core-Apply : (N : Names) (e : ExprKind) (f f' : Text) (es es' : List Expr) (cs : List CoreExpr) → e ≡ Apply f es → f' ≡ f → es' ≡ es → cs ≡ cores N es' → Applied f' cs ≡ core_of N e
core-Apply N e f f' es es' cs is same got with =
    (λ i. Applied (same i) ((with ∙ ap (cores N) got) i))
    ∙ (sym (ap (λ (ds : List CoreExpr). Applied f ds) (row_cores N (hidden-the_row-Expr-0 es) ∙ ap (cores N) (items_hidden-the_row-Expr-0 es))) ∙ ap (core_of N) (sym is))

pub core-Old : (N : Names) (e : ExprKind) (a a' : Expr) → e ≡ Old a → a' ≡ a → core_of (record N { globals = N.entry }) a'.kind ≡ core_of N e
core-Old N e a a' is got = ap (λ (x : Expr). core_of (record N { globals = N.entry }) x.kind) got ∙ sym (ap (core_of N) (is ∙ old_is a))

pub core-Unary : (N : Names) (e : ExprKind) (o : UnOp) (a a' : Expr) (c : CoreExpr) → e ≡ Unary o a → a' ≡ a → c ≡ core_of N a'.kind → unary_of o c ≡ core_of N e
core-Unary N e o a a' c is got with = ap (unary_of o) (with ∙ ap (λ (x : Expr). core_of N x.kind) got) ∙ sym (ap (core_of N) (is ∙ unary_is o a))

pub core-Binary : (N : Names) (e : ExprKind) (o : BinOp) (a b a' b' : Expr) (c d : CoreExpr) → e ≡ Binary o a b → a' ≡ a → b' ≡ b → c ≡ core_of N a'.kind → d ≡ core_of N b'.kind → binary_of o c d ≡ core_of N e
core-Binary N e o a b a' b' c d is got got' with with' =
    (λ i. binary_of o ((with ∙ ap (λ (x : Expr). core_of N x.kind) got) i) ((with' ∙ ap (λ (x : Expr). core_of N x.kind) got') i)) ∙ sym (ap (core_of N) (is ∙ binary_is o a b))

pub core-Select : (N : Names) (e : ExprKind) (m i m' i' : Expr) (c d : CoreExpr) → e ≡ Select m i → m' ≡ m → i' ≡ i → c ≡ core_of N m'.kind → d ≡ core_of N i'.kind → both op.Read c d ≡ core_of N e
core-Select N e m i m' i' c d is got got' with with' =
    (λ k. both op.Read ((with ∙ ap (λ (x : Expr). core_of N x.kind) got) k) ((with' ∙ ap (λ (x : Expr). core_of N x.kind) got') k)) ∙ sym (ap (core_of N) (is ∙ select_is m i))

pub core-Store : (N : Names) (e : ExprKind) (m i v m' i' v' : Expr) (c d f : CoreExpr) → e ≡ Store m i v → m' ≡ m → i' ≡ i → v' ≡ v → c ≡ core_of N m'.kind → d ≡ core_of N i'.kind → f ≡ core_of N v'.kind
    → Op op.Write (c ∷ d ∷ f ∷ []) ≡ core_of N e
core-Store N e m i v m' i' v' c d f is got got' got'' with with' with'' =
    (λ k. Op op.Write ((with ∙ ap (λ (x : Expr). core_of N x.kind) got) k ∷ (with' ∙ ap (λ (x : Expr). core_of N x.kind) got') k ∷ (with'' ∙ ap (λ (x : Expr). core_of N x.kind) got'') k ∷ []))
    ∙ sym (ap (core_of N) (is ∙ store_is m i v))

-- ---- assignments

none_right : (N : Names) (ls : List Left) → all_stored N ls [] ≡ []
none_right N [] = refl
none_right N (l ∷ ls) = refl

none_left : (N : Names) (es : List Expr) → all_stored N [] es ≡ []
none_left N [] = refl
none_left N (e ∷ es) = refl

pub lefts_done : (N : Names) (ls : List Left) (es : List Expr) (n : ℕ) (list whole : List CoreExpr) → length ls ≤ n → list ++ all_stored N (drop n ls) (drop n es) ≡ whole → list ≡ whole
lefts_done N ls es n list whole le so =
    sym (append-nil list) ∙ (sym (ap (λ (ys : List CoreExpr). list ++ ys) (ap (λ (ms : List Left). all_stored N ms (drop n es)) (drop_of_length-le ls le) ∙ none_left N (drop n es))) ∙ so)

pub rights_done : (N : Names) (ls : List Left) (es : List Expr) (n : ℕ) (list whole : List CoreExpr) → length es ≤ n → list ++ all_stored N (drop n ls) (drop n es) ≡ whole → list ≡ whole
rights_done N ls es n list whole le so =
    sym (append-nil list) ∙ (sym (ap (λ (ys : List CoreExpr). list ++ ys) (ap (all_stored N (drop n ls)) (drop_of_length-le es le) ∙ none_right N (drop n ls))) ∙ so)

-- ---- into maps

cores_append : (N : Names) (xs : List Expr) (y : Expr) → cores N (xs ++ y ∷ []) ≡ cores N xs ++ core_of N y.kind ∷ []
cores_append N [] y = refl
cores_append N (x ∷ xs) y = ap (λ (cs : List CoreExpr). core_of N x.kind ∷ cs) (cores_append N xs y)

reads_append : (m : CoreExpr) (xs : List CoreExpr) (y : CoreExpr) → reads m (xs ++ y ∷ []) ≡ both op.Read (reads m xs) y
reads_append m [] y = refl
reads_append m (x ∷ xs) y = reads_append (both op.Read m x) xs y

pub stored_more : (N : Names) (is : List Expr) (p n : ℕ) (x : Expr) (m e e' new map index : CoreExpr) → n ≡ p + 1 → p < length is → x ≡ get_or is p x → index ≡ core_of N x.kind → map ≡ reads m (cores N (take p is))
    → e ≡ stored (reads m (cores N (take n is))) (cores N (drop n is)) new → e' ≡ Op op.Write (map ∷ index ∷ e ∷ []) → e' ≡ stored (reads m (cores N (take p is))) (cores N (drop p is)) new
stored_more N is p n x m e e' new map index next lt at with found old made =
    let M = reads m (cores N (take p is)) in
    let i = core_of N x.kind in
    let rest = cores N (drop (p + 1) is) in
    let up : reads m (cores N (take n is)) ≡ both op.Read M i =
    ap (λ k. reads m (cores N (take k is))) next ∙ (ap (λ (l : List Expr). reads m (cores N l)) (take-at is p x lt at) ∙ (ap (reads m) (cores_append N (take p is) x) ∙ reads_append m (cores N (take p is)) i)) in
    let inner : e ≡ stored (both op.Read M i) rest new =
    old ∙ (λ j. stored (up j) (cores N (drop (next j) is)) new) in
    made ∙ ((λ j. Op op.Write (found j ∷ with j ∷ inner j ∷ [])) ∙ sym (ap (λ (l : List Expr). stored M (cores N l) new) (drop-at is p x lt at)))
