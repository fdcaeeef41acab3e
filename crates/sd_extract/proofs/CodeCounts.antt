-- Counts as code sees them.
use Rattle.std.proofs.Common.{◌≡◌, ◌∙◌, sym, ap, refl, ℕ, ◌+◌, ◌<◌, Bool, List, ◌∷◌, length, drop, get_or, arith}
use Rattle.std.specs.Prelude.{◌||◌}
use Rattle.sd_extract.proofs.SourceWords.{Expr, Invariant, Stmt, StmtKind, If, While, Row_of-Stmt, end_of-Stmt, more_of-Stmt, hidden-the_row-Stmt-0, kinds_of, kinds_in}
use Rattle.sd_extract.proofs.CoreWords.{Counts, plus, of_loop, counts, counts_all, counts_each, has_return, has_returns, has_return_among}
use Rattle.sd_ast.specs.declared.StmtKind.{items-the_row-Stmt, items_hidden-the_row-Stmt-0}
use Rattle.sd_extract.proofs.CodeLists.{kinds_next}

pub plus_parts : (a b c d : ℕ) (m n : Counts) → a ≡ m.calls + n.calls → b ≡ m.args + n.args → c ≡ m.lefts + n.lefts → d ≡ m.loops + n.loops → ◌≡◌ {A = Counts} (record { calls = a; args = b; lefts = c; loops = d }) (plus m n)
plus_parts a b c d m n e f g h = λ i. record { calls = e i; args = f i; lefts = g i; loops = h i }

pub plus_assoc : (a b c : Counts) → plus (plus a b) c ≡ plus a (plus b c)
plus_assoc a b c = plus_parts _ _ _ _ a (plus b c) (omega arith) (omega arith) (omega arith) (omega arith)

-- ---- rows and lists

row_kinds : {m : _} (ks : Row_of-Stmt m) → kinds_in ks ≡ kinds_of (items-the_row-Stmt m ks)
row_kinds end_of-Stmt = refl
row_kinds (more_of-Stmt p k ks) = ap (λ (l : List StmtKind). k ∷ l) (row_kinds ks)

pub hidden_kinds : (ss : List Stmt) → kinds_in (hidden-the_row-Stmt-0 ss) ≡ kinds_of ss
hidden_kinds ss = row_kinds (hidden-the_row-Stmt-0 ss) ∙ ap kinds_of (items_hidden-the_row-Stmt-0 ss)

counts_row : {m : _} (ks : Row_of-Stmt m) → counts_all ks ≡ counts_each (kinds_in ks)
counts_row end_of-Stmt = refl
counts_row (more_of-Stmt p k ks) = ap (plus (counts k)) (counts_row ks)

pub counts_hidden : (ss : List Stmt) → counts_all (hidden-the_row-Stmt-0 ss) ≡ counts_each (kinds_of ss)
counts_hidden ss = counts_row (hidden-the_row-Stmt-0 ss) ∙ ap counts_each (hidden_kinds ss)

pub returns_row : {m : _} (ks : Row_of-Stmt m) → has_returns ks ≡ has_return_among (kinds_in ks)
returns_row end_of-Stmt = refl
returns_row (more_of-Stmt p k ks) = ap (λ b. has_return k || b) (returns_row ks)

pub returns_hidden : (ss : List Stmt) → has_returns (hidden-the_row-Stmt-0 ss) ≡ has_return_among (kinds_of ss)
returns_hidden ss = returns_row (hidden-the_row-Stmt-0 ss) ∙ ap has_return_among (hidden_kinds ss)

-- ---- statements in statements

pub counts-If : (k : StmtKind) (e : Expr) (a b a' b' : List Stmt) (m n : Counts) → k ≡ If e a b → a' ≡ a → b' ≡ b → m ≡ counts_each (kinds_of a') → n ≡ counts_each (kinds_of b') → plus m n ≡ counts k
counts-If k e a b a' b' m n is got got' with with' =
    (λ i. plus ((with ∙ ap (λ (l : List Stmt). counts_each (kinds_of l)) got) i) ((with' ∙ ap (λ (l : List Stmt). counts_each (kinds_of l)) got') i))
    ∙ (sym (λ i. plus (counts_hidden a i) (counts_hidden b i)) ∙ ap counts (sym is))

pub returns-If : (k : StmtKind) (e : Expr) (a b a' b' : List Stmt) (m n : Bool) → k ≡ If e a b → a' ≡ a → b' ≡ b → m ≡ has_return_among (kinds_of a') → n ≡ has_return_among (kinds_of b') → (m || n) ≡ has_return k
returns-If k e a b a' b' m n is got got' with with' =
    (λ i. (with ∙ ap (λ (l : List Stmt). has_return_among (kinds_of l)) got) i || (with' ∙ ap (λ (l : List Stmt). has_return_among (kinds_of l)) got') i)
    ∙ (sym (λ i. returns_hidden a i || returns_hidden b i) ∙ ap has_return (sym is))

pub counts-While : (k : StmtKind) (e : Expr) (invs : List Invariant) (b b' : List Stmt) (r : Bool) (m : Counts) → k ≡ While e invs b → b' ≡ b → r ≡ has_return_among (kinds_of b') → m ≡ counts_each (kinds_of b') → of_loop r m ≡ counts k
counts-While k e invs b b' r m is got with with' =
    (λ i. of_loop ((with ∙ ap (λ (l : List Stmt). has_return_among (kinds_of l)) got) i) ((with' ∙ ap (λ (l : List Stmt). counts_each (kinds_of l)) got) i))
    ∙ (sym (λ i. of_loop (returns_hidden b i) (counts_hidden b i)) ∙ ap counts (sym is))

pub returns-While : (k : StmtKind) (e : Expr) (invs : List Invariant) (b b' : List Stmt) (r : Bool) → k ≡ While e invs b → b' ≡ b → r ≡ has_return_among (kinds_of b') → r ≡ has_return k
returns-While k e invs b b' r is got with =
    with ∙ (ap (λ (l : List Stmt). has_return_among (kinds_of l)) got ∙ (sym (returns_hidden b) ∙ ap has_return (sym is)))

-- ---- one statement more

pub counts_next : (ss : List Stmt) (i : ℕ) (s : Stmt) (was more now whole : Counts) → i < length ss → s ≡ get_or ss i s → more ≡ counts s.kind → now ≡ plus was more → plus was (counts_each (kinds_of (drop i ss))) ≡ whole
    → plus now (counts_each (kinds_of (drop (i + 1) ss))) ≡ whole
counts_next ss i s was more now whole lt at with sum so =
    let rest = counts_each (kinds_of (drop (i + 1) ss)) in
    ap (λ (t : Counts). plus t rest) (sum ∙ ap (plus was) with)
    ∙ (plus_assoc was (counts s.kind) rest ∙ (sym (ap (λ (ks : List StmtKind). plus was (counts_each ks)) (kinds_next ss i s lt at)) ∙ so))

-- after a choice, whose branches were counted one after the other
pub plus_next : (at m n t next last : Counts) → next ≡ plus at m → last ≡ plus next n → plus m n ≡ t → last ≡ plus at t
plus_next at m n t next last first second sum = second ∙ (ap (λ (x : Counts). plus x n) first ∙ (plus_assoc at m n ∙ ap (plus at) sum))
