-- The slots and the names of the core procedures.
use Rattle.std.proofs.Common.{◌≡◌, ℕ, suc, ◌-◌, List, [], ◌∷◌, ◌++◌, map, refl, sym, ◌∙◌, ap, subst, append_assoc}
use Rattle.std.specs.Prelude.{Bool, true, false, cond, not, ◌&&◌, ◌==◌, codes, if◌then◌else◌}
use Rattle.std.specs.Fmt.{decimal}
use Rattle.std.specs.List.{AllByRecursion, IsDistinct, filter}
use Rattle.std.proofs.lemmas.List.{append-nil, map-append}
use Rattle.std.proofs.lemmas.List.Elements.{filter-append}
use Rattle.sd_extract.proofs.SourceWords.{Sort, BoolSort, Var, Text, same_text, Program, Expr, StmtKind, Call, If', While', Row_of-Stmt, end_of-Stmt, more_of-Stmt, Clause, procedure_in}
use Rattle.sd_extract.proofs.CoreWords.{CoreProgram, sorts_of, state_sorts, names_of, IsSort, Counts, plus, counts, counts_all, none, has_returns, Source, state_of, copies_of, kinds, arg_vars, ins_of, args_in, all_args_in, each_args_in, lefts_in, all_lefts_in, each_left_in, hidden, body_proc, loop_proc}
use Rattle.sd_base.proofs.Lists.{all-append, all-filter}
use Rattle.sd_core.specs.Formed.{is_plain}
use Rattle.sd_extract.proofs.CodeLists.{all_map}
use Rattle.sd_extract.proofs.Parts.{hidden_have}
use Rattle.sd_extract.proofs.FormedSpots.{Holds, holds_within}
use Rattle.sd_extract.proofs.FormedStatements.{left_sort_if, arg_sorts, all_arg_sorts, each_arg_sorts, left_sorts, all_left_sorts, each_left_sorts}

-- ---- types of hidden locals

sorts_append : (xs ys : List Var) → sorts_of (xs ++ ys) ≡ sorts_of xs ++ sorts_of ys
sorts_append xs ys = map-append (λ v. v.sort) xs ys

arg_vars-sorts : (call i : ℕ) (vs : List Var) → sorts_of (arg_vars call i vs) ≡ sorts_of vs
arg_vars-sorts call i [] = refl
arg_vars-sorts call i (v ∷ vs) = ap (λ (l : List Sort). v.sort ∷ l) (arg_vars-sorts call (suc i) vs)

mutual
  args-sorts : (P : Program) (at : Counts) (k : StmtKind) → sorts_of (args_in P at k) ≡ arg_sorts P k
  args-sorts P at (Call xs f es) = arg_vars-sorts (suc at.calls) 1 (ins_of (procedure_in P.decls f))
  args-sorts P at (If' e shape a shape' b) =
      sorts_append (all_args_in P at a) (all_args_in P (plus at (counts_all a)) b) ∙ (λ i. all_args-sorts P at a i ++ all_args-sorts P (plus at (counts_all a)) b i)
  args-sorts P at _ = refl

  all_args-sorts : (P : Program) (at : Counts) {m : _} (ks : Row_of-Stmt m) → sorts_of (all_args_in P at ks) ≡ all_arg_sorts P ks
  all_args-sorts P at end_of-Stmt = refl
  all_args-sorts P at (more_of-Stmt p k ks) =
      sorts_append (args_in P at k) (all_args_in P (plus at (counts k)) ks) ∙ (λ i. args-sorts P at k i ++ all_args-sorts P (plus at (counts k)) ks i)

each_args-sorts : (P : Program) (at : Counts) (ks : List StmtKind) → sorts_of (each_args_in P at ks) ≡ each_arg_sorts P ks
each_args-sorts P at [] = refl
each_args-sorts P at (k ∷ ks) =
    sorts_append (args_in P at k) (each_args_in P (plus at (counts k)) ks) ∙ (λ i. args-sorts P at k i ++ each_args-sorts P (plus at (counts k)) ks i)

left_var-sorts : (r : Bool) (name : Text) → sorts_of (if r then record { name = name; sort = BoolSort } ∷ [] else []) ≡ left_sort_if r
left_var-sorts true name = refl
left_var-sorts false name = refl

mutual
  lefts-sorts : (at : Counts) (k : StmtKind) → sorts_of (lefts_in at k) ≡ left_sorts k
  lefts-sorts at (While' e invs shape body) = left_var-sorts (has_returns body) (decimal (suc at.loops) ++ codes "@left")
  lefts-sorts at (If' e shape a shape' b) =
      sorts_append (all_lefts_in at a) (all_lefts_in (plus at (counts_all a)) b) ∙ (λ i. all_lefts-sorts at a i ++ all_lefts-sorts (plus at (counts_all a)) b i)
  lefts-sorts at _ = refl

  all_lefts-sorts : (at : Counts) {m : _} (ks : Row_of-Stmt m) → sorts_of (all_lefts_in at ks) ≡ all_left_sorts ks
  all_lefts-sorts at end_of-Stmt = refl
  all_lefts-sorts at (more_of-Stmt p k ks) =
      sorts_append (lefts_in at k) (all_lefts_in (plus at (counts k)) ks) ∙ (λ i. lefts-sorts at k i ++ all_lefts-sorts (plus at (counts k)) ks i)

pub each_lefts-sorts : (at : Counts) (ks : List StmtKind) → sorts_of (each_left_in at ks) ≡ each_left_sorts ks
each_lefts-sorts at [] = refl
each_lefts-sorts at (k ∷ ks) =
    sorts_append (lefts_in at k) (each_left_in (plus at (counts k)) ks) ∙ (λ i. lefts-sorts at k i ++ each_lefts-sorts (plus at (counts k)) ks i)

pub hidden-sorts : (P : Program) (at : Counts) (ks : List StmtKind) → sorts_of (hidden P at ks) ≡ each_arg_sorts P ks ++ each_left_sorts ks
hidden-sorts P at ks =
    sorts_append (each_args_in P at ks) (each_left_in at ks) ∙ (λ i. each_args-sorts P at ks i ++ each_lefts-sorts at ks i)

copy-sorts : (vs : List Var) → sorts_of (map (λ v. record { name = v.name ++ codes "@copy"; sort = v.sort }) vs) ≡ sorts_of vs
copy-sorts [] = refl
copy-sorts (v ∷ vs) = ap (λ (l : List Sort). v.sort ∷ l) (copy-sorts vs)

pub copied-sorts : (S : Source) → sorts_of (copies_of S) ≡ sorts_of S.copied
copied-sorts S = copy-sorts S.copied

-- ---- slots

pub holds_all : (slots all : List Sort) → slots ≡ all → Holds slots 0 all
holds_all slots all e = holds_within slots [] all [] 0 (e ∙ sym (append-nil all)) refl

pub at_slot : (slots : List Sort) (k l : ℕ) (ss : List Sort) → k ≡ l → Holds slots k ss → Holds slots l ss
at_slot slots k l ss e h = subst (λ (n : ℕ). Holds slots n ss) e h

pub body_slots : (K : CoreProgram) (P : Program) (number : Text → ℕ) (S : Source) → (state_sorts K (body_proc P number S)).slots ≡ sorts_of S.routine.head.ins ++ (sorts_of (state_of S) ++ (sorts_of S.copied ++ (each_arg_sorts P (kinds S) ++ each_left_sorts (kinds S))))
body_slots K P number S =
    let ins = sorts_of S.routine.head.ins in
    let outs = sorts_of S.routine.head.outs in
    let locals = sorts_of S.routine.body.locals in
    let hide = hidden P none (kinds S) in
    let rest = sorts_of S.copied ++ (each_arg_sorts P (kinds S) ++ each_left_sorts (kinds S)) in
    let inner : sorts_of (copies_of S ++ hide) ≡ rest = sorts_append (copies_of S) hide ∙ (λ i. copied-sorts S i ++ hidden-sorts P none (kinds S) i) in
    let own : sorts_of (S.routine.body.locals ++ (copies_of S ++ hide)) ≡ locals ++ rest = sorts_append S.routine.body.locals (copies_of S ++ hide) ∙ ap (λ (l : List Sort). locals ++ l) inner in
    ap (λ (l : List Sort). ins ++ (outs ++ l)) own ∙ ap (λ (l : List Sort). ins ++ l) (sym (append_assoc outs locals rest)) ∙ ap (λ (l : List Sort). ins ++ (l ++ rest)) (sym (sorts_append S.routine.head.outs S.routine.body.locals))

pub loop_ins : (P : Program) (number : Text → ℕ) (S : Source) (k : ℕ) (guard : Expr) (invs : List Clause) (returns : Bool) (turn : List StmtKind) → sorts_of (loop_proc P number S k guard invs returns turn).ins ≡ sorts_of S.routine.head.ins ++ (sorts_of (state_of S) ++ sorts_of S.copied)
loop_ins P number S k guard invs returns turn =
    sorts_append S.routine.head.ins (state_of S ++ copies_of S) ∙ ap (λ (l : List Sort). sorts_of S.routine.head.ins ++ l) (sorts_append (state_of S) (copies_of S) ∙ ap (λ (l : List Sort). sorts_of (state_of S) ++ l) (copied-sorts S))

pub loop_outs : (P : Program) (number : Text → ℕ) (S : Source) (k : ℕ) (guard : Expr) (invs : List Clause) (returns : Bool) (turn : List StmtKind) → sorts_of (loop_proc P number S k guard invs returns turn).outs ≡ sorts_of (state_of S) ++ left_sort_if returns
loop_outs P number S k guard invs returns turn =
    sorts_append (state_of S) (if returns then record { name = codes "left"; sort = BoolSort } ∷ [] else []) ∙ ap (λ (l : List Sort). sorts_of (state_of S) ++ l) (left_var-sorts returns (codes "left"))

pub loop_slots : (K : CoreProgram) (P : Program) (number : Text → ℕ) (S : Source) (k : ℕ) (guard : Expr) (invs : List Clause) (returns : Bool) (turn : List StmtKind) → (state_sorts K (loop_proc P number S k guard invs returns turn)).slots ≡ sorts_of S.routine.head.ins ++ (sorts_of (state_of S) ++ (sorts_of S.copied ++ (sorts_of (state_of S) ++ (left_sort_if returns ++ (each_arg_sorts P turn ++ each_left_sorts turn)))))
loop_slots K P number S k guard invs returns turn =
    let ins = sorts_of S.routine.head.ins in
    let state = sorts_of (state_of S) in
    let copied = sorts_of S.copied in
    let left = left_sort_if returns in
    let hide = each_arg_sorts P turn ++ each_left_sorts turn in
    let own = state ++ (left ++ hide) in
    let first = loop_ins P number S k guard invs returns turn in
    let second = loop_outs P number S k guard invs returns turn in
    let third = hidden-sorts P (record none { loops = k - S.number }) turn in
    (λ i. first i ++ (second i ++ third i)) ∙ ap (λ (l : List Sort). (ins ++ (state ++ copied)) ++ l) (append_assoc state left hide) ∙ append_assoc ins (state ++ copied) own ∙ ap (λ (l : List Sort). ins ++ l) (append_assoc state copied own)

-- ---- types are fit

pub sorts_join : (xs ys : List Var) → AllByRecursion IsSort (sorts_of xs) → AllByRecursion IsSort (sorts_of ys) → AllByRecursion IsSort (sorts_of (xs ++ ys))
sorts_join [] ys h k = k
sorts_join (x ∷ xs) ys h k = (h.0, sorts_join xs ys h.1 k)

args_fit : (call i : ℕ) (vs : List Var) → AllByRecursion IsSort (sorts_of vs) → AllByRecursion (λ v. IsSort v.sort) (arg_vars call i vs)
args_fit call i [] h = tt
args_fit call i (v ∷ vs) h = (h.0, args_fit call (suc i) vs h.1)

pub hidden_fit : (P : Program) → ((f : Text) → AllByRecursion IsSort (sorts_of (ins_of (procedure_in P.decls f)))) → (at : Counts) (ks : List StmtKind) → AllByRecursion IsSort (sorts_of (hidden P at ks))
hidden_fit P known at ks =
    all_map (λ v. IsSort v.sort) IsSort (λ v. v.sort) (λ v h. h) (hidden P at ks) (hidden_have P (λ v. IsSort v.sort) (λ call f. args_fit call 1 (ins_of (procedure_in P.decls f)) (known f)) (λ n. tt) at ks)

-- ---- names of hidden locals

not_plain : (xs ys : List ℕ) → is_plain (xs ++ (64 ∷ ys)) ≡ false
not_plain [] ys = refl
not_plain (c ∷ xs) ys = elim (not (c == 64)) as (λ b. (b && is_plain (xs ++ (64 ∷ ys))) ≡ false) [ true ↦ not_plain xs ys | false ↦ refl ]

abbrev AreHidden : List Var → Type 0
AreHidden = AllByRecursion (λ v. is_plain v.name ≡ false)

copies_hidden : (vs : List Var) → AreHidden (map (λ v. record { name = v.name ++ codes "@copy"; sort = v.sort }) vs)
copies_hidden [] = tt
copies_hidden (v ∷ vs) = (not_plain v.name (codes "copy"), copies_hidden vs)

arg_vars_hidden : (call i : ℕ) (vs : List Var) → AreHidden (arg_vars call i vs)
arg_vars_hidden call i [] = tt
arg_vars_hidden call i (v ∷ vs) = (not_plain (decimal call) (codes "arg@" ++ decimal i), arg_vars_hidden call (suc i) vs)

none_plain : (vs : List Var) → AreHidden vs → filter is_plain (names_of vs) ≡ []
none_plain [] h = refl
none_plain (v ∷ vs) h = ap (λ (b : Bool). cond b (v.name ∷ filter is_plain (names_of vs)) (filter is_plain (names_of vs))) h.0 ∙ none_plain vs h.1

distinct_filter : (test : Text → Bool) (xs : List Text) → IsDistinct same_text xs → IsDistinct same_text (filter test xs)
unfolding IsDistinct
distinct_filter test [] h = tt
distinct_filter test (x ∷ xs) h = go (test x) (distinct_filter test xs h.1)
  where
    go : (b : Bool) → IsDistinct same_text (filter test xs) → IsDistinct same_text (cond b (x ∷ filter test xs) (filter test xs))
    go true k = (all-filter (λ y. same_text x y ≡ false) test xs h.0, k)
    go false k = k

names_append : (xs ys : List Var) → names_of (xs ++ ys) ≡ names_of xs ++ names_of ys
names_append xs ys = map-append (λ v. v.name) xs ys

-- with hidden locals behind them, the names of a text are still different
pub root_names : (P : Program) (S : Source) → IsDistinct same_text (names_of S.routine.head.ins ++ (names_of S.routine.head.outs ++ names_of S.routine.body.locals)) → IsDistinct same_text (filter is_plain (names_of (S.routine.head.ins ++ (S.routine.head.outs ++ (S.routine.body.locals ++ (copies_of S ++ hidden P none (kinds S)))))))
root_names P S h =
    let ins = S.routine.head.ins in let outs = S.routine.head.outs in let locals = S.routine.body.locals in
    let hide = copies_of S ++ hidden P none (kinds S) in
    let own = names_of ins ++ (names_of outs ++ names_of locals) in
    let are_hidden = all-append (λ v. is_plain v.name ≡ false) (copies_of S) (hidden P none (kinds S)) (copies_hidden S.copied) (hidden_have P (λ v. is_plain v.name ≡ false) (λ call f. arg_vars_hidden call 1 (ins_of (procedure_in P.decls f))) (λ n. not_plain (decimal n) (codes "left")) none (kinds S)) in
    let inner : names_of (outs ++ (locals ++ hide)) ≡ (names_of outs ++ names_of locals) ++ names_of hide = names_append outs (locals ++ hide) ∙ ap (λ (l : List Text). names_of outs ++ l) (names_append locals hide) ∙ sym (append_assoc (names_of outs) (names_of locals) (names_of hide)) in
    let all : names_of (ins ++ (outs ++ (locals ++ hide))) ≡ own ++ names_of hide = names_append ins (outs ++ (locals ++ hide)) ∙ ap (λ (l : List Text). names_of ins ++ l) inner ∙ sym (append_assoc (names_of ins) (names_of outs ++ names_of locals) (names_of hide)) in
    let kept : filter is_plain (names_of (ins ++ (outs ++ (locals ++ hide)))) ≡ filter is_plain own = ap (filter is_plain) all ∙ filter-append is_plain own (names_of hide) ∙ ap (λ (l : List Text). filter is_plain own ++ l) (none_plain hide are_hidden) ∙ append-nil (filter is_plain own) in
    subst (IsDistinct same_text) (sym kept) (distinct_filter is_plain own h)
