-- what each step needs and does
use Rattle.std.specs.Prelude.{ℕ, suc, ◌^◌, nat_le, Bool, true, false, not, ◌&&◌, ◌||◌, if◌then◌else◌, List, [], ◌∷◌, ◌++◌, Option, Some, None, option_and_then, take, slice_get}
use Rattle.std.specs.List.{list_all}
use Rattle.sd_kernel.specs.declared.step.Step.{Step}
use Rattle.sd_kernel.specs.declared.step.Step.TheVariants.{Split, Close, Term, Order, Ite as ChooseBranch, Chain, Rows}
use Rattle.sd_kernel.specs.declared.step.NodeLine.{NodeLine}
use Rattle.sd_kernel.specs.declared.step.NodeLine.TheVariants.{Eq as EqLine, Le as LeLine, Read as ReadLine, Diff as DiffLine}
use Rattle.sd_kernel.specs.declared.step.RowLine.{RowLine}
use Rattle.sd_kernel.specs.declared.step.RowLine.TheVariants.{Fact as FactLine, Back, Add, Cut}
use Rattle.sd_kernel.specs.declared.step.StepCause.{StepCause}
use Rattle.sd_kernel.specs.declared.step.StepCause.TheVariants.{Number, Shape, Known, Value, Row as RowCause, Wide}
use Rattle.sd_base.specs.declared.sort.Sort.{Sort}
use Rattle.sd_base.specs.Sorts.{MapOf}
use Rattle.sd_term.specs.declared.node.Head.{Head}
use Rattle.sd_term.specs.Heads.{Eq, Le, Ite, Read, Diff}
use Rattle.sd_term.specs.Tree.{Tree, tree, head_of, same_tree}
use Rattle.sd_term.specs.Numbering.{has}
use Rattle.sd_term.specs.Sorts.{is_truth_sort, same_sort, sort_of}
use Rattle.sd_rows.specs.declared.row.Row.{Row}
use Rattle.sd_rows.specs.Rows.{is_within, is_absurd}
use Rattle.sd_rows.specs.RowOps.{added, reduced}
use Rattle.sd_forms.specs.FactRows.{part_at, is_int_sort, is_eq_head, is_le, is_int_eq, below_row, back_row, above_row}
use Rattle.sd_kernel.specs.Known.{Fact, Trail, known, known_by_parts, is_known, has_fact}

-- What a step makes of a branch: it is bad at one of its lines, counted from 0, or it leaves the terms and the
-- branches that take the branch's place, of which none is left where it is closed.
pub data Outcome : Type 0 where
  bad : ℕ → StepCause → Outcome
  leaves : List Tree → List Trail → Outcome

-- a number has to name something
abbrev pub named : {A : Type 0} → Option A → (A → Outcome) → Outcome
named None f = bad 0 Number
named (Some x) f = f x

-- a test has to pass
abbrev pub needs : Bool → StepCause → Outcome → Outcome
needs true c o = o
needs false c o = bad 0 c

-- the branch with one more fact
abbrev pub adds : List Tree → Trail → Tree → Bool → Outcome
adds terms trail t b = leaves terms ((trail ++ (t, b) ∷ []) ∷ [])

-- the branch where the term is true, and the one where it is false
abbrev pub splits : List Tree → Trail → Tree → Outcome
splits terms trail t = leaves terms ((trail ++ (t, true) ∷ []) ∷ (trail ++ (t, false) ∷ []) ∷ [])

-- ---- new terms

-- whether maps with these indices are read by them
abbrev pub is_read_by : Sort → Sort → Bool
is_read_by (MapOf i v) s = same_sort i s
is_read_by _ s = false

abbrev pub is_map : Sort → Bool
is_map (MapOf i v) = true
is_map _ = false

-- whether the term may be made of parts of these sorts
abbrev pub fits : NodeLine → Sort → Sort → Bool
fits (EqLine a b) s r = same_sort s r
fits (LeLine a b) s r = is_int_sort s && is_int_sort r
fits (ReadLine a b) s r = is_read_by s r
fits (DiffLine a b) s r = is_map s && same_sort s r

abbrev pub line_head : NodeLine → Head
line_head (EqLine a b) = Eq
line_head (LeLine a b) = Le
line_head (ReadLine a b) = Read
line_head (DiffLine a b) = Diff

abbrev pub first_part : NodeLine → ℕ
first_part (EqLine a b) = a
first_part (LeLine a b) = a
first_part (ReadLine a b) = a
first_part (DiffLine a b) = a

abbrev pub second_part : NodeLine → ℕ
second_part (EqLine a b) = b
second_part (LeLine a b) = b
second_part (ReadLine a b) = b
second_part (DiffLine a b) = b

-- the next number goes to a new term
abbrev pub numbers_next : List Tree → Trail → Tree → Outcome
numbers_next terms trail t = needs (not (has terms t)) Known (leaves (terms ++ t ∷ []) (trail ∷ []))

-- ---- equalities

abbrev pub is_eq : Tree → Bool
is_eq t = is_eq_head (head_of t)

-- the equality of two terms
abbrev pub is_eq_of : Tree → Tree → Tree → Bool
is_eq_of e a b = same_tree e (tree Eq (a ∷ b ∷ []))

-- the order of two terms
abbrev pub is_le_of : Tree → Tree → Tree → Bool
is_le_of l a b = same_tree l (tree Le (a ∷ b ∷ []))

-- the side of an equality that isn't the given term
abbrev pub other_side : Tree → Tree → Option Tree
other_side e a =
    if same_tree (part_at e 0) a then Some (part_at e 1)
    else (if same_tree (part_at e 1) a then Some (part_at e 0) else None)

-- equalities lead from a to c, each of them either way round
abbrev pub leads : Tree → List Tree → Tree → Bool
leads a [] c = same_tree a c
leads a (e ∷ es) c = is_eq e && (elim (other_side e a) [ None ↦ false | Some b ↦ leads b es c ])

abbrev pub is_nil : List Tree → Bool
is_nil [] = true
is_nil (t ∷ ts) = false

-- they lead from one side of e to the other, and none of them does so where the two are one
abbrev pub is_chain : Tree → List Tree → Bool
is_chain e es =
    is_eq e && leads (part_at e 0) es (part_at e 1) && (is_nil es || not (same_tree (part_at e 0) (part_at e 1)))

-- the terms with these numbers, where each of them is there
abbrev pub all_at : List Tree → List ℕ → Option (List Tree)
all_at terms [] = Some []
all_at terms (n ∷ ns) =
    option_and_then (λ t. option_and_then (λ ts. Some (t ∷ ts)) (all_at terms ns)) (slice_get terms n)

-- ---- orders

-- e is an equality of integers, and l and r are the two orders of its sides
abbrev pub are_orders_of : Tree → Tree → Tree → Bool
are_orders_of e l r =
    is_int_eq e && ((is_le_of l (part_at e 0) (part_at e 1) && is_le_of r (part_at e 1) (part_at e 0))
    || (is_le_of l (part_at e 1) (part_at e 0) && is_le_of r (part_at e 0) (part_at e 1)))

-- ---- choices

abbrev pub is_ite_head : Head → Bool
is_ite_head Ite = true
is_ite_head _ = false

-- the part that is chosen by the value of the condition
abbrev pub chosen_part : Tree → Bool → Tree
chosen_part t true = part_at t 1
chosen_part t false = part_at t 2

-- t is a choice, and e the equality of t and one of the two parts to choose from
abbrev pub is_choice_of : Tree → Tree → Bool
is_choice_of t e = is_ite_head (head_of t) && (is_eq_of e t (part_at t 1) || is_eq_of e t (part_at t 2))

-- the condition is known, and e is the equality of t and the part that it chooses
abbrev pub is_chosen : Trail → Tree → Tree → Bool
is_chosen trail t e = elim (known trail (part_at t 0)) [ None ↦ false | Some b ↦ is_eq_of e t (chosen_part t b) ]

-- ---- rows

-- a row, or the first cause why there is none
pub data Made : Type 0 where
  made : Row → Made
  wrong : StepCause → Made

-- the first side of a true order or equality is at most the second, and that of a false order is above it
abbrev pub row_of_fact : List Tree → Fact → Made
row_of_fact terms (t, true) = if is_le t || is_int_eq t then made (below_row terms t) else wrong Shape
row_of_fact terms (t, false) =
    if is_le t then made (above_row terms t) else (if is_int_eq t then wrong Value else wrong Shape)

-- the second side of a true equality is at most the first
abbrev pub row_back : List Tree → Fact → Made
row_back terms (t, true) = if is_int_eq t then made (back_row terms t) else wrong Shape
row_back terms (t, false) = if is_int_eq t then wrong Value else wrong Shape

abbrev pub named_row : {A : Type 0} → Option A → (A → Made) → Made
named_row None f = wrong Number
named_row (Some x) f = f x

abbrev pub is_multiplier : ℕ → Bool
is_multiplier m = nat_le 1 m && nat_le m (2 ^ 58)

-- the row of a line after these rows
abbrev pub row_of_line : List Tree → Trail → List Row → RowLine → Made
row_of_line terms trail rows (FactLine k) = named_row (slice_get trail k) (row_of_fact terms)
row_of_line terms trail rows (Back k) = named_row (slice_get trail k) (row_back terms)
row_of_line terms trail rows (Add a m b n) =
    named_row (slice_get rows a) (λ r. named_row (slice_get rows b) (λ s.
    if is_multiplier m && is_multiplier n then made (added m r n s) else wrong RowCause))
row_of_line terms trail rows (Cut a) = named_row (slice_get rows a) (λ r. made (reduced r))

-- the row is within the bounds, and then the rest is done
abbrev pub if_within : ℕ → Row → Outcome → Outcome
if_within i r rest = if is_within r then rest else bad i Wide

-- a line has to give a row
abbrev pub gives_row : ℕ → Made → (Row → Outcome) → Outcome
gives_row i (wrong c) f = bad i c
gives_row i (made r) f = f r

-- each line gives a row within the bounds, and the last one is absurd; i is the line's place in the step
abbrev pub refuted_by : List Tree → Trail → ℕ → List Row → List RowLine → Outcome
refuted_by terms trail i rows [] = bad 0 RowCause
refuted_by terms trail i rows (l ∷ []) =
    gives_row i (row_of_line terms trail rows l)
    (λ r. if is_absurd r then if_within i r (leaves terms []) else bad i RowCause)
refuted_by terms trail i rows (l ∷ ls) =
    gives_row i (row_of_line terms trail rows l)
    (λ r. if_within i r (refuted_by terms trail (suc i) (rows ++ r ∷ []) ls))

-- ---- closed branches

-- the term of a fact has the opposite value by its parts, or by one of the first k facts
abbrev pub is_contradicted : Trail → ℕ → Fact → Bool
is_contradicted trail k f = is_known (known_by_parts trail f.0) (not f.1) || has_fact (take k trail) f.0 (not f.1)

-- ---- the table of steps

abbrev pub outcome : List Tree → Trail → Step → Outcome
outcome terms trail (Term line) =
    named (slice_get terms (first_part line)) (λ a. named (slice_get terms (second_part line)) (λ b.
    needs (fits line (sort_of a) (sort_of b)) Shape (numbers_next terms trail (tree (line_head line) (a ∷ b ∷ [])))))
outcome terms trail (Split n) =
    named (slice_get terms n) (λ t. needs (is_truth_sort (sort_of t)) Shape (splits terms trail t))
outcome terms trail (Order e l r) =
    named (slice_get terms e) (λ t. named (slice_get terms l) (λ p. named (slice_get terms r) (λ q.
    needs (are_orders_of t p q) Shape (
    needs (is_known (known trail t) false && is_known (known trail p) true) Value (adds terms trail q false)))))
outcome terms trail (ChooseBranch t e) =
    named (slice_get terms t) (λ a. named (slice_get terms e) (λ b.
    needs (is_choice_of a b) Shape (needs (is_chosen trail a b) Value (adds terms trail b true))))
outcome terms trail (Chain e fs) =
    named (slice_get terms e) (λ t. named (all_at terms fs) (λ ts.
    needs (is_chain t ts) Shape (
    needs (list_all (λ u. is_known (known trail u) true) ts) Value (adds terms trail t true))))
outcome terms trail (Close k) =
    named (slice_get trail k) (λ (f : Fact). needs (is_contradicted trail k f) Value (leaves terms []))
outcome terms trail (Rows lines) = refuted_by terms trail 1 [] lines
