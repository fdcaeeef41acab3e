-- The query of a candidate: facts that no valuation makes true where the candidate holds, if the live candidates hold
-- at calls.
use Rattle.std.specs.Prelude.{ℕ, suc, ◌+◌, ◌==◌, Bool, false, ◌&&◌, ◌||◌, List, [], ◌∷◌, ◌++◌, map, length, get_or, Option, Some, slice_get, if◌then◌else◌}
use Rattle.sd_base.specs.declared.Var.{Var}
use Rattle.sd_base.specs.Value.{same_text}
use Rattle.sd_core.specs.declared.CoreProc.{CoreProc}
use Rattle.sd_core.specs.declared.CoreProgram.{CoreProgram}
use Rattle.sd_core.specs.Store.{Store}
use Rattle.sd_core.specs.Formed.{sorts_of, same_sort}
use Rattle.sd_term.specs.declared.node.Head.{Head}
use Rattle.sd_term.specs.declared.node.Head.TheVariants.{Const}
use Rattle.sd_term.specs.Tree.{Tree, leaf, subterms}
use Rattle.sd_term.specs.Build.{not_of, or_of, eq_of}
use Rattle.sd_vcgen.specs.Body.{Context, Site, State, symbols, term_in, count_all, body_of, outs_of}
use Rattle.sd_match.specs.declared.pair.Pair.{Pair}
use Rattle.sd_cand.specs.declared.candidate.Candidate.{Candidate}
use Rattle.sd_product.specs.Relations.{entry, exit, term_of, claim_term}

-- ---- what is to be judged

-- a candidate with its pair
pub record Claimed : Type 0 where
  pub pair : Pair
  pub candidate : Candidate

-- two programs, and the candidates of all their pairs, numbered in order
pub record Work : Type 0 where
  pub old : CoreProgram
  pub new : CoreProgram
  pub claims : List Claimed

-- the infallible procedures of both
pub record Infallibles : Type 0 where
  pub old : ℕ → Bool
  pub new : ℕ → Bool

abbrev pub old_context : Work → Infallibles → Context
old_context w z = record { program = w.old; infallible = z.old }

abbrev pub new_context : Work → Infallibles → Context
new_context w z = record { program = w.new; infallible = z.new }

abbrev pub is_live : List Bool → ℕ → Bool
is_live table n = get_or table n false

-- ---- inputs and bodies

-- symbols from k on for the in-parameters of a procedure, and after them for its globals
abbrev pub inputs_from : ℕ → CoreProgram → CoreProc → Store Tree
inputs_from k P p = entry (symbols k (sorts_of p.ins)) (symbols (k + length p.ins) (sorts_of P.globals))

-- how many symbols these are
abbrev pub input_count : CoreProgram → CoreProc → ℕ
input_count P p = length p.ins + length P.globals

-- A body between its inputs and its end.
pub record Side : Type 0 where
  pub inputs : Store Tree
  pub body : State
  pub ends : Store Tree

abbrev pub side_of : CoreProc → Store Tree → State → Side
side_of p inputs s = record { inputs = inputs; body = s; ends = exit inputs.slots (outs_of p s) s.store.globals }

-- a side whose inputs have symbols from i on, and whose calls have them from k on
abbrev pub side_from : Context → CoreProc → (i k : ℕ) → Side
side_from C p i k =
    side_of p (inputs_from i C.program p)
    (body_of C p k (inputs_from i C.program p).slots (inputs_from i C.program p).globals)

-- Symbols are numbered in this order: old inputs, new inputs, old calls, new calls.
abbrev pub first_call : Context → Context → CoreProc → CoreProc → ℕ
first_call C D p q = input_count C.program p + input_count D.program q

abbrev pub old_side : Context → Context → CoreProc → CoreProc → Side
old_side C D p q = side_from C p 0 (first_call C D p q)

abbrev pub new_side : Context → Context → CoreProc → CoreProc → Side
new_side C D p q = side_from D q (input_count C.program p) (first_call C D p q + count_all C p.body)

-- ---- calls

-- a claim under conditions
abbrev pub under : List Tree → Tree → Tree
under [] claim = claim
under (w ∷ ws) claim = or_of (not_of w) (under ws claim)

abbrev pub site_inputs : Site → Store Tree
site_inputs a = entry a.args a.before

abbrev pub site_ends : Site → Store Tree
site_ends a = exit a.args a.outs a.after

-- what a candidate says of an old and a new call, where both count
abbrev pub implication : Claimed → Site → Site → Tree
implication x a b =
    or_of (not_of a.guard) (or_of (not_of b.guard)
    (under (map (term_of x.pair.inputs (site_inputs a) (site_inputs b)) x.candidate.when)
    (claim_term x.pair.outputs x.candidate.claim (site_ends a) a.flag (site_ends b) b.flag)))

-- whether it is a candidate of the pair of the two callees
abbrev pub is_about : Claimed → Site → Site → Bool
is_about x a b = (x.pair.old == a.callee) && (x.pair.new == b.callee)

-- each live candidate of their pair, where candidates are numbered from n on
abbrev pub calls_related : List Bool → ℕ → List Claimed → Site → Site → List Tree
calls_related table n [] a b = []
calls_related table n (x ∷ xs) a b =
    (if is_live table n && is_about x a b then implication x a b ∷ [] else []) ++ calls_related table (suc n) xs a b

-- an old call with each new call
abbrev pub with_each : List Bool → List Claimed → Site → List Site → List Tree
with_each table xs a [] = []
with_each table xs a (b ∷ bs) = calls_related table 0 xs a b ++ with_each table xs a bs

abbrev pub all_related : List Bool → List Claimed → List Site → List Site → List Tree
all_related table xs [] bs = []
all_related table xs (a ∷ as') bs = with_each table xs a bs ++ all_related table xs as' bs

-- ---- axioms and unique constants

abbrev pub no_terms : Store Tree
no_terms = entry [] []

abbrev pub axioms_of : CoreProgram → List Tree
axioms_of P = map (term_in P.functions no_terms) P.axioms

abbrev pub is_head_of : Var → Head → Bool
is_head_of c (Const d s) = same_text c.name d && same_sort c.sort s
is_head_of c _ = false

abbrev pub is_constant : Var → Tree → Bool
is_constant c (leaf h) = is_head_of c h
is_constant c _ = false

abbrev pub any_constant : Var → List Tree → Bool
any_constant c [] = false
any_constant c (t ∷ ts) = is_constant c t || any_constant c ts

-- whether a constant occurs in some facts
abbrev pub occurs : List Tree → Var → Bool
occurs [] c = false
occurs (t ∷ ts) c = any_constant c (subterms t) || occurs ts c

abbrev pub constant_term : Var → Tree
constant_term c = leaf (Const c.name c.sort)

abbrev pub apart_from : List Tree → Var → List Var → List Tree
apart_from facts c [] = []
apart_from facts c (d ∷ ds) =
    (if same_sort c.sort d.sort && (occurs facts c && occurs facts d) then not_of
    (eq_of (constant_term c) (constant_term d)) ∷ [] else []) ++ apart_from facts c ds

-- each two unique constants of one type that occur in these facts differ
abbrev pub apart : List Tree → List Var → List Tree
apart facts [] = []
apart facts (c ∷ cs) = apart_from facts c cs ++ apart facts cs

-- ---- the query

-- the conditions of a candidate, of the inputs of both sides
abbrev pub conditions_of : Claimed → Side → Side → List Tree
conditions_of x a b = map (term_of x.pair.inputs a.inputs b.inputs) x.candidate.when

-- its claim, of their ends
abbrev pub claim_of : Claimed → Side → Side → Tree
claim_of x a b = claim_term x.pair.outputs x.candidate.claim a.ends a.body.flag b.ends b.body.flag

-- axioms, conditions, what both bodies assume, and what is known of their calls
abbrev pub premises_of : Work → List Bool → Claimed → Side → Side → List Tree
premises_of w table x a b =
    axioms_of w.old ++ (axioms_of w.new
    ++ (conditions_of x a b ++ (a.body.assumes
    ++ (b.body.assumes ++ all_related table w.claims a.body.sites b.body.sites))))

-- the premises, then that unique constants which occur in them or in the claim differ, and last the denial of the claim
abbrev pub facts_of : Work → List Bool → Claimed → Side → Side → List Tree
facts_of w table x a b =
    premises_of w table x a b ++ (apart (premises_of w table x a b ++ claim_of x a b ∷ []) w.old.uniques
    ++ (apart (premises_of w table x a b ++ claim_of x a b ∷ []) w.new.uniques ++ not_of (claim_of x a b) ∷ []))

abbrev pub query_by : Work → Infallibles → List Bool → Claimed → Option CoreProc → Option CoreProc → List Tree
query_by w z table x (Some p) (Some q) =
    facts_of w table x (old_side (old_context w z) (new_context w z) p q)
    (new_side (old_context w z) (new_context w z) p q)
query_by w z table x _ _ = []

-- the query of a candidate under a table of live candidates
unfoldable pub query_of : Work → Infallibles → List Bool → Claimed → List Tree
query_of w z table x = query_by w z table x (slice_get w.old.procs x.pair.old) (slice_get w.new.procs x.pair.new)
