-- Which procedures of two programs are compared, on which inputs and outputs, and why a pair can be refused.
-- `PlainPairs` and `PlainSpots` say it in plain words.
use Rattle.std.specs.Prelude.{ℕ, suc, ◌+◌, ◌-◌, ◌==◌, min, Bool, true, false, ◌&&◌, ◌||◌, List, [], ◌∷◌, ◌++◌, length, take, drop, Option, Some, None, slice_get, if◌then◌else◌}
use Rattle.std.specs.Option.{is_none, option_map}
use Rattle.std.specs.List.{filter}
use Rattle.sd_base.specs.declared.Var.{Var}
use Rattle.sd_base.specs.declared.Sort.{Sort}
use Rattle.sd_base.specs.Value.{Text, same_text}
use Rattle.sd_core.specs.declared.Spot.TheVariants.{Slot, Global}
use Rattle.sd_core.specs.declared.Shared.{Shared}
use Rattle.sd_core.specs.declared.CoreProc.{CoreProc}
use Rattle.sd_core.specs.declared.CoreProgram.{CoreProgram}
use Rattle.sd_core.specs.Formed.{same_sort}
use Rattle.sd_core.specs.Failure.{place_from, shared_of}
use Rattle.sd_runs.specs.Calls.{callees_of}
use Rattle.sd_match.specs.declared.pair.SpotPair.{SpotPair}
use Rattle.sd_match.specs.declared.pair.PairState.{PairState}
use Rattle.sd_match.specs.declared.pair.PairState.TheVariants.{Open, Signature, UnmatchedRecursion}
use Rattle.sd_match.specs.declared.pair.Pair.{Pair}

-- ---- partners

-- as many variables, of the same types by position
abbrev pub same_sorts : List Var → List Var → Bool
same_sorts [] [] = true
same_sorts (x ∷ xs) (y ∷ ys) = same_sort x.sort y.sort && same_sorts xs ys
same_sorts _ _ = false

-- the parameters have the same types
abbrev pub same_types : CoreProc → CoreProc → Bool
same_types p q = same_sorts p.ins q.ins && same_sorts p.outs q.outs

-- the place of the procedure of the text that has this name, where places are counted from n on
abbrev pub root_from : ℕ → List CoreProc → Text → Option ℕ
root_from n [] f = None
root_from n (p ∷ ps) f = if is_none p.parent && same_text f p.name then Some n else root_from (suc n) ps f

-- whether a procedure is that of loop k of the one at place q
abbrev pub is_loop_of : ℕ → ℕ → Option (ℕ × ℕ) → Bool
is_loop_of q k None = false
is_loop_of q k (Some parent) = (parent.0 == q) && (parent.1 == k)

-- the loops of a procedure follow it
abbrev pub loop_at : List CoreProc → ℕ → ℕ → Option CoreProc → Option ℕ
loop_at procs q k None = None
loop_at procs q k (Some p) = if is_loop_of q k p.parent then Some (q + k) else None

-- the partner of loop k of a procedure, whose own partner is this one at place j, where their types agree
abbrev pub loop_partner : CoreProgram → CoreProc → ℕ → ℕ → Option CoreProc → Option ℕ
loop_partner Q root k j None = None
loop_partner Q root k j (Some other) =
    if same_types root other then loop_at Q.procs j k (slice_get Q.procs (j + k)) else None

abbrev pub loop_partner_at : CoreProgram → CoreProc → ℕ → Option ℕ → Option ℕ
loop_partner_at Q root k None = None
loop_partner_at Q root k (Some j) = loop_partner Q root k j (slice_get Q.procs j)

abbrev pub loop_partner_in : CoreProgram → Option CoreProc → ℕ → Option ℕ
loop_partner_in Q None k = None
loop_partner_in Q (Some root) k = loop_partner_at Q root k (root_from 0 Q.procs root.name)

-- The partner of a procedure of the text has its name. That of a loop has its number, in the partner of the procedure
-- that it stands in.
abbrev pub partner_by : CoreProgram → CoreProgram → CoreProc → Option (ℕ × ℕ) → Option ℕ
partner_by P Q p None = root_from 0 Q.procs p.name
partner_by P Q p (Some parent) = loop_partner_in Q (slice_get P.procs parent.0) parent.1

abbrev pub partner : CoreProgram → CoreProgram → CoreProc → Option ℕ
partner P Q p = partner_by P Q p p.parent

abbrev pub is_unmatched : CoreProgram → CoreProgram → Option CoreProc → Bool
is_unmatched P Q None = true
is_unmatched P Q (Some p) = is_none (partner P Q p)

-- ---- inputs and outputs

-- the slots from i on with those from j on, by position
abbrev pub by_position : ℕ → ℕ → List Var → List Var → List SpotPair
by_position i j (x ∷ xs) (y ∷ ys) =
    record { old = Slot i; new = Slot j; sort = x.sort } ∷ by_position (suc i) (suc j) xs ys
by_position i j _ _ = []

abbrev pub named_pair : ℕ → ℕ → Sort → Option ℕ → List SpotPair
named_pair i j s None = []
named_pair i j s (Some n) = record { old = Slot i; new = Slot (j + n); sort = s } ∷ []

-- each with the one of the same name and type, in the order of the old ones
abbrev pub by_name : ℕ → ℕ → List Var → List Var → List SpotPair
by_name i j [] news = []
by_name i j (x ∷ olds) news = named_pair i j x.sort (place_from 0 news x) ++ by_name (suc i) j olds news

abbrev pub shared_pair : Shared → Option Var → List SpotPair
shared_pair s None = []
shared_pair s (Some x) = record { old = Global s.old; new = Global s.new; sort = x.sort } ∷ []

-- shared globals, by their places
abbrev pub shared_pairs : List Var → List Shared → List SpotPair
shared_pairs globals [] = []
shared_pairs globals (s ∷ ss) = shared_pair s (slice_get globals s.old) ++ shared_pairs globals ss

-- the procedure that a loop stands in
abbrev pub root_by : CoreProgram → Option (ℕ × ℕ) → Option CoreProc
root_by P None = None
root_by P (Some parent) = slice_get P.procs parent.0

abbrev pub root_of : CoreProgram → CoreProc → Option CoreProc
root_of P p = root_by P p.parent

-- How many in-parameters are paired by position: all of a procedure of the text, and of a loop those that stand for the
-- parameters of the procedure that it stands in.
abbrev pub fixed_ins : CoreProc → Option CoreProc → ℕ
fixed_ins p None = length p.ins
fixed_ins p (Some root) = length root.ins + length root.outs

-- so of the out-parameters
abbrev pub fixed_outs : CoreProc → Option CoreProc → ℕ
fixed_outs p None = length p.outs
fixed_outs p (Some root) = length root.outs

-- how many declared locals a loop carries: its in-parameters are those parameters, the locals, and a copy for each
-- modified global
abbrev pub carried_count : CoreProc → Option CoreProc → ℕ
carried_count p None = 0
carried_count p (Some root) = length p.ins - (length root.ins + (length root.outs + length p.modifies))

-- in-parameters: by position, and then a loop's locals and copies of globals by name
abbrev pub in_pairs : (a b : ℕ) → (olds news : List Var) → List SpotPair
in_pairs a b olds news = by_position 0 0 (take a olds) (take b news) ++ by_name a b (drop a olds) (drop b news)

-- out-parameters, in slots from i and from j on: by position, then a loop's locals by name, and last whether it left
-- the procedure
abbrev pub out_pairs : (i j a b d e : ℕ) → (olds news : List Var) → List SpotPair
out_pairs i j a b d e olds news =
    by_position i j (take a olds) (take b news)
    ++ (by_name (i + a) (j + b) (take d (drop a olds)) (take e (drop b news)) ++
    by_position (i + (a + d)) (j + (b + e)) (drop (a + d) olds) (drop (b + e) news))

abbrev pub is_among : ℕ → List ℕ → Bool
is_among i [] = false
is_among i (n ∷ ns) = (i == n) || is_among i ns

-- the shared globals that one of two procedures may modify
abbrev pub modified_globals : CoreProc → CoreProc → List Shared → List Shared
modified_globals p q = filter (λ s. is_among s.old p.modifies || is_among s.new q.modifies)

abbrev pub inputs_of : CoreProgram → CoreProgram → CoreProc → CoreProc → List SpotPair
inputs_of P Q p q =
    in_pairs (fixed_ins p (root_of P p)) (fixed_ins q (root_of Q q)) p.ins q.ins
    ++ shared_pairs P.globals (shared_of P.globals Q.globals)

abbrev pub outputs_of : CoreProgram → CoreProgram → CoreProc → CoreProc → List SpotPair
outputs_of P Q p q =
    out_pairs (length p.ins) (length q.ins) (fixed_outs p (root_of P p)) (fixed_outs q (root_of Q q))
    (carried_count p (root_of P p)) (carried_count q (root_of Q q)) p.outs q.outs
    ++
    shared_pairs P.globals (modified_globals p q (shared_of P.globals Q.globals))

-- ---- states

-- the place of the procedure of the text that the body of procedure n belongs to
abbrev pub owner : ℕ → Option (ℕ × ℕ) → ℕ
owner n None = n
owner n (Some parent) = parent.0

-- the unmatched procedures that the body of procedure i and those of its loops call
abbrev pub unmatched_calls : CoreProgram → CoreProgram → ℕ → ℕ → List CoreProc → List ℕ
unmatched_calls P Q i n [] = []
unmatched_calls P Q i n (p ∷ ps) =
    (if owner n p.parent == i then filter (λ q. is_unmatched P Q (slice_get P.procs q)) (callees_of p.body) else [])
    ++ unmatched_calls P Q i (suc n) ps

abbrev pub least_with : ℕ → Option ℕ → ℕ
least_with n None = n
least_with n (Some m) = min n m

-- the least of some numbers
abbrev pub least : List ℕ → Option ℕ
least [] = None
least (n ∷ ns) = Some (least_with n (least ns))

-- the name of the first unmatched procedure that procedure i or a loop of it calls
abbrev pub name_at : List CoreProc → Option ℕ → Option Text
name_at procs None = None
name_at procs (Some q) = option_map (λ p. p.name) (slice_get procs q)

abbrev pub first_unmatched : CoreProgram → CoreProgram → ℕ → Option Text
first_unmatched P Q i = name_at P.procs (least (unmatched_calls P Q i 0 P.procs))

-- Calls of procedures without partners can't be related: the old text comes first.
abbrev pub state_by : Option Text → Option Text → PairState
state_by (Some x) new = UnmatchedRecursion x
state_by None (Some x) = UnmatchedRecursion x
state_by None None = Open

-- the state of the pair of two procedures of the texts at these places
abbrev pub state_of : CoreProgram → CoreProgram → ℕ → ℕ → Option CoreProc → Option CoreProc → PairState
state_of P Q i j (Some p) (Some q) =
    if same_types p q then state_by (first_unmatched P Q i) (first_unmatched Q P j) else Signature
state_of P Q i j _ _ = Signature

-- ---- pairs

-- a pair whose types differ has no inputs and no outputs
abbrev pub pair_with : PairState → CoreProgram → CoreProgram → ℕ → ℕ → CoreProc → CoreProc → Pair
pair_with Signature P Q i j p q = record { old = i; new = j; state = Signature; inputs = []; outputs = [] }
pair_with state P Q i j p q =
    record { old = i; new = j; state = state; inputs = inputs_of P Q p q; outputs = outputs_of P Q p q }

-- A loop's pair has the state of the procedures' pair.
abbrev pub pair_at : CoreProgram → CoreProgram → ℕ → ℕ → CoreProc → Option CoreProc → List Pair
pair_at P Q i j p None = []
pair_at P Q i j p (Some q) =
    pair_with
    (state_of P Q (owner i p.parent) (owner j q.parent) (slice_get P.procs (owner i p.parent))
    (slice_get Q.procs (owner j q.parent))) P Q i j p q
    ∷ []

abbrev pub pair_by : CoreProgram → CoreProgram → ℕ → CoreProc → Option ℕ → List Pair
pair_by P Q i p None = []
pair_by P Q i p (Some j) = pair_at P Q i j p (slice_get Q.procs j)

abbrev pub pairs_from : CoreProgram → CoreProgram → ℕ → List CoreProc → List Pair
pairs_from P Q i [] = []
pairs_from P Q i (p ∷ ps) = pair_by P Q i p (partner P Q p) ++ pairs_from P Q (suc i) ps

-- the pairs in the order of the old procedures, each followed by those of its loops
abbrev pub pairs_of : CoreProgram → CoreProgram → List Pair
pairs_of P Q = pairs_from P Q 0 P.procs
