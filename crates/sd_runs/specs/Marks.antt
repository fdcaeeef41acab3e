-- How the infallible procedures are found: from those whose bodies show that they aren't, a mark spreads to callers.
use Rattle.std.specs.Prelude.{ℕ, suc, Bool, false, not, ◌&&◌, List, [], ◌∷◌, ◌++◌, Option, Some, None, get_or, set, slice_get, nat_lt, if◌then◌else◌}
use Rattle.std.specs.List.{list_all}
use Rattle.sd_core.specs.declared.CoreProc.{CoreProc}
use Rattle.sd_runs.specs.Calls.{callees_of, any_fail}

-- ---- callers

-- the callees of a procedure, where there is one
abbrev pub callees_in : Option CoreProc → List ℕ
callees_in None = []
callees_in (Some p) = callees_of p.body

-- the callees of the procedure at a place
abbrev pub callees_at : List CoreProc → ℕ → List ℕ
callees_at procs r = callees_in (slice_get procs r)

-- lists of callers, by callees, with this caller of these callees besides
abbrev pub with_caller : (caller : ℕ) → (callees : List ℕ) → List (List ℕ) → List (List ℕ)
with_caller r [] lists = lists
with_caller r (q ∷ qs) lists = with_caller r qs (set lists q (get_or lists q [] ++ r ∷ []))

-- and with the procedures from place r on as callers
abbrev pub with_callers : ℕ → List CoreProc → List (List ℕ) → List (List ℕ)
with_callers r [] lists = lists
with_callers r (p ∷ procs) lists = with_callers (suc r) procs (with_caller r (callees_of p.body) lists)

-- ---- marks

-- which procedures are unmarked, and those of the marked ones whose callers aren't marked yet
abbrev pub Marks : Type 0
Marks = List Bool × List ℕ

-- a procedure is marked once
abbrev pub marked : ℕ → Marks → Marks
marked r marks = if get_or marks.0 r false then (set marks.0 r false, marks.1 ++ r ∷ []) else marks

-- these are marked in their order
abbrev pub all_marked : List ℕ → Marks → Marks
all_marked [] marks = marks
all_marked (r ∷ rs) marks = all_marked rs (marked r marks)

-- whether the body has no failure, and calls only what is there, of this many procedures
abbrev pub may_be_infallible : ℕ → CoreProc → Bool
may_be_infallible count p = not (any_fail p.body) && list_all (λ q. nat_lt q count) (callees_of p.body)

-- the places of the others, from place r on
abbrev pub refuted_from : (count r : ℕ) → List CoreProc → List ℕ
refuted_from count r [] = []
refuted_from count r (p ∷ procs) =
    if may_be_infallible count p then refuted_from count (suc r) procs else r ∷ refuted_from count (suc r) procs
