-- The least of some numbers, and the calls of procedures without partners.
use Rattle.std.proofs.Common.{◌≡◌, ◌∙◌, sym, ap, refl, subst, ℕ, zero, suc, ◌+◌, ◌<◌, Bool, true, false, List, [], ◌∷◌, ◌++◌, length, map, get_or, drop, add-one, arith}
use Rattle.sd_base.proofs.Lists.{drop-at}
use Rattle.std.specs.Prelude.{◌==◌, Option, Some, None, slice_get, if◌then◌else◌}
use Rattle.std.specs.List.{filter}
use Rattle.sd_core.specs.declared.CoreProc.{CoreProc}
use Rattle.sd_core.specs.declared.CoreProgram.{CoreProgram}
use Rattle.sd_runs.specs.Calls.{callees_of}
use Rattle.sd_match.specs.Pairs.{owner, least, partner, is_unmatched, unmatched_calls}
use Rattle.sd_match.specs.Tables.{lower, lacks, calls_lacking, AreLeast, AreFirstUnmatched}

pub lower-assoc : (a b c : Option ℕ) → lower (lower a b) c ≡ lower a (lower b c)
lower-assoc None b c = refl
lower-assoc (Some m) None c = refl
lower-assoc (Some m) (Some n) None = refl
lower-assoc (Some m) (Some n) (Some k) = ap Some (omega arith)

pub least-append : (xs ys : List ℕ) → least (xs ++ ys) ≡ lower (least xs) (least ys)
least-append [] ys = refl
least-append (n ∷ ns) ys = ap (lower (Some n)) (least-append ns ys) ∙ sym (lower-assoc (Some n) (least ns) (least ys))

-- one procedure more
pub lacking-step : (partners : List (Option ℕ)) (procs : List CoreProc) (i place : ℕ) (p : CoreProc) (old new callee whole : Option ℕ) → place < length procs → p ≡ get_or procs place p
    → callee ≡ least (filter (lacks partners) (callees_of p.body)) → new ≡ (if owner place p.parent == i then lower old callee else old)
    → lower old (least (calls_lacking partners i place (drop place procs))) ≡ whole → lower new (least (calls_lacking partners i (place + 1) (drop (place + 1) procs))) ≡ whole
lacking-step partners procs i place p old new callee whole within at found put before =
    (λ k. lower (put k) (least (calls_lacking partners i (add-one place k) (drop (place + 1) procs)))) ∙ step (owner place p.parent == i)
    ∙ sym (ap (λ ys. lower old (least (calls_lacking partners i place ys))) (drop-at procs place p within at)) ∙ before
  where
    step : (b : Bool) → lower (if b then lower old callee else old) (least (calls_lacking partners i (suc place) (drop (place + 1) procs))) ≡ lower old (least ((if b then filter (lacks partners) (callees_of p.body) else []) ++ calls_lacking partners i (suc place) (drop (place + 1) procs)))
    step true = ap (λ o. lower (lower old o) (least (calls_lacking partners i (suc place) (drop (place + 1) procs)))) found ∙ lower-assoc old (least (filter (lacks partners) (callees_of p.body))) (least (calls_lacking partners i (suc place) (drop (place + 1) procs))) ∙ ap (lower old) (sym (least-append (filter (lacks partners) (callees_of p.body)) (calls_lacking partners i (suc place) (drop (place + 1) procs))))
    step false = refl

-- ---- procedures without partners

lacks-is : (P Q : CoreProgram) (ps : List CoreProc) (q : ℕ) → lacks (map (partner P Q) ps) q ≡ is_unmatched P Q (slice_get ps q)
lacks-is P Q [] q = refl
lacks-is P Q (p ∷ ps) zero = refl
lacks-is P Q (p ∷ ps) (suc q) = lacks-is P Q ps q

pub calls_lacking-is : (P Q : CoreProgram) (i n : ℕ) (ps : List CoreProc) → calls_lacking (map (partner P Q) P.procs) i n ps ≡ unmatched_calls P Q i n ps
calls_lacking-is P Q i n [] = refl
calls_lacking-is P Q i n (p ∷ ps) = λ k. (if owner n p.parent == i then filter (λ q. lacks-is P Q P.procs q k) (callees_of p.body) else []) ++ calls_lacking-is P Q i (suc n) ps k

-- the table of a program, from its list of partners
pub first_lacking-is : (P Q : CoreProgram) (partners : List (Option ℕ)) (procs : List CoreProc) (entries : List (Option ℕ)) → partners ≡ map (partner P Q) P.procs → procs ≡ P.procs → AreLeast partners procs entries → AreFirstUnmatched P Q entries
first_lacking-is P Q partners procs entries e f all = λ i within.
    let Below : List CoreProc → Type 0 = λ ps. i < length ps in
    all i (subst Below (sym f) within) ∙ (λ k. least (calls_lacking (e k) i 0 (f k))) ∙ ap least (calls_lacking-is P Q i 0 P.procs)
