-- What a call leaves: the types of its symbols, and the globals that its callee modifies.
use Rattle.std.proofs.Common.{◌≡◌, ℕ, suc, ◌+◌, ◌<◌, List, [], ◌∷◌, length, get_or, refl, sym, ap, subst, ◌∙◌}
use Rattle.std.specs.Prelude.{Bool, true, false, map, set}
use Rattle.std.specs.List.{AllByRecursion}
use Rattle.std.proofs.lemmas.List.{length-map, map-set, set-get_or}
use Rattle.std.proofs.lemmas.Option.{slice_get-get_or}
use Rattle.sd_base.specs.declared.Sort.{Sort, Bool as BoolSort}
use Rattle.sd_core.specs.declared.Spot.TheVariants.{Global}
use Rattle.sd_core.specs.declared.CoreProc.{CoreProc}
use Rattle.sd_core.specs.declared.CoreProgram.{CoreProgram}
use Rattle.sd_core.specs.Store.{Store, write, write_all, set_all}
use Rattle.sd_core.specs.Formed.{sorts_of, state_sorts, AreSpotsOf}
use Rattle.sd_term.specs.Tree.{Tree}
use Rattle.sd_term.specs.Sorts.{sort_of}
use Rattle.sd_vcgen.specs.Body.{symbols, site_flag, modified_sorts, changed}

pub symbols-sort : (k : ℕ) (ss : List Sort) → map sort_of (symbols k ss) ≡ ss
symbols-sort k [] = refl
symbols-sort k (s ∷ ss) = ap (λ (xs : List Sort). s ∷ xs) (symbols-sort (suc k) ss)

pub flag-sort : (infallible : Bool) (k : ℕ) → sort_of (site_flag infallible k) ≡ BoolSort
flag-sort true k = refl
flag-sort false k = refl

-- ---- the globals that a procedure modifies

abbrev global_sort : CoreProgram → ℕ → Sort
global_sort P i = get_or (sorts_of P.globals) i BoolSort

-- they are spots of their types
pub modified-spots : (P : CoreProgram) (p : CoreProc) (ms : List ℕ) → AllByRecursion (λ i. i < length P.globals) ms → AreSpotsOf (state_sorts P p) (map Global ms) (map (global_sort P) ms)
modified-spots P p [] h = refl
modified-spots P p (m ∷ ms) h =
    let long : length (sorts_of P.globals) ≡ length P.globals = length-map P.globals (λ x. x.sort) in
    (slice_get-get_or (sorts_of P.globals) m BoolSort (subst (λ (n : ℕ). m < n) (sym long) h.0), modified-spots P p ms h.1)

pub set_all-map : {A B : Type 0} (f : A → B) (xs : List A) (ms : List ℕ) (ys : List A) → map f (set_all xs ms ys) ≡ set_all (map f xs) ms (map f ys)
set_all-map f xs [] ys = refl
set_all-map f xs (m ∷ ms) [] = refl
set_all-map f xs (m ∷ ms) (y ∷ ys) = set_all-map f (set xs m y) ms ys ∙ ap (λ zs. set_all zs ms (map f ys)) (map-set f xs m y)

set_all-same : (xs : List Sort) (ms : List ℕ) → set_all xs ms (map (λ i. get_or xs i BoolSort) ms) ≡ xs
set_all-same xs [] = refl
set_all-same xs (m ∷ ms) =
    ap (λ (ys : List Sort). set_all ys ms (map (λ i. get_or xs i BoolSort) ms)) (set-get_or xs m BoolSort) ∙ set_all-same xs ms

-- what a call leaves keeps the types
pub after-sort : (P : CoreProgram) (k : ℕ) (p : CoreProc) (before : List Tree) → map sort_of before ≡ sorts_of P.globals → map sort_of (set_all before p.modifies (changed P k p)) ≡ sorts_of P.globals
after-sort P k p before e =
    set_all-map sort_of before p.modifies (changed P k p)
    ∙ (λ i. set_all (e i) p.modifies (symbols-sort (k + length p.outs) (modified_sorts P p) i))
    ∙ set_all-same (sorts_of P.globals) p.modifies

pub write-globals : {A : Type 0} (ms : List ℕ) (xs : List A) (st : Store A) → write_all st (map Global ms) xs ≡ record { slots = st.slots; globals = set_all st.globals ms xs }
write-globals [] xs st = refl
write-globals (m ∷ ms) [] st = refl
write-globals (m ∷ ms) (x ∷ xs) st = write-globals ms xs (write st (Global m) x)
