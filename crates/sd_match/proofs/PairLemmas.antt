-- The pairs, from the tables of two programs.
use Rattle.std.proofs.Common.{◌≡◌, ◌∙◌, sym, ap, refl, subst, ℕ, suc, ◌+◌, ◌<◌, Bool, true, false, List, [], ◌∷◌, ◌++◌, length, get_or, append-nil, zero-add, arith}
use Rattle.std.specs.Prelude.{◌&&◌, Option, Some, None, slice_get, if◌then◌else◌}
use Rattle.std.specs.List.{AllByRecursion}
use Rattle.sd_base.specs.declared.Var.{Var}
use Rattle.sd_base.specs.Value.{same_text}
use Rattle.sd_core.specs.declared.CoreProc.{CoreProc}
use Rattle.sd_core.specs.declared.CoreProgram.{CoreProgram}
use Rattle.sd_core.specs.declared.Shared.{Shared}
use Rattle.sd_core.specs.Formed.{same_sort}
use Rattle.sd_core.specs.Failure.{place_from, shared_at, shared_from, shared_of}
use Rattle.sd_match.specs.declared.tables.Tables.{Tables}
use Rattle.sd_match.specs.Pairs.{partner}
use Rattle.sd_match.specs.Tables.{AreTablesOf}
use Rattle.sd_match.proofs.ListLemmas.{some_is, get_or-map}

-- ---- shared globals

place_from-within : (n : ℕ) (xs : List Var) (x : Var) (i : ℕ) → place_from n xs x ≡ Some i → i < n + length xs
place_from-within n [] x i e = absurd (let bad : ◌≡◌ {A = Option ℕ} None (Some i) = e in cc)
place_from-within n (y ∷ ys) x i found = go (same_text x.name y.name && same_sort x.sort y.sort) found (λ h. place_from-within (suc n) ys x i h)
  where
    go : (b : Bool) → (if b then Some n else place_from (suc n) ys x) ≡ Some i → (place_from (suc n) ys x ≡ Some i → i < suc n + length ys) → i < n + length (y ∷ ys)
    go true here rest = let same : n ≡ i = some_is n i here in omega arith
    go false there rest = let h : i < suc n + length ys = rest there in omega arith

pub all-append : {A : Type 0} (P : A → Type 0) (xs ys : List A) → AllByRecursion P xs → AllByRecursion P ys → AllByRecursion P (xs ++ ys)
all-append P [] ys h k = k
all-append P (x ∷ xs) ys h k = (h.0, all-append P xs ys h.1 k)

shared_from-within : (n : ℕ) (olds news : List Var) → AllByRecursion (λ s. (s.old < n + length olds) × (s.new < length news)) (shared_from n olds news)
shared_from-within n [] news = tt
shared_from-within n (x ∷ olds) news =
    all-append (λ s. (s.old < n + length (x ∷ olds)) × (s.new < length news)) (shared_at n (place_from 0 news x)) (shared_from (suc n) olds news)
    (go (place_from 0 news x) refl)
    (let e : suc n + length olds ≡ n + length (x ∷ olds) = omega arith in subst (λ m. AllByRecursion (λ s. (s.old < m) × (s.new < length news)) (shared_from (suc n) olds news)) e (shared_from-within (suc n) olds news))
  where
    go : (o : Option ℕ) → place_from 0 news x ≡ o → AllByRecursion (λ s. (s.old < n + length (x ∷ olds)) × (s.new < length news)) (shared_at n o)
    go None e = tt
    go (Some j) e = let h : j < 0 + length news = place_from-within 0 news x j e in ((omega arith, omega arith), tt)

pub shared_of-within : (olds news : List Var) → AllByRecursion (λ s. (s.old < length olds) × (s.new < length news)) (shared_of olds news)
shared_of-within olds news = subst (λ m. AllByRecursion (λ s. (s.old < m) × (s.new < length news)) (shared_of olds news)) (zero-add (length olds)) (shared_from-within 0 olds news)

pub shared-within : (olds news : List Var) (m n : ℕ) (ss : List Shared) → ss ≡ shared_of olds news → m ≡ length olds → n ≡ length news → AllByRecursion (λ s. (s.old < m) × (s.new < n)) ss
shared-within olds news m n ss e f g =
    let P : List Shared → Type 0 = λ ts. AllByRecursion (λ s. (s.old < m) × (s.new < n)) ts in
    let Q : ℕ → Type 0 = λ a. AllByRecursion (λ s. (s.old < a) × (s.new < n)) (shared_of olds news) in
    let R : ℕ → Type 0 = λ b. AllByRecursion (λ s. (s.old < length olds) × (s.new < b)) (shared_of olds news) in
    subst P (sym e) (subst Q (sym f) (subst R (sym g) (shared_of-within olds news)))

-- ---- partners

pub partner-is : (P Q : CoreProgram) (tables : Tables) (i : ℕ) (p : CoreProc) → AreTablesOf P Q tables → slice_get P.procs i ≡ Some p → get_or tables.partners.items i None ≡ partner P Q p
partner-is P Q tables i p are here = ap (λ ts. get_or ts i None) are.partners ∙ get_or-map (partner P Q) P.procs i p None here

-- without a pair nothing is added
pub none-added : {A : Type 0} (pairs more : List A) → more ≡ [] → pairs ≡ pairs ++ more
none-added pairs more none = sym (ap (λ l. pairs ++ l) none ∙ append-nil pairs)
