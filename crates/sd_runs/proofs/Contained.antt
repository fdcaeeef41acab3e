-- What a list of numbers contains.
use Rattle.std.proofs.Common.{◌≡◌, ℕ, zero, suc, ◌<◌, ◌⊎◌, inl, inr, List, [], ◌∷◌, length, get_or, refl, sym, subst, ⊎_elim, arith}
use Rattle.std.specs.Prelude.{Bool, true, Contains}
use Rattle.std.specs.List.{AllByRecursion, list_all}
use Rattle.std.proofs.lemmas.Bool.{and_from, and_parts}

pub contains_first : (m : ℕ) (ms : List ℕ) → Contains (m ∷ ms) m
contains_first m ms = (zero, (omega arith), refl)

pub contains_later : (m i : ℕ) (ms : List ℕ) → Contains ms i → Contains (m ∷ ms) i
contains_later m i ms c = (suc c.0, (omega (arith, c.1)), c.2)

pub contains_none : {A : Type 0} (i : ℕ) → Contains [] i → A
contains_none i c = absurd (omega (arith, c.1))

-- it is the first, or one of the others
pub contains_cases : (i m : ℕ) (ms : List ℕ) → Contains (m ∷ ms) i → (m ≡ i) ⊎ Contains ms i
contains_cases i m ms c = go c.0 c.1 c.2
  where
    go : (k : ℕ) → k < length (m ∷ ms) → get_or (m ∷ ms) k i ≡ i → (m ≡ i) ⊎ Contains ms i
    go zero l e = inl e
    go (suc k) l e = inr (k, (omega (arith, l)), e)

pub not_among : (i m : ℕ) (ms : List ℕ) → (i ≡ m → ⊥) → (Contains ms i → ⊥) → Contains (m ∷ ms) i → ⊥
not_among i m ms a b c = ⊎_elim (λ (e : m ≡ i). a (sym e)) b (contains_cases i m ms c)

-- ---- lists of members of a set

pub all_at : (f : ℕ → Bool) (cs : List ℕ) (q : ℕ) → AllByRecursion (λ c. f c ≡ true) cs → Contains cs q → f q ≡ true
all_at f [] q a c = contains_none q c
all_at f (d ∷ cs) q a c = ⊎_elim (λ (s : d ≡ q). subst (λ (j : ℕ). f j ≡ true) s a.0) (λ (k : Contains cs q). all_at f cs q a.1 k) (contains_cases q d cs c)

pub all_by : (f : ℕ → Bool) (cs : List ℕ) → ((q : ℕ) → Contains cs q → f q ≡ true) → AllByRecursion (λ c. f c ≡ true) cs
all_by f [] h = tt
all_by f (d ∷ cs) h = (h d (contains_first d cs), all_by f cs (λ q c. h q (contains_later d q cs c)))

pub all_in : (f g : ℕ → Bool) → ((q : ℕ) → f q ≡ true → g q ≡ true) → (cs : List ℕ) → AllByRecursion (λ q. f q ≡ true) cs → list_all g cs ≡ true
all_in f g h [] a = refl
all_in f g h (c ∷ cs) a = and_from (g c) (list_all g cs) (h c a.0) (all_in f g h cs a.1)

pub all_of : (f : ℕ → Bool) (cs : List ℕ) → list_all f cs ≡ true → AllByRecursion (λ q. f q ≡ true) cs
all_of f [] a = tt
all_of f (c ∷ cs) a = let es = and_parts (f c) (list_all f cs) a in (es.0, all_of f cs es.1)
