-- terms and values by number
use Rattle.std.proofs.Common.{◌≡◌, ℕ, zero, suc, ◌<◌, List, [], ◌∷◌, map, length, refl, ap, ◌∙◌, Bool, true, false, ◌&&◌, nat_lt, arith, Option, Some, None, slice_get}
use Rattle.std.specs.List.{list_all}
use Rattle.std.specs.Prelude.{option_and_then, IfNone}
use Rattle.std.proofs.lemmas.List.{get_or-map}
use Rattle.std.proofs.lemmas.Option.{slice_get-get_or, slice_get_past}
use borrow.Author.Tests.{ltb-true, ltb-false}
use Rattle.sd_term.specs.Heads.{True}
use Rattle.sd_term.specs.Tree.{Tree, leaf, head_of, parts_of, and-left, and-right}
use Rattle.sd_term.specs.Bank.{tree_at}
use Rattle.sd_term.specs.Sorts.{sort_of, IsWellSorted, AllWellSorted}
use Rattle.sd_forms.specs.FactRows.{part_at, is_eq_head, is_int_sort, is_int_eq}
use Rattle.sd_kernel.specs.Known.{Trail, known, known_at}
use Rattle.sd_kernel.specs.Steps.{is_ite_head, all_at}
use Rattle.sd_kernel.proofs.Values.{eq-parts, ite-parts, is-eq-head, is-ite-head}

abbrev pub are_in : List Tree → List ℕ → Bool
are_in terms ns = list_all (λ n. nat_lt n (length terms)) ns

pub get-tree : (terms : List Tree) (n : ℕ) → n < length terms → slice_get terms n ≡ Some (tree_at terms n)
get-tree terms n h = slice_get-get_or terms n (leaf True) h

-- each of the numbers names a term
pub in-first : (terms : List Tree) (n : ℕ) (ns : List ℕ) → are_in terms (n ∷ ns) ≡ true → n < length terms
in-first terms n ns h = ltb-true n (length terms) (and-left (nat_lt n (length terms)) (are_in terms ns) h)

pub in-rest : (terms : List Tree) (n : ℕ) (ns : List ℕ) → are_in terms (n ∷ ns) ≡ true → are_in terms ns ≡ true
in-rest terms n ns h = and-right (nat_lt n (length terms)) (are_in terms ns) h

pub in-second : (terms : List Tree) (a b : ℕ) (ns : List ℕ) → are_in terms (a ∷ b ∷ ns) ≡ true → b < length terms
in-second terms a b ns h = in-first terms b ns (in-rest terms a (b ∷ ns) h)

pub all_at-some : (terms : List Tree) (ns : List ℕ) → are_in terms ns ≡ true → all_at terms ns ≡ Some (map (λ n. tree_at terms n) ns)
all_at-some terms [] h = refl
all_at-some terms (n ∷ ns) h = λ i. option_and_then (λ t. option_and_then (λ ts. Some (t ∷ ts)) (all_at-some terms ns (in-rest terms n ns h) i)) (get-tree terms n (in-first terms n ns h) i)

pub all_at-none : (terms : List Tree) (ns : List ℕ) → are_in terms ns ≡ false → all_at terms ns ≡ None
all_at-none terms [] h = let f : true ≡ false = h in cc
all_at-none terms (n ∷ ns) h = go (nat_lt n (length terms)) refl h (λ k. all_at-none terms ns k)
  where
    go : (p : Bool) → nat_lt n (length terms) ≡ p → p && are_in terms ns ≡ false → (are_in terms ns ≡ false → all_at terms ns ≡ None) → all_at terms (n ∷ ns) ≡ None
    go false e k f = ap (λ o. option_and_then (λ t. option_and_then (λ ts. Some (t ∷ ts)) (all_at terms ns)) o) (slice_get_past terms n (ltb-false n (length terms) e))
    go true e k f = λ i. option_and_then (λ t. option_and_then (λ ts. Some (t ∷ ts)) (f k i)) (get-tree terms n (ltb-true n (length terms) e) i)

-- ---- answers

pub none-holds : {A : Type 0} (o : Option A) (P : Type 0) → IfNone o P → o ≡ None → P
none-holds None P h e = h
none-holds (Some x) P h e = cc

-- ---- sorts and parts

pub sorted-at : (ts : List Tree) (n : ℕ) → AllWellSorted ts → n < length ts → IsWellSorted (tree_at ts n)
sorted-at [] n a h = absurd (omega arith)
sorted-at (t ∷ ts) zero a h = a.0
sorted-at (t ∷ ts) (suc n) a h = sorted-at ts n a.1 (omega (arith, h))

pub eq-long : (ts : List Tree) (n : ℕ) → AllWellSorted ts → n < length ts → is_eq_head (head_of (tree_at ts n)) ≡ true → length (parts_of (tree_at ts n)) ≡ 2
eq-long ts n a h e = ap length (eq-parts (tree_at ts n) (sorted-at ts n a h) (is-eq-head (head_of (tree_at ts n)) e)).parts

pub int-eq-long : (ts : List Tree) (n : ℕ) → AllWellSorted ts → n < length ts → is_int_eq (tree_at ts n) ≡ true → length (parts_of (tree_at ts n)) ≡ 2
int-eq-long ts n a h e = eq-long ts n a h (and-left (is_eq_head (head_of (tree_at ts n))) (is_int_sort (sort_of (part_at (tree_at ts n) 0))) e)

pub ite-long : (ts : List Tree) (n : ℕ) → AllWellSorted ts → n < length ts → is_ite_head (head_of (tree_at ts n)) ≡ true → length (parts_of (tree_at ts n)) ≡ 3
ite-long ts n a h e = ap length (ite-parts (tree_at ts n) (sorted-at ts n a h) (is-ite-head (head_of (tree_at ts n)) e)).parts

-- ---- values

pub known_at-is : (trail : Trail) (ts : List Tree) (values : List (Option Bool)) (n : ℕ) → values ≡ map (λ t. known trail t) ts → n < length ts → known_at values n ≡ known trail (tree_at ts n)
known_at-is trail ts values n e h = ap (λ vs. known_at vs n) e ∙ get_or-map (λ t. known trail t) ts n (leaf True) None h
