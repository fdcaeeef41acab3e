-- what is known of an order or an equality of integers is the value of the first fact on it
use Rattle.std.proofs.Common.{◌≡◌, List, [], ◌∷◌, ◌++◌, map, refl, sym, ap, ◌∙◌, Bool, true, false, ◌||◌, get_or, unwrap_or}
use Rattle.sd_base.specs.declared.sort.Sort.{Sort, Int}
use Rattle.sd_term.specs.declared.node.Head.{Head}
use Rattle.sd_term.specs.Heads.{Eq, Le, True}
use Rattle.sd_term.specs.Tree.{Tree, leaf, call, head_of, parts_of, at_parts, folded, and-left, and-right}
use Rattle.sd_term.specs.Sorts.{sort_of, sort_by, sort_at, sorts_of, is_truth_sort}
use Rattle.sd_forms.specs.FactRows.{part_at, is_int_sort, is_le_head, is_eq_head, is_le, is_int_eq}
use Rattle.sd_kernel.specs.Known.{Trail, first_fact, known, known_by, by_parts}

map-append : {A B : Type 0} (f : A → B) (xs ys : List A) → map f (xs ++ ys) ≡ map f xs ++ map f ys
map-append f [] ys = refl
map-append f (x ∷ xs) ys = ap (λ l. f x ∷ l) (map-append f xs ys)

folds-parts : {A : Type 0} (c : Tree → List A → A) (t : Tree) → at_parts c t ≡ map (folded c) (parts_of t)
folds-parts c (leaf h) = refl
folds-parts c (call f x) = ap (λ l. l ++ folded c x ∷ []) (folds-parts c f) ∙ sym (map-append (folded c) (parts_of f) (x ∷ []))

first-sort : (ts : List Tree) → sort_at (map sort_of ts) 0 ≡ sort_of (get_or ts 0 (leaf True))
first-sort [] = refl
first-sort (t ∷ ts) = refl

not-truth : (s : Sort) → is_int_sort s ≡ true → is_truth_sort s ≡ false
not-truth Int e = refl
not-truth _ e = let f : false ≡ true = e in cc

module _ (trail : Trail) (t : Tree) where
  known-le : is_le t ≡ true → known trail t ≡ first_fact trail t
  known-le e = go (head_of t) e
    where
      go : (h : Head) → is_le_head h ≡ true → unwrap_or (by_parts h (sorts_of t) (at_parts (known_by trail) t)) (first_fact trail t) ≡ first_fact trail t
      go Le e = refl
      go _ e = let f : false ≡ true = e in cc

  known-eq : is_int_eq t ≡ true → known trail t ≡ first_fact trail t
  known-eq e = go (head_of t) (and-left (is_eq_head (head_of t)) (is_int_sort (sort_of (part_at t 0))) e)
    where
      sort : is_truth_sort (sort_at (sorts_of t) 0) ≡ false
      sort =
          ap (λ l. is_truth_sort (sort_at l 0)) (folds-parts (λ u ss. sort_by (head_of u) ss) t)
          ∙ ap is_truth_sort (first-sort (parts_of t))
          ∙ not-truth (sort_of (part_at t 0)) (and-right (is_eq_head (head_of t)) (is_int_sort (sort_of (part_at t 0))) e)

      go : (h : Head) → is_eq_head h ≡ true → unwrap_or (by_parts h (sorts_of t) (at_parts (known_by trail) t)) (first_fact trail t) ≡ first_fact trail t
      go Eq e = rw sort refl
      go _ e = let f : false ≡ true = e in cc

  pub known-fact : is_le t || is_int_eq t ≡ true → known trail t ≡ first_fact trail t
  known-fact e = go (is_le t) refl e
    where
      go : (l : Bool) → is_le t ≡ l → l || is_int_eq t ≡ true → known trail t ≡ first_fact trail t
      go true f e = known-le f
      go false f e = known-eq e
