-- The globals that a procedure modifies, by their numbers: each once, each there, and those that its callees modify.
use Rattle.std.proofs.Common.{◌≡◌, ℕ, zero, suc, ◌+◌, ◌<◌, List, [], ◌∷◌, ◌++◌, map, length, Option, Some, None, refl, sym, ◌∙◌, ap, subst, arith}
use Rattle.std.specs.Prelude.{Bool, true, false, ◌||◌, ◌==◌, slice_get, Contains, codes, option_map, if◌then◌else◌}
use Rattle.std.specs.List.{AllByRecursion, IsDistinct, filter_map, cons_option}
use Rattle.std.specs.Cmp.Lexicographic.{bytes_decides}
use Rattle.std.proofs.lemmas.Option.{same_Some, none-some}
use Rattle.std.proofs.lemmas.Bool.{or_parts, or_left, or_right, ne_eqb, false_from_ne_true}
use Rattle.std.proofs.lemmas.List.Folds.{list_any-append}
use Rattle.sd_extract.proofs.SourceWords.{Sort, Var, Text, same_text, Spec, Modifies, is_among, Nature, named, modifies_of, variables_as, names_of}
use Rattle.sd_extract.proofs.CoreWords.{Spot, Global, sorts_of, copies_in, place_in, globals_from, index_in, var_in, new_names, modified_names}
use Rattle.sd_base.proofs.Lists.{all-append, all-front, all-back, all-weaker, contains-tail}
use Rattle.sd_base.proofs.Texts.{same_text-refl, same_text-other_way}
use Rattle.sd_core.specs.Formed.{copy_of}
use Rattle.sd_extract.specs.Extract.{is_among as is_in}
use Rattle.sd_extract.proofs.Searches.{none_later}
use Rattle.sd_extract.proofs.CodeNames.{by_index, index_is, place_in-globals}
use Rattle.sd_extract.proofs.FormedPlaces.{Matches}

-- ---- lists of modified globals

pub unnumbered : (n : Nature) (vs : List Var) (x : Text) → named (variables_as n vs) x ≡ None → index_in vs x ≡ None
unnumbered n [] x h = refl
unnumbered n (u ∷ us) x h = let k = none_later (same_text x u.name) _ _ h in rw k.0 (ap (option_map (λ m. suc m)) (unnumbered n us x k.1))

sort_of_var : (vs : List Var) (i : ℕ) (v : Var) → slice_get vs i ≡ Some v → slice_get (sorts_of vs) i ≡ Some v.sort
sort_of_var [] i v h = absurd (none-some v h)
sort_of_var (w ∷ vs) zero v h = ap (λ (u : Var). Some u.sort) (same_Some w v h)
sort_of_var (w ∷ vs) (suc i) v h = sort_of_var vs i v h

pub numbers_match : (vs : List Var) (names : List Text) → Matches (sorts_of vs) (filter_map (index_in vs) names) (sorts_of (filter_map (var_in vs) names))
numbers_match vs [] = tt
numbers_match vs (x ∷ names) =
    by_index vs x (λ i v. Matches (sorts_of vs) (cons_option i (filter_map (index_in vs) names)) (sorts_of (cons_option v (filter_map (var_in vs) names)))) (numbers_match vs names) (λ i v h. (sort_of_var vs i v h.0, numbers_match vs names))

pub matches_length : (ss : List Sort) (ms : List ℕ) (ts : List Sort) → Matches ss ms ts → length ms ≡ length ts
matches_length ss [] [] h = refl
matches_length ss [] (t ∷ ts) h = absurd h
matches_length ss (m ∷ ms) [] h = absurd h
matches_length ss (m ∷ ms) (t ∷ ts) h = ap (λ (n : ℕ). suc n) (matches_length ss ms ts h.1)

pub numbers_below : (vs : List Var) (names : List Text) → AllByRecursion (λ i. i < length vs) (filter_map (index_in vs) names)
numbers_below vs [] = tt
numbers_below vs (x ∷ names) =
    by_index vs x (λ i v. AllByRecursion (λ i. i < length vs) (cons_option i (filter_map (index_in vs) names))) (numbers_below vs names) (λ i v h. (h.1, numbers_below vs names))

abbrev copy : Var → Var
copy v = record { name = v.name ++ codes "@copy"; sort = v.sort }

pub copied_numbers : (vs : List Var) (names : List Text) → copies_in vs (filter_map (index_in vs) names) ≡ map (λ v. record { name = v.name ++ codes "@copy"; sort = v.sort }) (filter_map (var_in vs) names)
copied_numbers vs [] = refl
copied_numbers vs (x ∷ names) =
    by_index vs x (λ i v. copies_in vs (cons_option i (filter_map (index_in vs) names)) ≡ map copy (cons_option v (filter_map (var_in vs) names))) (copied_numbers vs names) (λ i v h j. copy_of (h.0 j) ++ copied_numbers vs names j)

-- two names with one number are one name
index_once : (vs : List Var) (x y : Text) (i j : ℕ) → index_in vs x ≡ Some i → index_in vs y ≡ Some j → i ≡ j → x ≡ y
index_once vs x y i j e f same =
    let a = index_is vs x i e in let b = index_is vs y j f in
    a.3 ∙ ap (λ (v : Var). v.name) (same_Some a.0 b.0 (sym a.1 ∙ ap (slice_get vs) same ∙ b.1)) ∙ sym b.3

-- what is said of each mentioned global is said of its number
pub numbers_have : (vs : List Var) (Q : ℕ → Type 0) (names : List Text) → AllByRecursion (λ x. (i : ℕ) → index_in vs x ≡ Some i → Q i) names → AllByRecursion Q (filter_map (index_in vs) names)
numbers_have vs Q [] h = tt
numbers_have vs Q (x ∷ names) h = elim (index_in vs x) as (λ o. index_in vs x ≡ o → AllByRecursion Q (cons_option o (filter_map (index_in vs) names))) [
  | None ↦ λ e. numbers_have vs Q names h.1
  | Some i ↦ λ e. (h.0 i e, numbers_have vs Q names h.1)
] refl

pub numbers_once : (vs : List Var) (names : List Text) → IsDistinct same_text names → IsDistinct ◌==◌ (filter_map (index_in vs) names)
unfolding IsDistinct
numbers_once vs [] h = tt
numbers_once vs (x ∷ names) h = elim (index_in vs x) as (λ o. index_in vs x ≡ o → IsDistinct ◌==◌ (cons_option o (filter_map (index_in vs) names))) [
  | None ↦ λ e. numbers_once vs names h.1
  | Some i ↦ λ e. (numbers_have vs (λ j. (i == j) ≡ false) names (all-weaker (λ y. same_text x y ≡ false) (λ y. (j : ℕ) → index_in vs y ≡ Some j → (i == j) ≡ false) (λ y t j f. ne_eqb i j (λ same. let g = (bytes_decides x y).1 (index_once vs x y i j e f same) in cc)) names h.0), numbers_once vs names h.1)
] refl

-- ---- names that are mentioned

record NewNames (xs seen : List Text) : Type 0 where
  once : IsDistinct same_text (new_names xs seen)
  unseen : AllByRecursion (λ y. is_in y seen ≡ false) (new_names xs seen)
  mentioned : AllByRecursion (λ y. is_in y xs ≡ true) (new_names xs seen)

not_in_longer : (x y : Text) (seen : List Text) → is_in y (seen ++ (x ∷ [])) ≡ false → (is_in y seen ≡ false) × (same_text x y ≡ false)
not_in_longer x y seen h =
    let k = or_parts (is_in y seen) (is_in y (x ∷ [])) (sym (list_any-append (same_text y) seen (x ∷ [])) ∙ h) in
    (k.0, same_text-other_way y x (or_parts (same_text y x) false k.1).0)

names_new : (xs seen : List Text) → NewNames xs seen
unfolding IsDistinct
names_new [] seen = record { once = tt; unseen = tt; mentioned = tt }
names_new (x ∷ xs) seen = go (is_in x seen) refl (names_new xs seen) (names_new xs (seen ++ (x ∷ [])))
  where
    go : (b : Bool) → is_in x seen ≡ b → NewNames xs seen → NewNames xs (seen ++ (x ∷ [])) → NewNames (x ∷ xs) seen
    go true e h k =
        let same : new_names xs seen ≡ new_names (x ∷ xs) seen = ap (λ (b : Bool). if b then new_names xs seen else x ∷ new_names xs (seen ++ (x ∷ []))) (sym e) in
        record {
          once = subst (IsDistinct same_text) same h.once;
          unseen = subst (AllByRecursion (λ y. is_in y seen ≡ false)) same h.unseen;
          mentioned = subst (AllByRecursion (λ y. is_in y (x ∷ xs) ≡ true)) same (all-weaker (λ y. is_in y xs ≡ true) (λ y. is_in y (x ∷ xs) ≡ true) (λ y i. or_right (same_text y x) (is_in y xs) i) (new_names xs seen) h.mentioned);
        }
    go false e h k =
        let rest = new_names xs (seen ++ (x ∷ [])) in
        let same : x ∷ rest ≡ new_names (x ∷ xs) seen = ap (λ (b : Bool). if b then new_names xs seen else x ∷ rest) (sym e) in
        let away = all-weaker (λ y. is_in y (seen ++ (x ∷ [])) ≡ false) (λ y. (is_in y seen ≡ false) × (same_text x y ≡ false)) (λ y i. not_in_longer x y seen i) rest k.unseen in
        let first : is_in x (x ∷ xs) ≡ true = ap (λ (b : Bool). b || is_in x xs) (same_text-refl x) in
        record {
          once = subst (IsDistinct same_text) same (all-weaker (λ y. (is_in y seen ≡ false) × (same_text x y ≡ false)) (λ y. same_text x y ≡ false) (λ y i. i.1) rest away, k.once);
          unseen = subst (AllByRecursion (λ y. is_in y seen ≡ false)) same (e, all-weaker (λ y. (is_in y seen ≡ false) × (same_text x y ≡ false)) (λ y. is_in y seen ≡ false) (λ y i. i.0) rest away);
          mentioned = subst (AllByRecursion (λ y. is_in y (x ∷ xs) ≡ true)) same (first, all-weaker (λ y. is_in y xs ≡ true) (λ y. is_in y (x ∷ xs) ≡ true) (λ y i. or_right (same_text y x) (is_in y xs) i) rest k.mentioned);
        }

record ModifiedNames (specs : List Spec) (seen : List Text) : Type 0 where
  once : IsDistinct same_text (modified_names specs seen)
  unseen : AllByRecursion (λ y. is_in y seen ≡ false) (modified_names specs seen)

-- a name that is mentioned, and one that isn't
differs : (a b : Text) (xs : List Text) → is_in a xs ≡ true → is_in b xs ≡ false → same_text a b ≡ false
differs a b xs h k = false_from_ne_true (same_text a b) (λ e.
    let g : is_in b xs ≡ true = subst (λ (z : Text). is_in z xs ≡ true) ((bytes_decides a b).0 e) h in cc)

distinct_join : (xs ys zs : List Text) → IsDistinct same_text ys → IsDistinct same_text zs → AllByRecursion (λ y. is_in y xs ≡ true) ys → AllByRecursion (λ z. is_in z xs ≡ false) zs → IsDistinct same_text (ys ++ zs)
unfolding IsDistinct
distinct_join xs [] zs h k a b = k
distinct_join xs (y ∷ ys) zs h k a b =
    (all-append (λ z. same_text y z ≡ false) ys zs h.0 (all-weaker (λ z. is_in z xs ≡ false) (λ z. same_text y z ≡ false) (λ z i. differs y z xs a.0 i) zs b), distinct_join xs ys zs h.1 k a.1 b)

names_modified : (specs : List Spec) (seen : List Text) → ModifiedNames specs seen
unfolding IsDistinct
names_modified [] seen = record { once = tt; unseen = tt }
names_modified (Modifies xs ∷ specs) seen =
    let h = names_new xs seen in
    let k = names_modified specs (seen ++ xs) in
    let rest = modified_names specs (seen ++ xs) in
    let away = all-weaker (λ y. is_in y (seen ++ xs) ≡ false) (λ y. (is_in y seen ≡ false) × (is_in y xs ≡ false)) (λ y i. or_parts (is_in y seen) (is_in y xs) (sym (list_any-append (same_text y) seen xs) ∙ i)) rest k.unseen in
    record {
      once = distinct_join xs (new_names xs seen) rest h.once k.once h.mentioned (all-weaker (λ y. (is_in y seen ≡ false) × (is_in y xs ≡ false)) (λ y. is_in y xs ≡ false) (λ y i. i.1) rest away);
      unseen = all-append (λ y. is_in y seen ≡ false) (new_names xs seen) rest h.unseen (all-weaker (λ y. (is_in y seen ≡ false) × (is_in y xs ≡ false)) (λ y. is_in y seen ≡ false) (λ y i. i.0) rest away);
    }
names_modified (_ ∷ specs) seen =
    let k = names_modified specs seen in record { once = k.once; unseen = k.unseen }

pub modified_once : (specs : List Spec) → IsDistinct same_text (modified_names specs [])
modified_once specs = (names_modified specs []).once

-- what is said of all that is mentioned
all_new : (Q : Text → Type 0) (xs seen : List Text) → AllByRecursion Q xs → AllByRecursion Q (new_names xs seen)
all_new Q [] seen h = tt
all_new Q (x ∷ xs) seen h =
    elim (is_in x seen) as (λ b. AllByRecursion Q (if b then new_names xs seen else x ∷ new_names xs (seen ++ (x ∷ [])))) [ true ↦ all_new Q xs seen h.1 | false ↦ (h.0, all_new Q xs (seen ++ (x ∷ [])) h.1) ]

pub all_modified : (Q : Text → Type 0) (specs : List Spec) (seen : List Text) → AllByRecursion Q (modifies_of specs) → AllByRecursion Q (modified_names specs seen)
all_modified Q [] seen h = tt
all_modified Q (Modifies xs ∷ specs) seen h =
    all-append Q (new_names xs seen) (modified_names specs (seen ++ xs)) (all_new Q xs seen (all-front Q xs (modifies_of specs) h)) (all_modified Q specs (seen ++ xs) (all-back Q xs (modifies_of specs) h))
all_modified Q (_ ∷ specs) seen h = all_modified Q specs seen h

-- what is mentioned is there
new_has : (x : Text) (xs seen : List Text) → is_in x xs ≡ true → is_in x seen ≡ false → is_in x (new_names xs seen) ≡ true
new_has x [] seen h k = h
new_has x (y ∷ xs) seen h k = go (is_in y seen) (same_text x y) refl refl h (λ i. new_has x xs seen i k) (new_has x xs (seen ++ (y ∷ [])))
  where
    go : (b c : Bool) → is_in y seen ≡ b → same_text x y ≡ c → (c || is_in x xs) ≡ true → (is_in x xs ≡ true → is_in x (new_names xs seen) ≡ true) → (is_in x xs ≡ true → is_in x (seen ++ (y ∷ [])) ≡ false → is_in x (new_names xs (seen ++ (y ∷ []))) ≡ true) → is_in x (if b then new_names xs seen else y ∷ new_names xs (seen ++ (y ∷ []))) ≡ true
    go true true e f i r s =
        let g : is_in x seen ≡ true = subst (λ (z : Text). is_in z seen ≡ true) (sym ((bytes_decides x y).0 f)) e in absurd (cc)
    go true false e f i r s = r i
    go false true e f i r s = ap (λ (c : Bool). c || is_in x (new_names xs (seen ++ (y ∷ [])))) f
    go false false e f i r s =
        or_right (same_text x y) (is_in x (new_names xs (seen ++ (y ∷ [])))) (s i (list_any-append (same_text x) seen (y ∷ []) ∙ (λ j. k j || (f j || false))))

pub modified_has : (x : Text) (specs : List Spec) (seen : List Text) → is_in x (modifies_of specs) ≡ true → is_in x seen ≡ false → is_in x (modified_names specs seen) ≡ true
modified_has x [] seen h k = h
modified_has x (Modifies xs ∷ specs) seen h k =
    go (is_in x xs) refl (sym (list_any-append (same_text x) xs (modifies_of specs)) ∙ h) (modified_has x specs (seen ++ xs))
  where
    rest : List Text
    rest = modified_names specs (seen ++ xs)

    go : (b : Bool) → is_in x xs ≡ b → (is_in x xs || is_in x (modifies_of specs)) ≡ true → (is_in x (modifies_of specs) ≡ true → is_in x (seen ++ xs) ≡ false → is_in x (modified_names specs (seen ++ xs)) ≡ true) → is_in x (new_names xs seen ++ modified_names specs (seen ++ xs)) ≡ true
    go true e i r =
        list_any-append (same_text x) (new_names xs seen) (modified_names specs (seen ++ xs)) ∙ or_left (is_in x (new_names xs seen)) (is_in x (modified_names specs (seen ++ xs))) (new_has x xs seen e k)
    go false e i r =
        list_any-append (same_text x) (new_names xs seen) (modified_names specs (seen ++ xs)) ∙ or_right (is_in x (new_names xs seen)) (is_in x (modified_names specs (seen ++ xs))) (r (ap (λ (b : Bool). b || is_in x (modifies_of specs)) (sym e) ∙ i) (list_any-append (same_text x) seen xs ∙ (λ j. k j || e j)))
modified_has x (_ ∷ specs) seen h k = modified_has x specs seen h k

-- a mentioned global's number is among the numbers
number_there : (vs : List Var) (x : Text) (i : ℕ) (names : List Text) → index_in vs x ≡ Some i → is_in x names ≡ true → Contains (filter_map (index_in vs) names) i
number_there vs x i [] e h = absurd (cc)
number_there vs x i (y ∷ names) e h = go (same_text x y) refl (index_in vs y) refl h (number_there vs x i names e)
  where
    go : (b : Bool) → same_text x y ≡ b → (o : Option ℕ) → index_in vs y ≡ o → (b || is_in x names) ≡ true → (is_in x names ≡ true → Contains (filter_map (index_in vs) names) i) → Contains (cons_option o (filter_map (index_in vs) names)) i
    go true t o f k rec =
        let same : index_in vs y ≡ Some i = ap (index_in vs) (sym ((bytes_decides x y).0 t)) ∙ e in
        subst (λ (o : Option ℕ). Contains (cons_option o (filter_map (index_in vs) names)) i) (sym same ∙ f) (0, omega arith, refl)
    go false t None f k rec = rec k
    go false t (Some j) f k rec = contains-tail j (filter_map (index_in vs) names) i (rec k)

pub modifies_there : (vs : List Var) (specs : List Spec) (x : Text) (i : ℕ) → index_in vs x ≡ Some i → is_among (modifies_of specs) x ≡ true → Contains (filter_map (index_in vs) (modified_names specs [])) i
modifies_there vs specs x i e h =
    number_there vs x i (modified_names specs []) e (modified_has x specs [] h refl)

-- ---- the spot of a global

pub global_spot : (vs : List Var) (x : Text) (q : Spot) → place_in (names_of vs) (globals_from 0 vs) x ≡ Some q → (i : ℕ) × (index_in vs x ≡ Some i) × (q ≡ Global i)
global_spot vs x q h = elim (index_in vs x) as (λ o. option_map (λ j. Global (0 + j)) o ≡ Some q → (i : ℕ) × (o ≡ Some i) × (q ≡ Global i)) [
  | None ↦ λ e. absurd (none-some q e)
  | Some i ↦ λ e. let f : 0 + i ≡ i = omega arith in (i, refl, sym (same_Some (Global (0 + i)) q e) ∙ ap (λ (n : ℕ). Global n) f)
] (sym (place_in-globals vs 0 x) ∙ h)
