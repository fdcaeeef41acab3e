-- Lists: what holds of each element of a map, and those that are gone through from the front.
use Rattle.std.proofs.Common.{◌≡◌, ◌∙◌, sym, ap, ℕ, ◌+◌, ◌<◌, List, [], ◌∷◌, ◌++◌, append_assoc, length, drop, get_or, map}
use Rattle.std.specs.Prelude.{Option}
use Rattle.std.specs.List.{AllByRecursion, filter_map}
use Rattle.std.proofs.lemmas.List.Elements.{filter_map-append}
use Rattle.sd_base.proofs.Lists.{drop-at}
use Rattle.sd_extract.proofs.SourceWords.{Stmt, kinds_of}

pub all_map : {A B : Type 0} (P : A → Type 0) (Q : B → Type 0) (f : A → B) → ((a : A) → P a → Q (f a)) → (xs : List A) → AllByRecursion P xs → AllByRecursion Q (map f xs)
all_map P Q f h [] a = tt
all_map P Q f h (x ∷ xs) a = (h x a.0, all_map P Q f h xs a.1)

pub map_all : {A B : Type 0} (Q : B → Type 0) (f : A → B) → ((a : A) → Q (f a)) → (xs : List A) → AllByRecursion Q (map f xs)
map_all Q f h [] = tt
map_all Q f h (x ∷ xs) = (h x, map_all Q f h xs)

pub kinds_next : (ss : List Stmt) (i : ℕ) (s : Stmt) → i < length ss → s ≡ get_or ss i s → kinds_of (drop i ss) ≡ s.kind ∷ kinds_of (drop (i + 1) ss)
kinds_next ss i s lt at = ap kinds_of (drop-at ss i s lt at)

pub filter_next : {A B : Type 0} (f : A → Option B) (xs : List A) (i : ℕ) (x : A) (out out' whole : List B) → i < length xs → x ≡ get_or xs i x → out' ≡ out ++ filter_map f (x ∷ []) → out ++ filter_map f (drop i xs) ≡ whole
    → out' ++ filter_map f (drop (i + 1) xs) ≡ whole
filter_next f xs i x out out' whole lt at made so =
    ap (λ l. l ++ filter_map f (drop (i + 1) xs)) made
    ∙ (append_assoc out (filter_map f (x ∷ [])) (filter_map f (drop (i + 1) xs))
    ∙ (ap (λ l. out ++ l) (sym (filter_map-append f (x ∷ []) (drop (i + 1) xs)) ∙ sym (ap (filter_map f) (drop-at xs i x lt at))) ∙ so))
