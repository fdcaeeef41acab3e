-- Names without repetition.
use Rattle.std.proofs.Common.{◌≡◌, ◌∙◌, sym, ap, refl, ℕ, ◌≤◌, Bool, true, false, List, [], ◌∷◌, ◌++◌, append_assoc, length, drop, arith}
use Rattle.std.specs.Prelude.{Option, Some, ◌||◌, if◌then◌else◌}
use Rattle.std.specs.Option.{is_some}
use Rattle.std.proofs.lemmas.List.{append-nil}
use Rattle.std.proofs.Math.ListN.{drop_of_length-le}
use Rattle.std.proofs.lemmas.List.Folds.{list_any-append}
use Rattle.sd_extract.proofs.SourceWords.{Text, same_text, Spec, Modifies}
use Rattle.sd_extract.proofs.CoreWords.{new_names, modified_names}
use Rattle.sd_base.proofs.Texts.{same_text-is, same_text-flip}
use Rattle.sd_extract.specs.Extract.{is_among}
use Rattle.sd_extract.specs.Modified.{HasSeen, with_new, all_new, specs_new}

-- ---- one name

pub seen_pushed : (was now : Text → Option ℕ) (names out : List Text) (name name' : Text) (n : ℕ) → HasSeen was names → name' ≡ name → ((x : Text) → now x ≡ (if same_text name x then Some n else was x)) → out ≡ names ++ name' ∷ [] → HasSeen now out
seen_pushed was now names out name name' n seen same updated pushed x =
    ap is_some (updated x) ∙ (go (same_text name x) (same_text-flip name x) (seen x)
    ∙ (ap (λ (y : Text). is_among x names || (same_text x y || false)) (sym same) ∙ (sym (list_any-append (same_text x) names (name' ∷ [])) ∙ ap (is_among x) (sym pushed))))
  where
    go : (b : Bool) → b ≡ same_text x name → is_some (was x) ≡ is_among x names → is_some (if b then Some n else was x) ≡ (is_among x names || (same_text x name || false))
    go true is there = grind arith
    go false is there = grind arith

-- ---- many names

abbrev AreSame : List Text → List Text → Type 0
AreSame ks seen = (x : Text) → is_among x ks ≡ is_among x seen

same_append : (ks seen more : List Text) → AreSame ks seen → AreSame (ks ++ more) (seen ++ more)
same_append ks seen more h x = list_any-append (same_text x) ks more ∙ (ap (λ b. b || is_among x more) (h x) ∙ sym (list_any-append (same_text x) seen more))

-- a name that is there adds nothing
among_again : (seen : List Text) (y : Text) → is_among y seen ≡ true → AreSame seen (seen ++ y ∷ [])
among_again seen y is x = sym (list_any-append (same_text x) seen (y ∷ []) ∙ go (same_text x y) refl)
  where
    none : (b : Bool) → (b || false) ≡ b
    none true = refl
    none false = refl

    go : (b : Bool) → same_text x y ≡ b → (is_among x seen || (same_text x y || false)) ≡ is_among x seen
    go true e =
        let here : is_among x seen ≡ true = ap (λ (z : Text). is_among z seen) (same_text-is x y e) ∙ is in
        ap (λ b. b || (same_text x y || false)) here ∙ sym here
    go false e = ap (λ b. is_among x seen || (b || false)) e ∙ none (is_among x seen)

with_same : (ks seen : List Text) (y : Text) → AreSame ks seen → AreSame (with_new ks y) (seen ++ y ∷ [])
with_same ks seen y h = go (is_among y ks) refl
  where
    go : (b : Bool) → is_among y ks ≡ b → AreSame (if b then ks else ks ++ y ∷ []) (seen ++ y ∷ [])
    go true e = λ x. h x ∙ among_again seen y (sym (h y) ∙ e) x
    go false e = same_append ks seen (y ∷ []) h

all_same : (ks seen xs : List Text) → AreSame ks seen → AreSame (all_new ks xs) (seen ++ xs)
all_same ks seen [] h = λ x. h x ∙ ap (is_among x) (sym (append-nil seen))
all_same ks seen (y ∷ ys) h = λ x. all_same (with_new ks y) (seen ++ y ∷ []) ys (with_same ks seen y h) x ∙ ap (is_among x) (append_assoc seen (y ∷ []) ys)

all_new_is : (ks seen xs : List Text) → AreSame ks seen → all_new ks xs ≡ ks ++ new_names xs seen
all_new_is ks seen [] h = sym (append-nil ks)
all_new_is ks seen (y ∷ ys) h = go (is_among y ks) refl (all_new_is ks seen ys h) (all_new_is (ks ++ y ∷ []) (seen ++ y ∷ []) ys (same_append ks seen (y ∷ []) h))
  where
    go : (b : Bool) → is_among y ks ≡ b → all_new ks ys ≡ ks ++ new_names ys seen → all_new (ks ++ y ∷ []) ys ≡ (ks ++ y ∷ []) ++ new_names ys (seen ++ y ∷ []) → all_new (with_new ks y) ys ≡ ks ++ new_names (y ∷ ys) seen
    go true e here other =
        ap (λ b. all_new (if b then ks else ks ++ y ∷ []) ys) e ∙ (here ∙ sym (ap (λ b. ks ++ (if b then new_names ys seen else y ∷ new_names ys (seen ++ y ∷ []))) (sym (h y) ∙ e)))
    go false e here other =
        ap (λ b. all_new (if b then ks else ks ++ y ∷ []) ys) e
        ∙ (other ∙ (append_assoc ks (y ∷ []) _ ∙ sym (ap (λ b. ks ++ (if b then new_names ys seen else y ∷ new_names ys (seen ++ y ∷ []))) (sym (h y) ∙ e))))

specs_new_is : (ks seen : List Text) (specs : List Spec) → AreSame ks seen → specs_new ks specs ≡ ks ++ modified_names specs seen
specs_new_is ks seen [] h = sym (append-nil ks)
specs_new_is ks seen (Modifies xs ∷ specs) h =
    specs_new_is (all_new ks xs) (seen ++ xs) specs (all_same ks seen xs h) ∙ (ap (λ l. l ++ modified_names specs (seen ++ xs)) (all_new_is ks seen xs h) ∙ append_assoc ks (new_names xs seen) _)
specs_new_is ks seen (_ ∷ specs) h = specs_new_is ks seen specs h

pub modified_is : (specs : List Spec) → specs_new [] specs ≡ modified_names specs []
modified_is specs = specs_new_is [] [] specs (λ x. refl)

pub specs_done : (specs : List Spec) (i : ℕ) (names : List Text) → length specs ≤ i → specs_new names (drop i specs) ≡ specs_new [] specs → names ≡ modified_names specs []
specs_done specs i names le so = sym (ap (specs_new names) (drop_of_length-le specs le)) ∙ (so ∙ modified_is specs)
