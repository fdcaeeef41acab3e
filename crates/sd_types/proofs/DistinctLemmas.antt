-- Names that are added one after another are distinct.
use Rattle.std.proofs.Common.{◌≡◌, Bool, true, false, cond, List, [], ◌∷◌, ◌++◌, Some, is_some, Ok, Err, refl, sym, ap, ◌∙◌, subst, append_assoc, append-nil}
use Rattle.std.specs.Prelude.{◌||◌, if◌then◌else◌}
use Rattle.std.specs.List.{AllByRecursion}
use Rattle.std.specs.Cmp.Lexicographic.{nat_list_eq_equiv}
use Rattle.std.proofs.lemmas.List.Folds.{list_any-append}
use Rattle.sd_base.specs.Value.{Text, same_text}
use Rattle.sd_base.specs.declared.sort.Var.{Var}
use Rattle.sd_ast.specs.declared.tree.Head.{Head}
use Rattle.sd_ast.specs.Tree.{names_of}
use Rattle.sd_types.specs.declared.refusal.TypeError.TheVariants.{Twice}
use Rattle.sd_types.specs.Names.{is_among}
use Rattle.sd_types.specs.Answer.{and_then}
use Rattle.sd_types.specs.Tables.{named, with_name, with_names, with_entry, with_entries}
use Rattle.sd_types.specs.Declarations.{own_names}
use Rattle.sd_types.specs.WellTypedStatements.{AreDistinct}
use Rattle.sd_types.specs.WellTyped.{own_names_of, entry_names}
use Rattle.sd_types.proofs.TypingLemmas.{parts, joined, ok_is}

neither : (a b : Bool) → (a || b) ≡ false → (a ≡ false) × (b ≡ false)
neither false b h = (refl, h)
neither true b h = absurd (cc)

none_of : (a b : Bool) → a ≡ false → b ≡ false → (a || b) ≡ false
none_of a b h k = (λ i. h i || k i)

-- ---- names that are added to others

-- none of these names is among the others or those before it
abbrev pub Fresh : List Text → List Text → Type 0
Fresh seen [] = Unit {0}
Fresh seen (x ∷ xs) = (is_among seen x ≡ false) × Fresh (seen ++ x ∷ []) xs

abbrev Apart : List Text → List Text → Type 0
Apart seen xs = AllByRecursion (λ x. is_among seen x ≡ false) xs

among-last : (seen : List Text) (x y : Text) → is_among (seen ++ x ∷ []) y ≡ (is_among seen y || (same_text y x || false))
among-last seen x y = list_any-append (same_text y) seen (x ∷ [])

turned : (x y : Text) → same_text y x ≡ false → same_text x y ≡ false
turned x y h = nat_list_eq_equiv.symm x y ∙ h

apart-split : (seen : List Text) (x : Text) (xs : List Text) → Apart (seen ++ x ∷ []) xs → (is_among xs x ≡ false) × Apart seen xs
apart-split seen x [] a = (refl, tt)
apart-split seen x (y ∷ ys) a =
    let k = neither (is_among seen y) (same_text y x || false) (sym (among-last seen x y) ∙ a.0) in
    let j = neither (same_text y x) false k.1 in
    let l = apart-split seen x ys a.1 in
    (none_of (same_text x y) (is_among ys x) (turned x y j.0) l.0, (k.0, l.1))

apart-join : (seen : List Text) (x : Text) (xs : List Text) → is_among xs x ≡ false → Apart seen xs → Apart (seen ++ x ∷ []) xs
apart-join seen x [] d a = tt
apart-join seen x (y ∷ ys) d a =
    let k = neither (same_text x y) (is_among ys x) d in
    (among-last seen x y ∙ none_of (is_among seen y) (same_text y x || false) a.0 (none_of (same_text y x) false (turned y x k.0) refl), apart-join seen x ys k.1 a.1)

fresh-distinct : (seen xs : List Text) → Fresh seen xs → AreDistinct xs × Apart seen xs
fresh-distinct seen [] f = (tt, tt)
fresh-distinct seen (x ∷ xs) f =
    let k = fresh-distinct (seen ++ x ∷ []) xs f.1 in
    let j = apart-split seen x xs k.1 in
    ((j.0, k.0), (f.0, j.1))

distinct-fresh : (seen xs : List Text) → AreDistinct xs → Apart seen xs → Fresh seen xs
distinct-fresh seen [] d a = tt
distinct-fresh seen (x ∷ xs) d a = (a.0, distinct-fresh (seen ++ x ∷ []) xs d.1 (apart-join seen x xs d.0 a.1))

apart-nothing : (xs : List Text) → Apart [] xs
apart-nothing [] = tt
apart-nothing (x ∷ xs) = (refl, apart-nothing xs)

pub is-distinct : (xs : List Text) → Fresh [] xs → AreDistinct xs
is-distinct xs f = (fresh-distinct [] xs f).0

pub is-fresh : (xs : List Text) → AreDistinct xs → Fresh [] xs
is-fresh xs d = distinct-fresh [] xs d (apart-nothing xs)

-- ---- names after names

pub fresh-split : (seen xs ys : List Text) → Fresh seen (xs ++ ys) → Fresh seen xs × Fresh (seen ++ xs) ys
fresh-split seen [] ys f = (tt, subst (λ (l : List Text). Fresh l ys) (sym (append-nil seen)) f)
fresh-split seen (x ∷ xs) ys f =
    let k = fresh-split (seen ++ x ∷ []) xs ys f.1 in
    ((f.0, k.0), subst (λ (l : List Text). Fresh l ys) (append_assoc seen (x ∷ []) xs) k.1)

pub fresh-join : (seen xs ys : List Text) → Fresh seen xs → Fresh (seen ++ xs) ys → Fresh seen (xs ++ ys)
fresh-join seen [] ys f g = subst (λ (l : List Text). Fresh l ys) (append-nil seen) g
fresh-join seen (x ∷ xs) ys f g = (f.0, fresh-join (seen ++ x ∷ []) xs ys f.1 (subst (λ (l : List Text). Fresh l ys) (sym (append_assoc seen (x ∷ []) xs)) g))

-- ---- the checks

added : (b : Bool) (seen : List Text) (x : Text) (more : List Text) → (if b then Err (Twice x) else Ok (seen ++ x ∷ [])) ≡ Ok more → (b ≡ false) × (seen ++ x ∷ [] ≡ more)
added true seen x more h = absurd (cc)
added false seen x more h = (refl, ok_is h)

pub name-fresh : (seen : List Text) (x : Text) (r : List Text) → with_name seen x ≡ Ok r → (is_among seen x ≡ false) × (seen ++ x ∷ [] ≡ r)
name-fresh seen x r h = added (is_among seen x) seen x r h

pub fresh-name : (seen : List Text) (x : Text) → is_among seen x ≡ false → with_name seen x ≡ Ok (seen ++ x ∷ [])
fresh-name seen x h = rw h refl

pub names-fresh : (seen xs r : List Text) → with_names seen xs ≡ Ok r → Fresh seen xs × (seen ++ xs ≡ r)
names-fresh seen [] r h = (tt, append-nil seen ∙ ok_is h)
names-fresh seen (x ∷ xs) r h =
    let k = parts (with_name seen x) (λ more. with_names more xs) r h in
    let j = name-fresh seen x k.0 k.1 in
    let l = names-fresh k.0 xs r k.2 in
    ((j.0, subst (λ (s : List Text). Fresh s xs) (sym j.1) l.0), sym (append_assoc seen (x ∷ []) xs) ∙ ap (λ s. s ++ xs) j.1 ∙ l.1)

pub fresh-names : (seen xs : List Text) → Fresh seen xs → with_names seen xs ≡ Ok (seen ++ xs)
fresh-names seen [] f = ap Ok (sym (append-nil seen))
fresh-names seen (x ∷ xs) f =
    joined (λ more. with_names more xs) (fresh-name seen x f.0) (fresh-names (seen ++ x ∷ []) xs f.1 ∙ ap Ok (append_assoc seen (x ∷ []) xs))

-- ---- tables

pub among-entries : {X : Type 0} (es : List (Text × X)) (x : Text) → is_some (named es x) ≡ is_among (entry_names es) x
among-entries [] x = refl
among-entries (e ∷ es) x = go (same_text x e.0) (among-entries es x)
  where
    go : (b : Bool) → is_some (named es x) ≡ is_among (entry_names es) x → is_some (cond b (Some e.1) (named es x)) ≡ (b || is_among (entry_names es) x)
    go true h = refl
    go false h = h

pub names-append : {X : Type 0} (es fs : List (Text × X)) → entry_names (es ++ fs) ≡ entry_names es ++ entry_names fs
names-append [] fs = refl
names-append (e ∷ es) fs = ap (λ (l : List Text). e.0 ∷ l) (names-append es fs)

pub entry-fresh : {X : Type 0} (es : List (Text × X)) (x : Text) (v : X) (r : List (Text × X)) → with_entry es x v ≡ Ok r → (is_among (entry_names es) x ≡ false) × (es ++ (x, v) ∷ [] ≡ r)
entry-fresh {X} es x v r h = go (is_some (named es x)) (sym (among-entries es x)) h
  where
    go : (b : Bool) → is_among (entry_names es) x ≡ b → (if b then Err (Twice x) else Ok (es ++ (x, v) ∷ [])) ≡ Ok r → (is_among (entry_names es) x ≡ false) × (es ++ (x, v) ∷ [] ≡ r)
    go true e k = absurd (cc)
    go false e k = (e, ok_is k)

pub fresh-entry : {X : Type 0} (es : List (Text × X)) (x : Text) (v : X) → is_among (entry_names es) x ≡ false → with_entry es x v ≡ Ok (es ++ (x, v) ∷ [])
fresh-entry es x v h = rw (among-entries es x ∙ h) refl

pub entries-fresh : {X : Type 0} (es fs r : List (Text × X)) → with_entries es fs ≡ Ok r → Fresh (entry_names es) (entry_names fs) × (es ++ fs ≡ r)
entries-fresh es [] r h = (tt, append-nil es ∙ ok_is h)
entries-fresh {X} es (f ∷ fs) r h =
    let k = parts (with_entry es f.0 f.1) (λ more. with_entries more fs) r h in
    let j = entry-fresh es f.0 f.1 k.0 k.1 in
    let l = entries-fresh k.0 fs r k.2 in
    let at : entry_names k.0 ≡ entry_names es ++ f.0 ∷ [] = ap entry_names (sym j.1) ∙ names-append es ((f.0, f.1) ∷ []) in
    ((j.0, subst (λ (s : List Text). Fresh s (entry_names fs)) at l.0), sym (append_assoc es (f ∷ []) fs) ∙ ap (λ (s : List (Text × X)). s ++ fs) j.1 ∙ l.1)

pub fresh-entries : {X : Type 0} (es fs : List (Text × X)) → Fresh (entry_names es) (entry_names fs) → with_entries es fs ≡ Ok (es ++ fs)
fresh-entries es [] f = ap Ok (sym (append-nil es))
fresh-entries {X} es (e ∷ fs) f =
    let rest : Fresh (entry_names (es ++ e ∷ [])) (entry_names fs) = subst (λ (s : List Text). Fresh s (entry_names fs)) (sym (names-append es (e ∷ []))) f.1 in
    joined (λ more. with_entries more fs) (fresh-entry es e.0 e.1 f.0) (fresh-entries (es ++ e ∷ []) fs rest ∙ ap Ok (append_assoc es (e ∷ []) fs))

-- ---- parameters and locals

pub own-distinct : (h : Head) (locals : List Var) (r : List Text) → own_names h locals ≡ Ok r → AreDistinct (own_names_of h locals)
own-distinct h locals r e =
    let k = parts (with_names [] (names_of h.ins)) (λ ins. and_then (with_names ins (names_of h.outs)) (λ outs. with_names outs (names_of locals))) r e in
    let j = parts (with_names k.0 (names_of h.outs)) (λ outs. with_names outs (names_of locals)) r k.2 in
    let a = names-fresh [] (names_of h.ins) k.0 k.1 in
    let b = names-fresh k.0 (names_of h.outs) j.0 j.1 in
    let c = names-fresh j.0 (names_of locals) r j.2 in
    is-distinct (own_names_of h locals)
    (fresh-join [] (names_of h.ins) (names_of h.outs ++ names_of locals) a.0
    (subst (λ (s : List Text). Fresh s (names_of h.outs ++ names_of locals)) (sym a.1)
    (fresh-join k.0 (names_of h.outs) (names_of locals) b.0 (subst (λ (s : List Text). Fresh s (names_of locals)) (sym b.1) c.0))))

pub distinct-own : (h : Head) (locals : List Var) → AreDistinct (own_names_of h locals) → (r : List Text) × (own_names h locals ≡ Ok r)
distinct-own h locals d =
    let f = is-fresh (own_names_of h locals) d in
    let a = fresh-split [] (names_of h.ins) (names_of h.outs ++ names_of locals) f in
    let b = fresh-split (names_of h.ins) (names_of h.outs) (names_of locals) a.1 in (
      (names_of h.ins ++ names_of h.outs) ++ names_of locals,
      joined (λ ins. and_then (with_names ins (names_of h.outs)) (λ outs. with_names outs (names_of locals))) (fresh-names [] (names_of h.ins) a.0)
          (joined (λ outs. with_names outs (names_of locals)) (fresh-names (names_of h.ins) (names_of h.outs) b.0) (fresh-names (names_of h.ins ++ names_of h.outs) (names_of locals) b.1)),
    )
