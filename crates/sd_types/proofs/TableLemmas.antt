-- Tables as lists of names with what they stand for.
use Rattle.std.proofs.Common.{◌≡◌, Bool, true, false, cond, List, [], ◌∷◌, ◌++◌, Option, None, Some, is_some, Ok, refl, sym, ap, subst, ◌∙◌}
use Rattle.std.specs.Cmp.Lexicographic.{bytes_decides}
use Rattle.sd_base.specs.Value.{Text, same_text}
use Rattle.indexmap.specs.IndexMap.{IndexMap, get_by, insert_entry}
use Rattle.indexmap.proofs.CallerLemmas.{insert_entry-new}
use Rattle.std.specs.Prelude.{◌||◌}
use Rattle.std.proofs.lemmas.List.Folds.{list_any-append}
use Rattle.sd_types.specs.Names.{is_among, HaveSame}
use Rattle.sd_types.proofs.NamesLemmas.{have_same-added}
use Rattle.sd_types.specs.Answer.{Leaves}
use Rattle.sd_types.specs.Tables.{named, with_entry, FindSame}

none_if : {X : Type 0} (o : Option X) → is_some o ≡ false → o ≡ None
none_if None h = refl
none_if (Some x) h = absurd (cc)

pub absent : {X : Type 0} (es : List (Text × X)) (x : Text) (r : Bool) → r ≡ is_some (named es x) → r ≡ false → named es x ≡ None
absent es x r h e = none_if (named es x) (sym h ∙ e)

-- a later entry doesn't hide an earlier one
later : {X : Type 0} (es : List (Text × X)) (x : Text) (v : X) (q : Text) → (same_text q x ≡ true → is_some (named es q) ≡ true) → named es q ≡ named (es ++ (x, v) ∷ []) q
later {X} [] x v q h = go (same_text q x) refl
  where
    go : (b : Bool) → same_text q x ≡ b → None ≡ cond b (Some v) None
    go true e = absurd (let t = h e in cc)
    go false e = refl
later {X} (e ∷ es) x v q h = go (same_text q e.0) refl (later es x v q)
  where
    go : (b : Bool) → same_text q e.0 ≡ b → ((same_text q x ≡ true → is_some (named es q) ≡ true) → named es q ≡ named (es ++ (x, v) ∷ []) q) → cond b (Some e.1) (named es q) ≡ cond b (Some e.1) (named (es ++ (x, v) ∷ []) q)
    go true k rest = refl
    go false k rest = rest (λ t. ap (λ (b : Bool). is_some (cond b (Some e.1) (named es q))) (sym k) ∙ h t)

pub kept : {X : Type 0} (es : List (Text × X)) (x : Text) (v : X) → is_some (named es x) ≡ true → FindSame es (es ++ (x, v) ∷ [])
kept es x v h q = later es x v q (λ t. subst (λ (y : Text). is_some (named es y) ≡ true) (sym ((bytes_decides q x).0 t)) h)

module _ {X S : Type 0} (m : IndexMap Text X S) (es : List (Text × X)) (is : m.entries ≡ es) (x : Text) (r : Bool) (found : r ≡ is_some (get_by (same_text x) m)) where
  there : r ≡ is_some (named es x)
  there = found ∙ ap (λ (l : List (Text × X)). is_some (named l x)) is

  pub taken : r ≡ true → is_some (named es x) ≡ true
  taken t = sym there ∙ t

  pub missing : r ≡ false → is_some (named es x) ≡ false
  missing t = sym there ∙ t

  -- a new name goes last
  pub appended : r ≡ false → (k : Text) → k ≡ x → (v : X) (new : List (Text × X)) → new ≡ insert_entry same_text m.entries k v → new ≡ es ++ (x, v) ∷ []
  appended f k e v new h =
      h ∙ insert_entry-new same_text m k v (subst (λ (y : Text). named m.entries y ≡ None) (sym e) (absent m.entries x r found f))
      ∙ (λ i. is i ++ (e i, v) ∷ [])

  pub appended-finds : r ≡ false → (k : Text) → k ≡ x → (v : X) (new : List (Text × X)) → new ≡ insert_entry same_text m.entries k v → FindSame new (es ++ (x, v) ∷ [])
  appended-finds f k e v new h q = ap (λ (l : List (Text × X)). named l q) (appended f k e v new h)

with_new : {X : Type 0} (es : List (Text × X)) (x : Text) (v : X) → is_some (named es x) ≡ false → with_entry es x v ≡ Ok (es ++ (x, v) ∷ [])
with_new es x v h = rw h refl

pub adds : {X : Type 0} (es : List (Text × X)) (x : Text) (v : X) (new : List (Text × X)) → is_some (named es x) ≡ false → new ≡ es ++ (x, v) ∷ [] → Leaves (with_entry es x v) new (Ok tt)
adds es x v new h e = record { ok = with_new es x v h ∙ ap Ok (sym e); err = tt }

-- ---- sets of names

last_or : (xs : List Text) (x q : Text) → is_among (xs ++ x ∷ []) q ≡ (is_among xs q || same_text q x)
last_or xs x q = list_any-append (same_text q) xs (x ∷ []) ∙ ap (λ (b : Bool). is_among xs q || b) (or_none (same_text q x))
  where
    or_none : (b : Bool) → (b || false) ≡ b
    or_none true = refl
    or_none false = refl

-- what an insertion leaves
pub put-same : (old new : List Text) (k x : Text) → k ≡ x → ((q : Text) → is_among new q ≡ cond (same_text k q) true (is_among old q)) → HaveSame new (old ++ x ∷ [])
put-same old new k x e h q =
    have_same-added old new k x e h q ∙ or_swapped (same_text q x) (is_among old q) ∙ sym (last_or old x q)
  where
    or_swapped : (a b : Bool) → (a || b) ≡ (b || a)
    or_swapped true true = refl
    or_swapped true false = refl
    or_swapped false true = refl
    or_swapped false false = refl
