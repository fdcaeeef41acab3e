-- Lists of items with heights, as their readers read them.
use Rattle.std.proofs.Common.{◌≡◌, ℕ, suc, ◌<◌, ◌≤◌, max, true, false, List, [], ◌∷◌, ◌++◌, length, refl, ap, sym, ◌∙◌, subst, arith, append_assoc}
use Rattle.std.specs.Prelude.{Bool}
use Rattle.std.proofs.lemmas.List.{append-nil}
use denote.Enum.Bare.{false_same}
use Rattle.sd_lex.specs.declared.Token.{Token}
use Rattle.sd_parse.specs.declared.class.TokenClass.{TokenClass}
use Rattle.sd_parse.specs.declared.class.TokenClass.TheVariants as s
use Rattle.sd_parse.specs.contracts.class.TokenClass.{the_type}
use Rattle.sd_parse.specs.TokenClasses.{class, same_class}
use Rattle.sd_parse.specs.Grammar.{Tokens, Is}
use Rattle.sd_parse.specs.Rows as r
use Rattle.sd_parse.specs.Rows.{Row, Joined, Commas, Enclosed}
use Rattle.sd_parse.specs.Reading.{Got, Reader, and_then, ahead, class_of, want, all}
use Rattle.sd_parse.specs.ReadingRows.{push, join_lists, is, listed_by, listed, enclosed}
use Rattle.sd_parse.specs.ReadingRows as reading
use Rattle.sd_parse.proofs.Texts.{Wanted, wanted, Nothing, settle, Both, both}
use Rattle.sd_parse.proofs.ExpressionComplete.{want_reads, same_classes}
use Rattle.sd_parse.proofs.Lists.{Many, none, more, Behind, push_all, join_all, all_complete}
use Rattle.sd_parse.proofs.Lists as lists

-- within a height
pub record Low {A : Type 0} (F : Tokens → A → ℕ → Type 0) (d : ℕ) (u : Tokens) (x : A) : Type 0 where
  pub height : ℕ
  pub spelt : F u x height
  pub low : height ≤ d

-- ---- classes

pub other_class : (a b : TokenClass) → (a ≡ b → ⊥) → same_class a b ≡ false
unfolding same_class
other_class a b f = false_same the_type tt a b f

-- the next token is of one class, and not of another
pub apart : (x y : TokenClass) (rest : Tokens) → class_of (ahead rest) ≡ x → (x ≡ y → ⊥) → is y (class_of (ahead rest)) ≡ false
apart x y rest e f = other_class (class_of (ahead rest)) y (λ g. f (sym e ∙ g))

-- ---- items one after another

module _ {A : Type 0} (F : Tokens → A → ℕ → Type 0) (d : ℕ) where
  pub row_of : {u : Tokens} {xs : List A} → Many (Low F d) u xs → Low (Row F) d u xs
  row_of none = record { height = 0; spelt = r.none; low = omega arith }
  row_of (more f m) = let w = row_of m in record { height = max f.height w.height; spelt = r.more f.spelt w.spelt; low = let y = f.low in let z = w.low in omega arith }

  pub of_row : {u : Tokens} {xs : List A} {h : ℕ} → Row F u xs h → h ≤ d → Many (Low F d) u xs
  of_row r.none low = none
  of_row (r.more {h = h} f m) low = more (record { height = h; spelt = f; low = omega arith }) (of_row m (omega arith))

  module _ (begins : TokenClass → Bool) (item : Reader A) (Ends : Tokens → Type 0)
      (some : (u : Tokens) (x : A) (h : ℕ) → F u x h → 0 < length u)
      (first : (u : Tokens) (x : A) (h : ℕ) (rest : Tokens) → F u x h → begins (class_of (ahead (u ++ rest))) ≡ true)
      (ends : (rest : Tokens) → begins (class_of (ahead rest)) ≡ true → Ends rest)
      (complete : (u : Tokens) (x : A) (h : ℕ) (rest : Tokens) → F u x h → h ≤ d → Ends rest → item (u ++ rest) ≡ Got x rest) where
    pub row_complete : (rest : Tokens) → Ends rest → begins (class_of (ahead rest)) ≡ false → {u : Tokens} {xs : List A} {h : ℕ} → Row F u xs h → h ≤ d → all begins item push [] (u ++ rest) ≡ Got xs rest
    row_complete rest e stops m low = all_complete (Low F d) begins item push Ends (λ u x f. some u x f.height f.spelt) (λ u x rest f. first u x f.height rest f.spelt) ends (λ u x rest f e. complete u x f.height rest f.spelt f.low e)
        rest e stops (push_all (Low F d) begins (of_row m low) [])

module _ {A : Type 0} (F : Tokens → List A → ℕ → Type 0) (d : ℕ) where
  pub joined_of : {u : Tokens} {xs : List A} → lists.Joined (Low F d) u xs → Low (Joined F) d u xs
  joined_of lists.none = record { height = 0; spelt = r.none; low = omega arith }
  joined_of (lists.more f m) = let w = joined_of m in record { height = max f.height w.height; spelt = r.more f.spelt w.spelt; low = let y = f.low in let z = w.low in omega arith }

  pub of_joined : {u : Tokens} {xs : List A} {h : ℕ} → Joined F u xs h → h ≤ d → lists.Joined (Low F d) u xs
  of_joined r.none low = lists.none
  of_joined (r.more {h = h} f m) low = lists.more (record { height = h; spelt = f; low = omega arith }) (of_joined m (omega arith))

  module _ (begins : TokenClass → Bool) (item : Reader (List A))
      (some : (u : Tokens) (x : List A) (h : ℕ) → F u x h → 0 < length u)
      (first : (u : Tokens) (x : List A) (h : ℕ) (rest : Tokens) → F u x h → begins (class_of (ahead (u ++ rest))) ≡ true)
      (complete : (u : Tokens) (x : List A) (h : ℕ) (rest : Tokens) → F u x h → h ≤ d → item (u ++ rest) ≡ Got x rest) where
    pub joined_complete : (rest : Tokens) → begins (class_of (ahead rest)) ≡ false → {u : Tokens} {xs : List A} {h : ℕ} → Joined F u xs h → h ≤ d → all begins item join_lists [] (u ++ rest) ≡ Got xs rest
    joined_complete rest stops m low = all_complete (Low F d) begins item join_lists (λ _. Unit {0}) (λ u x f. some u x f.height f.spelt) (λ u x rest f. first u x f.height rest f.spelt) (λ rest e. tt) (λ u x rest f e. complete u x f.height rest f.spelt f.low)
        rest tt stops (join_all (Low F d) begins (of_joined m low) [])

-- ---- items with commas between them

-- an item after a comma
pub data Next {A : Type 0} (F : Tokens → A → Type 0) : Tokens → A → Type 0 where
  next : {c : Token} {u : Tokens} {x : A} → Is s.Comma c → F u x → Next F (c ∷ u) x

pub to_next : {A : Type 0} (F : Tokens → A → Type 0) (u : Tokens) (x : A) → Both (Wanted s.Comma) (λ _. F) u x → Next F u x
to_next F u x (both (wanted i) f) = next i f

module _ {A : Type 0} (F : Tokens → A → Type 0) (item : Reader A) where
  pub next_first : (u : Tokens) (x : A) (rest : Tokens) → Next F u x → is s.Comma (class_of (ahead (u ++ rest))) ≡ true
  next_first u x rest (next {c = c} i f) = same_classes (class c) s.Comma i.same

  pub next_some : (u : Tokens) (x : A) → Next F u x → 0 < length u
  next_some u x (next i f) = omega arith

  pub next_reads : (Ends : Tokens → Type 0) → ((u : Tokens) (x : A) (rest : Tokens) → F u x → Ends rest → item (u ++ rest) ≡ Got x rest) → (u : Tokens) (x : A) (rest : Tokens) → Next F u x → Ends rest → reading.next item (u ++ rest) ≡ Got x rest
  unfolding reading.next
  next_reads Ends complete w x rest (next {u = u} i f) e = complete u x rest f e

  pub more_complete : (Ends : Tokens → Type 0) → ((rest : Tokens) → is s.Comma (class_of (ahead rest)) ≡ true → Ends rest) → ((u : Tokens) (x : A) (rest : Tokens) → F u x → Ends rest → item (u ++ rest) ≡ Got x rest)
      → (rest : Tokens) → Ends rest → is s.Comma (class_of (ahead rest)) ≡ false → {u : Tokens} {xs : List A} → Many (Next F) u xs → (acc : List A) → reading.more item acc (u ++ rest) ≡ Got (acc ++ xs) rest
  unfolding reading.more
  more_complete Ends ends complete rest e stops m acc = all_complete (Next F) (is s.Comma) (reading.next item) push Ends next_some next_first ends (next_reads Ends complete) rest e stops (push_all (Next F) (is s.Comma) m acc)

module _ {A : Type 0} (F : Tokens → A → ℕ → Type 0) (d : ℕ) where
  pub commas_of : {u v : Tokens} {x : A} {xs : List A} → Low F d u x → Many (Next (Low F d)) v xs → Low (Commas F) d (u ++ v) (x ∷ xs)
  commas_of {u = u} {x = x} f none = subst (λ z. Low (Commas F) d z (x ∷ [])) (sym (append-nil u)) (record { height = f.height; spelt = r.one f.spelt; low = f.low })
  commas_of {u = u} f (more (next {u = v} i g) m) = let w = commas_of {u = v} g m in record { height = max f.height w.height; spelt = r.more f.spelt i w.spelt; low = let y = f.low in let z = w.low in omega arith }

  pub of_commas : {c : Token} {u : Tokens} {xs : List A} {h : ℕ} → Is s.Comma c → Commas F u xs h → h ≤ d → Many (Next (Low F d)) (c ∷ u) xs
  of_commas {c = c} i (r.one {u = u} {x = x} {h = h} f) low = subst (λ z. Many (Next (Low F d)) (c ∷ z) (x ∷ [])) (append-nil u) (more (next i (record { height = h; spelt = f; low = low })) none)
  of_commas {c = c} i (r.more {c = e} {h = h} f j m) low = more (next i (record { height = h; spelt = f; low = omega arith })) (of_commas {c = e} j m (omega arith))

  pub to_commas : (u : Tokens) (xs : List A) → Both (Low F d) (λ x. Behind (Many (Next (Low F d))) (x ∷ [])) u xs → Low (Commas F) d u xs
  to_commas w xs (both {u = u} {v = v} f m) = subst (λ ys. Low (Commas F) d (u ++ v) ys) (sym m.same) (commas_of f m.list)

  pub to_none : (u : Tokens) (xs : List A) → Both (Wanted s.Close) (λ _. Nothing []) u xs → (o : Token) → Is s.Open o → Low (Enclosed F) d (o ∷ u) xs
  to_none u xs (both (wanted {t = c} i) n) o j = settle n (λ z xs. Low (Enclosed F) d (o ∷ c ∷ z) xs) (record { height = 0; spelt = r.none j i; low = omega arith })

  pub to_some : (u : Tokens) (xs : List A) → Both (Low (Commas F) d) (λ ys. Both (Wanted s.Close) (λ _. Nothing ys)) u xs → (o : Token) → Is s.Open o → Low (Enclosed F) d (o ∷ u) xs
  to_some u xs (both {u = v} w (both (wanted {t = c} i) n)) o j = settle n (λ z xs. Low (Enclosed F) d (o ∷ (v ++ c ∷ z)) xs) (record { height = w.height; spelt = r.some j w.spelt i; low = w.low })

  -- what stands after the parenthesis that opens
  pub data Opened : Tokens → List A → Type 0 where
    opened : {u : Tokens} {xs : List A} → ((o : Token) → Is s.Open o → Low (Enclosed F) d (o ∷ u) xs) → Opened u xs

  pub to_enclosed : (u : Tokens) (xs : List A) → Both (Wanted s.Open) (λ _. Opened) u xs → Low (Enclosed F) d u xs
  to_enclosed u xs (both (wanted {t = o} i) (opened f)) = f o i

  module _ (item : Reader A) (Ends : Tokens → Type 0) (ends : (rest : Tokens) → is s.Comma (class_of (ahead rest)) ≡ true → Ends rest)
      (complete : (u : Tokens) (x : A) (h : ℕ) (rest : Tokens) → F u x h → h ≤ d → Ends rest → item (u ++ rest) ≡ Got x rest) where
    pub commas_complete : (rest : Tokens) → Ends rest → is s.Comma (class_of (ahead rest)) ≡ false → {u : Tokens} {xs : List A} {h : ℕ} → Commas F u xs h → h ≤ d → reading.commas item (u ++ rest) ≡ Got xs rest
    unfolding reading.commas
    commas_complete rest e stops (r.one {u = u} {x = x} {h = h} f) low = rw (complete u x h rest f low e) (more_complete (Low F d) item Ends ends (λ u x rest f e. complete u x f.height rest f.spelt f.low e) rest e stops none (x ∷ []))
    commas_complete rest e stops (r.more {c = c} {u = u} {v = v} {x = x} {h = h} f i m) low =
        let first : item (u ++ c ∷ (v ++ rest)) ≡ Got x (c ∷ (v ++ rest)) = complete u x h (c ∷ (v ++ rest)) f (omega arith) (ends (c ∷ (v ++ rest)) (same_classes (class c) s.Comma i.same)) in
        simp append_assoc (rw (first) (more_complete (Low F d) item Ends ends (λ u x rest f e. complete u x f.height rest f.spelt f.low e) rest e stops (of_commas i m (omega arith)) (x ∷ [])))

    module _ (closes : (rest : Tokens) → class_of (ahead rest) ≡ s.Close → Ends rest) (first : (u : Tokens) (x : A) (h : ℕ) (rest : Tokens) → F u x h → class_of (ahead (u ++ rest)) ≡ s.Close → ⊥) where
      commas_first : {u : Tokens} {xs : List A} {h : ℕ} (rest : Tokens) → Commas F u xs h → class_of (ahead (u ++ rest)) ≡ s.Close → ⊥
      commas_first rest (r.one {u = u} {x = x} {h = h} f) e = first u x h rest f e
      commas_first rest (r.more {c = c} {u = u} {v = v} {x = x} {h = h} f i m) e = first u x h (c ∷ (v ++ rest)) f (ap (λ z. class_of (ahead z)) (sym (append_assoc u (c ∷ v) rest)) ∙ e)

      listed_some : (x : TokenClass) (ts : Tokens) → (x ≡ s.Close → ⊥) → listed_by item x ts ≡ and_then (reading.commas item ts) (λ xs ts. and_then (want s.Close ts) (λ _ ts. Got xs ts))
      listed_some s.Close ts f = absurd (f refl)
      listed_some _ ts f = refl

      pub enclosed_complete : (rest : Tokens) → {u : Tokens} {xs : List A} {h : ℕ} → Enclosed F u xs h → h ≤ d → enclosed item (u ++ rest) ≡ Got xs rest
      unfolding enclosed listed
      enclosed_complete rest (r.none {o = o} {c = c} i j) low = rw (want_reads s.Open o (c ∷ rest) i) (ap (λ x. listed_by item x (c ∷ rest)) j.same)
      enclosed_complete rest (r.some {o = o} {c = c} {u = u} {xs = xs} i m j) low =
          let read : reading.commas item (u ++ c ∷ rest) ≡ Got xs (c ∷ rest) = commas_complete (c ∷ rest) (closes (c ∷ rest) j.same) (apart s.Close s.Comma (c ∷ rest) j.same (λ e. cc)) m low in
          simp append_assoc (rw (want_reads s.Open o (u ++ c ∷ rest) i) (listed_some (class_of (ahead (u ++ c ∷ rest))) (u ++ c ∷ rest) (commas_first (c ∷ rest) m) ∙ rw (read, want_reads s.Close c rest j) refl))
