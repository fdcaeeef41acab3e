-- Symbols.
use Rattle.std.proofs.Common.{◌≡◌, ℕ, suc, ◌<◌, ◌≤◌, true, false, cond, List, [], ◌∷◌, ◌++◌, length, take, drop, refl, ap, sym, ◌∙◌, subst, arith, inl, inr, append_assoc, length-append, take-append-drop}
use Rattle.std.specs.Prelude.{Bool, Some, None, ◌⊎◌, ◌&&◌, nat_le, nat_lt, nat_eq}
use Rattle.std.specs.List.{starts_with}
use Rattle.std.specs.Bool.{Decides}
use Rattle.std.proofs.lemmas.Slice.Eq.{starts_is}
use Rattle.std.proofs.lemmas.Bool.{and_parts}
use Rattle.std.proofs.lemmas.Bool.Decides.{nat_tests}
use Rattle.sd_lex.specs.declared.token.Piece.TheVariants.{BadByte}
use Rattle.sd_lex.specs.Pieces.{Bytes, Other, first, BeginsAs, BeginsWith, IsIn, mark, first_mark}
use Rattle.sd_lex.specs.Tables.{marks}
use Rattle.sd_lex.proofs.Cuts.{true_false, whole_cut}

Table : Type 0
Table = List (Bytes × Bool)

eq_decides : (a b : ℕ) → Decides (nat_eq a b) (a ≡ b)
eq_decides a b = grind (arith, nat_tests)

begins : (text m : Bytes) → starts_with nat_eq text m ≡ true → text ≡ m ++ drop (length m) text
begins text m h = (starts_is eq_decides text m (starts_with nat_eq text m) refl).0 h

begins_back : (text m rest : Bytes) → text ≡ m ++ rest → starts_with nat_eq text m ≡ true
begins_back text m rest h = (starts_is eq_decides text m (starts_with nat_eq text m) refl).1 rest h

-- no entry is empty, and none is longer than n or than one before it
abbrev falls : ℕ → List (Bytes × Bool) → Bool
falls n [] = true
falls n (m ∷ ms) = nat_le (length m.0) n && (nat_lt 0 (length m.0) && falls (length m.0) ms)

marks_fall : falls 4 marks ≡ true
unfolding marks
marks_fall = refl

module _ (text : Bytes) where
  -- what the first entry that fits is
  found_by : (m r : Bytes × Bool) (ms : List (Bytes × Bool)) (b : Bool) → starts_with nat_eq text m.0 ≡ b → cond b (Some m) (first_mark ms text) ≡ Some r
      → (first_mark ms text ≡ Some r → IsIn ms r.0 r.1 × (text ≡ r.0 ++ drop (length r.0) text)) → IsIn (m ∷ ms) r.0 r.1 × (text ≡ r.0 ++ drop (length r.0) text)
  unfolding IsIn
  found_by m r ms true s e ih = let same : m ≡ r = cc in (inl (ap (λ m. m.0) same, ap (λ m. m.1) same), subst (λ m. text ≡ m.0 ++ drop (length m.0) text) same (begins text m.0 s))
  found_by m r ms false s e ih = let w = ih e in (inr w.0, w.1)

  pub found_in : (table : List (Bytes × Bool)) (r : Bytes × Bool) → first_mark table text ≡ Some r → IsIn table r.0 r.1 × (text ≡ r.0 ++ drop (length r.0) text)
  found_in [] r e = absurd (cc)
  found_in (m ∷ ms) r e = found_by m r ms (starts_with nat_eq text m.0) refl e (found_in ms r)

  -- each entry's length is between 1 and the bound
  pub bounded : (table : List (Bytes × Bool)) (n : ℕ) (t : Bytes) (s : Bool) → falls n table ≡ true → IsIn table t s → (0 < length t) × (length t ≤ n)
  unfolding IsIn
  bounded [] n t s f i = absurd i
  bounded (m ∷ ms) n t s f i =
      let x = and_parts (nat_le (length m.0) n) (nat_lt 0 (length m.0) && falls (length m.0) ms) f in
      let y = and_parts (nat_lt 0 (length m.0)) (falls (length m.0) ms) x.1 in
      elim i [
        | inl w ↦ let same = ap length w.0 in (let z : 0 < length m.0 = grind (arith, nat_tests, y.0) in omega arith, let z : length m.0 ≤ n = grind (arith, nat_tests, x.0) in omega arith)
        | inr w ↦ let b = bounded ms (length m.0) t s y.1 w in (b.0, let z : length m.0 ≤ n = grind (arith, nat_tests, x.0) in omega arith)
      ]

  longest_by : (m r : Bytes × Bool) (ms : List (Bytes × Bool)) (t : Bytes) (s : Bool) (rest : Bytes) (b : Bool) → starts_with nat_eq text m.0 ≡ b → cond b (Some m) (first_mark ms text) ≡ Some r → falls (length m.0) ms ≡ true
      → ((m.0 ≡ t) × (m.1 ≡ s)) ⊎ IsIn ms t s → text ≡ t ++ rest → (first_mark ms text ≡ Some r → IsIn ms t s → length t ≤ length r.0) → length t ≤ length r.0
  longest_by m r ms t s rest true k e f i split ih =
      let same : m ≡ r = cc in
      let len = ap (λ m. length m.0) same in
      elim i [ inl w ↦ let z = ap length w.0 in omega arith | inr w ↦ let z = bounded ms (length m.0) t s f w in omega arith ]
  longest_by m r ms t s rest false k e f i split ih =
      elim i [ inl w ↦ absurd (true_false (begins_back text m.0 rest (split ∙ ap (λ t. t ++ rest) (sym w.0))) k) | inr w ↦ ih e w ]

  pub longest_in : (table : List (Bytes × Bool)) (n : ℕ) (r : Bytes × Bool) (t : Bytes) (s : Bool) (rest : Bytes) → falls n table ≡ true → first_mark table text ≡ Some r → IsIn table t s → text ≡ t ++ rest → length t ≤ length r.0
  unfolding IsIn
  longest_in [] n r t s rest f e i split = absurd i
  longest_in (m ∷ ms) n r t s rest f e i split =
      let x = and_parts (nat_le (length m.0) n) (nat_lt 0 (length m.0) && falls (length m.0) ms) f in
      let y = and_parts (nat_lt 0 (length m.0)) (falls (length m.0) ms) x.1 in
      longest_by m r ms t s rest (starts_with nat_eq text m.0) refl e y.1 i split (λ e i. longest_in ms (length m.0) r t s rest y.1 e i split)

  none_by : (m : Bytes × Bool) (ms : List (Bytes × Bool)) (t : Bytes) (s : Bool) (rest : Bytes) (b : Bool) → starts_with nat_eq text m.0 ≡ b → cond b (Some m) (first_mark ms text) ≡ None
      → ((m.0 ≡ t) × (m.1 ≡ s)) ⊎ IsIn ms t s → text ≡ t ++ rest → (first_mark ms text ≡ None → IsIn ms t s → ⊥) → ⊥
  none_by m ms t s rest true k e i split ih = absurd (cc)
  none_by m ms t s rest false k e i split ih =
      elim i [ inl w ↦ true_false (begins_back text m.0 rest (split ∙ ap (λ t. t ++ rest) (sym w.0))) k | inr w ↦ ih e w ]

  pub none_in : (table : List (Bytes × Bool)) (t : Bytes) (s : Bool) (rest : Bytes) → first_mark table text ≡ None → IsIn table t s → text ≡ t ++ rest → ⊥
  unfolding IsIn
  none_in [] t s rest e i split = absurd i
  none_in (m ∷ ms) t s rest e i split = none_by m ms t s rest (starts_with nat_eq text m.0) refl e i split (λ e i. none_in ms t s rest e i split)

take_front : (u v : Bytes) → take (length u) (u ++ v) ≡ u
take_front [] v = refl
take_front (x ∷ u) v = ap (λ u. x ∷ u) (take_front u v)

text_is : (b x : ℕ) (more name : Bytes) → b ≡ x → take (length name) more ≡ name → b ∷ take (length name) more ≡ x ∷ name
text_is b x more name h t = cc

mark_begins : (b x : ℕ) (more name rest : Bytes) (s : Bool) → first b ≡ Other → b ≡ x → more ≡ name ++ rest → IsIn marks (x ∷ name) s
    → ((t : Bytes) (s : Bool) (rest : Bytes) → IsIn marks t s → b ∷ more ≡ t ++ rest → length t ≤ suc (length name)) → BeginsWith (b ∷ more) (mark (x ∷ name) s) (suc (length name))
mark_begins b x more name rest s e head tail is best =
    let front : take (length name) more ≡ name = ap (take (length name)) tail ∙ take_front name rest in
    whole_cut Other b more (length name) (mark (x ∷ name) s) e (let z = ap length tail in omega (arith, z, length-append name rest))
    (inl (s, subst (λ t. IsIn marks t s) (sym (text_is b x more name head front)) is, ap (λ t. mark t s) (sym (text_is b x more name head front))))
    (λ c extra after q split h.
    let whole : b ∷ more ≡ b ∷ (take (length name) more ++ c ∷ extra) ++ after = ap (λ m. b ∷ m) (sym (take-append-drop (length name) more) ∙ ap (λ r. take (length name) more ++ r) split ∙ sym (append_assoc (take (length name) more) (c ∷ extra) after)) in
    let len = length-append (take (length name) more) (c ∷ extra) in
    let same = ap length front in
    elim h [
      | inl w ↦ absurd (let z = best (b ∷ take (length name) more ++ c ∷ extra) w.0 after w.1 whole in omega arith)
      | inr w ↦ absurd (let z = w.0 in omega arith)
    ])

pub mark_cut : (text name : Bytes) (s : Bool) → BeginsAs Other text → first_mark marks text ≡ Some (name, s) → BeginsWith text (mark name s) (length name)
mark_cut [] name s f e = absurd f
mark_cut (b ∷ more) [] s f e = absurd (let w = found_in (b ∷ more) marks ([], s) e in let z = bounded (b ∷ more) marks 4 [] s marks_fall w.0 in omega (arith, z.0))
mark_cut (b ∷ more) (x ∷ name) s f e =
    let w = found_in (b ∷ more) marks (x ∷ name, s) e in
    let split : b ∷ more ≡ x ∷ name ++ drop (suc (length name)) (b ∷ more) = w.1 in
    mark_begins b x more name (drop (suc (length name)) (b ∷ more)) s f (cc) (cc) w.0
    (λ t s' rest i split'. longest_in (b ∷ more) marks 4 (x ∷ name, s) t s' rest marks_fall e i split')

pub none_cut : (text : Bytes) → BeginsAs Other text → first_mark marks text ≡ None → BeginsWith text BadByte 1
none_cut [] f e = absurd f
none_cut (b ∷ more) f e = whole_cut Other b more 0 BadByte f (omega arith)
    (inr (refl, λ s i. none_in (b ∷ more) marks (b ∷ []) s more e i refl, refl))
    (λ c extra after q split h. elim h [
      | inl w ↦ none_in (b ∷ more) marks (b ∷ c ∷ extra) w.0 after e w.1 (ap (λ m. b ∷ m) split)
      | inr w ↦ absurd (let z = w.0 in omega arith)
    ])
