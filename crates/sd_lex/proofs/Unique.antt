-- A text has one answer: its tokens, or its refusal.
use Rattle.std.proofs.Common.{◌≡◌, ℕ, ◌+◌, true, false, List, [], ◌∷◌, ◌++◌, length, refl, ap, sym, ◌∙◌, subst, arith, inl, inr}
use Rattle.std.specs.Prelude.{Bool, ◌⊎◌, ◌&&◌, not}
use Rattle.std.specs.Str.{bytes_eq}
use Rattle.std.proofs.lemmas.Bool.{and_parts, not-true}
use Rattle.std.proofs.lemmas.List.{append_cancel_right}
use Rattle.std.proofs.lemmas.Slice.Eq.{bytes_eq-Decides}
use Rattle.sd_lex.specs.declared.token.Token.{Token}
use Rattle.sd_lex.specs.declared.token.TokenKind.{TokenKind}
use Rattle.sd_lex.specs.declared.token.LexError.{LexError}
use Rattle.sd_lex.specs.declared.token.Piece.{Piece}
use Rattle.sd_lex.specs.declared.token.Piece.TheVariants.{Gap, Whole, Wide, Unsupported, BadByte, OpenComment, OpenString}
use Rattle.sd_lex.specs.declared.token.TokenKind.TheVariants.{Text}
use Rattle.sd_lex.specs.Pieces.{Bytes, Each, First, Blank, Letter, Digit, Quote, Slash, Other, first, Begins, Cut, IsPiece, IsMark, IsAfterQuote, IsAfterSlash, IsIn, mark, is_in_string}
use Rattle.sd_lex.specs.Tokens as d
use Rattle.sd_lex.specs.Tokens.{Tokens, Refused, IsRefusal, token_at}
use Rattle.sd_lex.specs.Tables.{marks}
use Rattle.sd_lex.proofs.Cuts.{true_false, each_mid}

-- ---- one piece for a text

-- no entry has this text
abbrev fresh : Bytes → List (Bytes × Bool) → Bool
fresh w [] = true
fresh w (m ∷ ms) = not (bytes_eq m.0 w) && fresh w ms

abbrev distinct : List (Bytes × Bool) → Bool
distinct [] = true
distinct (m ∷ ms) = fresh m.0 ms && distinct ms

marks_distinct : distinct marks ≡ true
unfolding marks
marks_distinct = refl

fresh_apart : (w t : Bytes) (s : Bool) (ms : List (Bytes × Bool)) → fresh w ms ≡ true → IsIn ms t s → w ≡ t → ⊥
unfolding IsIn
fresh_apart w t s [] f i e = i
fresh_apart w t s (m ∷ ms) f i e =
    let x = and_parts (not (bytes_eq m.0 w)) (fresh w ms) f in
    elim i [ inl y ↦ true_false ((bytes_eq-Decides m.0 w).1 (y.0 ∙ sym e)) (not-true (bytes_eq m.0 w) x.0) | inr y ↦ fresh_apart w t s ms x.1 y e ]

one_flag : (t : Bytes) (r s : Bool) (ms : List (Bytes × Bool)) → distinct ms ≡ true → IsIn ms t r → IsIn ms t s → r ≡ s
unfolding IsIn
one_flag t r s [] h i j = absurd i
one_flag t r s (m ∷ ms) h i j =
    let x = and_parts (fresh m.0 ms) (distinct ms) h in
    elim i [
      | inl y ↦ elim j [ inl z ↦ sym y.1 ∙ z.1 | inr z ↦ absurd (fresh_apart m.0 t s ms x.0 z y.0) ]
      | inr y ↦ elim j [ inl z ↦ absurd (fresh_apart m.0 t r ms x.0 y z.0) | inr z ↦ one_flag t r s ms x.1 y z ]
    ]

one_mark : (text : Bytes) (p q : Piece) → IsMark text p → IsMark text q → p ≡ q
one_mark text p q i j = elim i [
  | inl x ↦ elim j [ inl y ↦ x.2 ∙ ap (mark text) (one_flag text x.0 y.0 marks marks_distinct x.1 y.1) ∙ sym y.2 | inr y ↦ absurd (y.1 x.0 x.1) ]
  | inr x ↦ elim j [ inl y ↦ absurd (x.1 y.0 y.1) | inr y ↦ x.2 ∙ sym y.2 ]
]

one_quote : (more : Bytes) (p q : Piece) → IsAfterQuote more p → IsAfterQuote more q → p ≡ q
one_quote more p q i j = elim i [
  | inl x ↦ elim j [
    | inl y ↦ x.3 ∙ ap (λ b. Whole (Text b)) (append_cancel_right x.0 y.0 (34 ∷ []) (sym x.1 ∙ y.1)) ∙ sym y.3
    | inr y ↦ absurd (true_false (each_mid is_in_string x.0 34 [] (subst (Each is_in_string) x.1 y.0)) refl)
  ]
  | inr x ↦ elim j [
    | inl y ↦ absurd (true_false (each_mid is_in_string y.0 34 [] (subst (Each is_in_string) y.1 x.0)) refl)
    | inr y ↦ x.1 ∙ sym y.1
  ]
]

one_slash : (more : Bytes) (p q : Piece) → IsAfterSlash more p → IsAfterSlash more q → p ≡ q
one_slash [] p q i j = i ∙ sym j
one_slash (b ∷ body) p q i j = elim i [
  | inl x ↦ elim j [ inl y ↦ x.2 ∙ sym y.2 | inr y ↦ absurd (let z = x.0 in let w = y.0 in omega arith) ]
  | inr x ↦ elim j [
    | inl y ↦ absurd (let z = x.0 in let w = y.0 in omega arith)
    | inr y ↦ elim x.1 [
      | inl a ↦ elim y.1 [ inl b ↦ a.1 ∙ sym b.1 | inr b ↦ absurd (let z = sym a.0 ∙ b.0 in cc) ]
      | inr a ↦ elim y.1 [ inl b ↦ absurd (let z = sym a.0 ∙ b.0 in cc) | inr b ↦ a.1 ∙ sym b.1 ]
    ]
  ]
]

one_begins : (f : First) (b : ℕ) (more : Bytes) (p q : Piece) → Begins f b more p → Begins f b more q → p ≡ q
one_begins Blank b more p q i j = i.1 ∙ sym j.1
one_begins Letter b more p q i j = i.1 ∙ sym j.1
one_begins Digit b more p q i j = i.1 ∙ sym j.1
one_begins Quote b more p q i j = one_quote more p q i j
one_begins Slash b more p q i j = one_slash more p q i j
one_begins Other b more p q i j = one_mark (b ∷ more) p q i j

one_piece : (text : Bytes) (p q : Piece) → IsPiece text p → IsPiece text q → p ≡ q
one_piece [] p q i j = absurd i
one_piece (b ∷ more) p q i j = one_begins (first b) b more p q i j

-- ---- one cut

data Apart (t r u s : Bytes) : Type 0 where
  equal : t ≡ u → r ≡ s → Apart t r u s
  longer : (b : ℕ) (extra : Bytes) → u ≡ t ++ b ∷ extra → r ≡ (b ∷ extra) ++ s → Apart t r u s
  shorter : (b : ℕ) (extra : Bytes) → t ≡ u ++ b ∷ extra → s ≡ (b ∷ extra) ++ r → Apart t r u s

push : (a b : ℕ) (t r u s : Bytes) → a ≡ b → Apart t r u s → Apart (a ∷ t) r (b ∷ u) s
push a b t r u s e (equal f g) = equal (cc) g
push a b t r u s e (longer c extra f g) = longer c extra (cc) g
push a b t r u s e (shorter c extra f g) = shorter c extra (cc) g

apart : (t r u s : Bytes) → t ++ r ≡ u ++ s → Apart t r u s
apart [] r [] s e = equal refl e
apart [] r (b ∷ u) s e = longer b u refl e
apart (a ∷ t) r [] s e = shorter a t refl (sym e)
apart (a ∷ t) r (b ∷ u) s e = push a b t r u s (cc) (apart t r u s (cc))

record Same (t r u s : Bytes) (p q : Piece) : Type 0 where
  text : t ≡ u
  rest : r ≡ s
  piece : p ≡ q

one_cut : (t r u s : Bytes) (p q : Piece) → Cut t r p → Cut u s q → t ++ r ≡ u ++ s → Same t r u s p q
one_cut t r u s p q x y e = go (apart t r u s e)
  where
    go : Apart t r u s → Same t r u s p q
    go (equal f g) = record { text = f; rest = g; piece = one_piece u p q (subst (λ t. IsPiece t p) f x.piece) y.piece }
    go (longer b extra f g) = absurd (x.longest b extra s q g (subst (λ u. IsPiece u q) f y.piece))
    go (shorter b extra f g) = absurd (y.longest b extra r p g (subst (λ t. IsPiece t p) f x.piece))

cut_some : (r : Bytes) (p : Piece) → Cut [] r p → ⊥
cut_some r p c = c.piece

nothing : (t r : Bytes) (p : Piece) → Cut t r p → [] ≡ t ++ r → ⊥
nothing [] r p c e = cut_some r p c
nothing (b ∷ t) r p c e = cc

-- ---- one answer

no_refusal : (at : ℕ) (p q : Piece) (e : LexError) → p ≡ q → IsRefusal at p e → (q ≡ Gap) ⊎ ((k : TokenKind) × (q ≡ Whole k)) → ⊥
no_refusal at p q e same r (inl g) = subst (λ p. IsRefusal at p e) (same ∙ g) r
no_refusal at p q e same r (inr k) = subst (λ p. IsRefusal at p e) (same ∙ k.1) r

-- A text that is cut into tokens isn't refused.
pub not_both : {at : ℕ} {whole : Bytes} {ts : List Token} {e : LexError} → Tokens at whole ts → Refused at whole e → ⊥
not_both d.ended (d.here {text = t} {rest = r} {p = p} c split i) = nothing t r p c split
not_both d.ended (d.gap_later {text = t} {rest = r} c split i) = nothing t r Gap c split
not_both d.ended (d.token_later {text = t} {rest = r} {kind = k} c split i) = nothing t r (Whole k) c split
not_both {at} (d.gap {text = t} {rest = r} c split more) (d.here {text = u} {rest = s} {p = p} {e = e} b other i) =
    let w = one_cut t r u s Gap p c b (sym split ∙ other) in no_refusal at p Gap e (sym w.piece) i (inl refl)
not_both {at} {e = e} (d.gap {text = t} {rest = r} c split more) (d.gap_later {text = u} {rest = s} b other i) =
    let w = one_cut t r u s Gap Gap c b (sym split ∙ other) in not_both more (subst (λ u. Refused (at + length u) r e) (sym w.text) (subst (λ s. Refused (at + length u) s e) (sym w.rest) i))
not_both (d.gap {text = t} {rest = r} c split more) (d.token_later {text = u} {rest = s} {kind = k} b other i) =
    let w = one_cut t r u s Gap (Whole k) c b (sym split ∙ other) in absurd (let z = w.piece in cc)
not_both {at} (d.token {text = t} {rest = r} {kind = k} c split more) (d.here {text = u} {rest = s} {p = p} {e = e} b other i) =
    let w = one_cut t r u s (Whole k) p c b (sym split ∙ other) in no_refusal at p (Whole k) e (sym w.piece) i (inr (k, refl))
not_both (d.token {text = t} {rest = r} {kind = k} c split more) (d.gap_later {text = u} {rest = s} b other i) =
    let w = one_cut t r u s (Whole k) Gap c b (sym split ∙ other) in absurd (let z = w.piece in cc)
not_both {at} {e = e} (d.token {text = t} {rest = r} {kind = k} c split more) (d.token_later {text = u} {rest = s} {kind = l} b other i) =
    let w = one_cut t r u s (Whole k) (Whole l) c b (sym split ∙ other) in not_both more (subst (λ u. Refused (at + length u) r e) (sym w.text) (subst (λ s. Refused (at + length u) s e) (sym w.rest) i))

-- ---- one list of tokens, and one refusal

-- A text that is cut into tokens is cut into these alone.
pub one_list : {at : ℕ} {whole : Bytes} {ts us : List Token} → Tokens at whole ts → Tokens at whole us → ts ≡ us
one_list d.ended d.ended = refl
one_list d.ended (d.gap {text = t} {rest = r} c split i) = absurd (nothing t r Gap c split)
one_list d.ended (d.token {text = t} {rest = r} {kind = k} c split i) = absurd (nothing t r (Whole k) c split)
one_list (d.gap {text = t} {rest = r} c split i) d.ended = absurd (nothing t r Gap c split)
one_list (d.token {text = t} {rest = r} {kind = k} c split i) d.ended = absurd (nothing t r (Whole k) c split)
one_list {at} {us = us} (d.gap {text = t} {rest = r} c split more) (d.gap {text = u} {rest = s} b other i) =
    let w = one_cut t r u s Gap Gap c b (sym split ∙ other) in one_list more (subst (λ u. Tokens (at + length u) r us) (sym w.text) (subst (λ s. Tokens (at + length u) s us) (sym w.rest) i))
one_list (d.gap {text = t} {rest = r} c split more) (d.token {text = u} {rest = s} {kind = k} b other i) =
    let w = one_cut t r u s Gap (Whole k) c b (sym split ∙ other) in absurd (let z = w.piece in cc)
one_list (d.token {text = t} {rest = r} {kind = k} c split more) (d.gap {text = u} {rest = s} b other i) =
    let w = one_cut t r u s (Whole k) Gap c b (sym split ∙ other) in absurd (let z = w.piece in cc)
one_list {at} (d.token {text = t} {rest = r} {kind = k} c split more) (d.token {text = u} {rest = s} {ts = us} {kind = l} b other i) =
    let w = one_cut t r u s (Whole k) (Whole l) c b (sym split ∙ other) in
    let rest = one_list more (subst (λ u. Tokens (at + length u) r us) (sym w.text) (subst (λ s. Tokens (at + length u) s us) (sym w.rest) i)) in
    let kind : k ≡ l = let z = w.piece in cc in
    λ i. token_at at (kind i) ∷ rest i

same_refusal : (at : ℕ) (p : Piece) (e f : LexError) → IsRefusal at p e → IsRefusal at p f → e ≡ f
same_refusal at Wide e f i j = i ∙ sym j
same_refusal at (Unsupported w) e f i j = i ∙ sym j
same_refusal at BadByte e f i j = i ∙ sym j
same_refusal at OpenComment e f i j = i ∙ sym j
same_refusal at OpenString e f i j = i ∙ sym j
same_refusal at _ e f i j = absurd i

-- A text that is refused is refused so alone.
pub one_refusal : {at : ℕ} {whole : Bytes} {e f : LexError} → Refused at whole e → Refused at whole f → e ≡ f
one_refusal {at} {e = e} {f = f} (d.here {text = t} {rest = r} {p = p} c split i) (d.here {text = u} {rest = s} {p = q} b other j) =
    let w = one_cut t r u s p q c b (sym split ∙ other) in same_refusal at q e f (subst (λ p. IsRefusal at p e) w.piece i) j
one_refusal {at} {e = e} (d.here {text = t} {rest = r} {p = p} c split i) (d.gap_later {text = u} {rest = s} b other j) =
    let w = one_cut t r u s p Gap c b (sym split ∙ other) in absurd (no_refusal at p Gap e w.piece i (inl refl))
one_refusal {at} {e = e} (d.here {text = t} {rest = r} {p = p} c split i) (d.token_later {text = u} {rest = s} {kind = k} b other j) =
    let w = one_cut t r u s p (Whole k) c b (sym split ∙ other) in absurd (no_refusal at p (Whole k) e w.piece i (inr (k, refl)))
one_refusal {at} {f = f} (d.gap_later {text = u} {rest = s} b other j) (d.here {text = t} {rest = r} {p = p} c split i) =
    let w = one_cut t r u s p Gap c b (sym split ∙ other) in absurd (no_refusal at p Gap f w.piece i (inl refl))
one_refusal {at} {f = f} (d.token_later {text = u} {rest = s} {kind = k} b other j) (d.here {text = t} {rest = r} {p = p} c split i) =
    let w = one_cut t r u s p (Whole k) c b (sym split ∙ other) in absurd (no_refusal at p (Whole k) f w.piece i (inr (k, refl)))
one_refusal {at} {f = f} (d.gap_later {text = t} {rest = r} c split i) (d.gap_later {text = u} {rest = s} b other j) =
    let w = one_cut t r u s Gap Gap c b (sym split ∙ other) in one_refusal i (subst (λ u. Refused (at + length u) r f) (sym w.text) (subst (λ s. Refused (at + length u) s f) (sym w.rest) j))
one_refusal (d.gap_later {text = t} {rest = r} c split i) (d.token_later {text = u} {rest = s} {kind = k} b other j) =
    let w = one_cut t r u s Gap (Whole k) c b (sym split ∙ other) in absurd (let z = w.piece in cc)
one_refusal (d.token_later {text = t} {rest = r} {kind = k} c split i) (d.gap_later {text = u} {rest = s} b other j) =
    let w = one_cut t r u s (Whole k) Gap c b (sym split ∙ other) in absurd (let z = w.piece in cc)
one_refusal {at} {f = f} (d.token_later {text = t} {rest = r} {kind = k} c split i) (d.token_later {text = u} {rest = s} {kind = l} b other j) =
    let w = one_cut t r u s (Whole k) (Whole l) c b (sym split ∙ other) in one_refusal i (subst (λ u. Refused (at + length u) r f) (sym w.text) (subst (λ s. Refused (at + length u) s f) (sym w.rest) j))
