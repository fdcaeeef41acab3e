-- A text has an answer: its tokens, or a refusal.
use Rattle.std.proofs.Common.{◌≡◌, ℕ, zero, suc, ◌+◌, ◌-◌, ◌<◌, ◌≤◌, true, false, cond, List, [], ◌∷◌, length, drop, get_or, refl, ap, sym, ◌∙◌, subst, arith, inl, inr, length-drop}
use Rattle.std.specs.Prelude.{Bool, Option, Some, None, ◌⊎◌, ◌==◌, ◌&&◌, nat_eq, nat_le}
use Rattle.std.specs.List.{prefix_len}
use Rattle.std.proofs.lemmas.Bool.Decides.{nat_tests}
use Rattle.std.proofs.lemmas.List.{drop_all}
use Rattle.sd_lex.specs.declared.token.Token.{Token}
use Rattle.sd_lex.specs.declared.token.LexError.{LexError}
use Rattle.sd_lex.specs.declared.token.Piece.{Piece}
use Rattle.sd_lex.specs.declared.token.Piece.TheVariants.{Gap, Whole, Wide, Unsupported, BadByte, OpenComment, OpenString}
use Rattle.sd_lex.specs.Tables.{marks}
use Rattle.sd_lex.specs.Pieces.{Bytes, First, Blank, Letter, Digit, Quote, Slash, Other, first, BeginsAs, BeginsWith, after_comment, first_mark, is_in_string}
use Rattle.sd_lex.specs.Tokens.{Tokens, Refused, token_at, ended}
use Rattle.sd_lex.specs.Laws.{SomeAnswer}
use Rattle.sd_lex.proofs.Cuts.{whole_cut, word_cut, number_cut, string_closed_cut, string_open_cut}
use Rattle.sd_lex.proofs.Slashes.{line_cut, comment_cut, open_cut, alone_cut}
use Rattle.sd_lex.proofs.Marks.{mark_cut, none_cut}
use Rattle.sd_lex.proofs.Steps.{gap_step, token_step, gap_refused, token_refused, refused_here}

-- the piece at the front of a text
record Front (text : Bytes) : Type 0 where
  piece : Piece
  size : ℕ
  begins : BeginsWith text piece size

front : {text : Bytes} {p : Piece} {n : ℕ} → BeginsWith text p n → Front text
front {p = p} {n = n} b = record { piece = p; size = n; begins = b }

equal_or : (a b : ℕ) → (a ≡ b) ⊎ (a ≡ b → ⊥)
equal_or a b = by_test (nat_eq a b) refl
  where
    by_test : (t : Bool) → nat_eq a b ≡ t → (a ≡ b) ⊎ (a ≡ b → ⊥)
    by_test true e = inl (grind (arith, nat_tests))
    by_test false e = inr (λ same. grind (arith, nat_tests))

-- what follows a comment is the end of its text
comment_end : (d : ℕ) (xs r : Bytes) → after_comment d xs ≡ Some r → (l : ℕ) × (l ≤ length xs) × (r ≡ drop l xs)
unfolding after_comment
comment_end d [] r e = absurd (cc)
comment_end d (a ∷ []) r e = absurd (cc)
comment_end d (a ∷ b ∷ more) r e = by_tests (a == 42 && b == 47) (d == 0) (a == 47 && b == 42) e (λ d e. comment_end d more r e) (λ e. comment_end d (b ∷ more) r e)
  where
    two_on : (l : ℕ) × (l ≤ length more) × (r ≡ drop l more) → (l : ℕ) × (l ≤ length (a ∷ b ∷ more)) × (r ≡ drop l (a ∷ b ∷ more))
    two_on w = (suc (suc w.0), let z = w.1 in omega arith, w.2)

    by_tests : (x y z : Bool) → cond x (cond y (Some more) (after_comment (d - 1) more)) (cond z (after_comment (d + 1) more) (after_comment d (b ∷ more))) ≡ Some r
        → ((d : ℕ) → after_comment d more ≡ Some r → (l : ℕ) × (l ≤ length more) × (r ≡ drop l more))
        → (after_comment d (b ∷ more) ≡ Some r → (l : ℕ) × (l ≤ length (b ∷ more)) × (r ≡ drop l (b ∷ more)))
        → (l : ℕ) × (l ≤ length (a ∷ b ∷ more)) × (r ≡ drop l (a ∷ b ∷ more))
    by_tests true true z e two one = (2, omega arith, (cc))
    by_tests true false z e two one = two_on (two (d - 1) e)
    by_tests false y true e two one = two_on (two (d + 1) e)
    by_tests false y false e two one = let w = one e in (suc w.0, let z = w.1 in omega arith, w.2)

comment_front : (text : Bytes) → BeginsAs Slash text → get_or text 1 0 ≡ 42 → Front text
comment_front text f s = by_end (after_comment 0 (drop 2 text)) refl
  where
    by_end : (o : Option Bytes) → after_comment 0 (drop 2 text) ≡ o → Front text
    by_end None e = front (open_cut text f s e)
    by_end (Some r) e = let w = comment_end 0 (drop 2 text) r e in front (comment_cut text w.0 f s w.1 (e ∙ ap Some w.2))

slash_front : (text : Bytes) → BeginsAs Slash text → Front text
slash_front text f = elim (equal_or (get_or text 1 0) 47) [
  | inl s ↦ front (line_cut text _ f s refl)
  | inr n ↦ elim (equal_or (get_or text 1 0) 42) [ inl s ↦ comment_front text f s | inr m ↦ front (alone_cut text _ f n m refl) ]
]

quote_front : (text : Bytes) → BeginsAs Quote text → Front text
quote_front text f =
    let l : ℕ = prefix_len is_in_string (drop 1 text) in
    elim (equal_or (get_or text (1 + l) 0) 34) [ inl q ↦ front (string_closed_cut text l _ f refl q refl) | inr q ↦ front (string_open_cut text l f refl q) ]

mark_front : (text : Bytes) → BeginsAs Other text → Front text
mark_front text f = by_mark (first_mark marks text) refl
  where
    by_mark : (o : Option (Bytes × Bool)) → first_mark marks text ≡ o → Front text
    by_mark None e = front (none_cut text f e)
    by_mark (Some m) e = front (mark_cut text m.0 m.1 f e)

some_front : (text : Bytes) → 0 < length text → Front text
some_front [] h = absurd (omega arith)
some_front (b ∷ more) h = by_first (first b) refl
  where
    by_first : (f : First) → first b ≡ f → Front (b ∷ more)
    by_first Blank e = front (whole_cut Blank b more 0 Gap e (omega arith) (refl, refl) (λ c extra after q split h. let z : c ∷ extra ≡ [] = h.0 in cc))
    by_first Letter e = front (word_cut (b ∷ more) _ _ e refl refl)
    by_first Digit e = front (number_cut (b ∷ more) _ _ e refl refl)
    by_first Quote e = quote_front (b ∷ more) e
    by_first Slash e = slash_front (b ∷ more) e
    by_first Other e = mark_front (b ∷ more) e

-- ---- piece after piece

abbrev Answer : ℕ → Bytes → Type 0
Answer at text = ((ts : List Token) × Tokens at text ts) ⊎ ((e : LexError) × Refused at text e)

from_place : (bytes : Bytes) (n at : ℕ) → length bytes ≤ at + n → Answer at (drop at bytes)
from_place bytes zero at room = subst (Answer at) (sym (drop_all at bytes (omega arith))) (inl ([], ended))
from_place bytes (suc n) at room = by_length (nat_le (length bytes) at) refl (λ k some. from_place bytes n (at + k) (omega arith))
  where
    by_piece : (p : Piece) (k : ℕ) → BeginsWith (drop at bytes) p k → Answer (at + k) (drop (at + k) bytes) → Answer at (drop at bytes)
    by_piece Gap k b next = elim next [ inl t ↦ inl (t.0, gap_step bytes at k t.0 b t.1) | inr r ↦ inr (r.0, gap_refused bytes at k r.0 b r.1) ]
    by_piece (Whole kind) k b next = elim next [ inl t ↦ inl (token_at at kind ∷ t.0, token_step bytes at k kind t.0 b t.1) | inr r ↦ inr (r.0, token_refused bytes at k kind r.0 b r.1) ]
    by_piece Wide k b next = inr (_, refused_here bytes at k Wide _ b refl)
    by_piece (Unsupported w) k b next = inr (_, refused_here bytes at k (Unsupported w) _ b refl)
    by_piece BadByte k b next = inr (_, refused_here bytes at k BadByte _ b refl)
    by_piece OpenComment k b next = inr (_, refused_here bytes at k OpenComment _ b refl)
    by_piece OpenString k b next = inr (_, refused_here bytes at k OpenString _ b refl)

    by_length : (t : Bool) → nat_le (length bytes) at ≡ t → ((k : ℕ) → 0 < k → Answer (at + k) (drop (at + k) bytes)) → Answer at (drop at bytes)
    by_length true e next = subst (Answer at) (sym (drop_all at bytes (grind (arith, nat_tests)))) (inl ([], ended))
    by_length false e next =
        let some : at < length bytes = grind (arith, nat_tests) in
        let w = some_front (drop at bytes) (simp length-drop (omega arith)) in
        by_piece w.piece w.size w.begins (next w.size w.begins.some)

pub some_answer : SomeAnswer
some_answer text = from_place text (length text) 0 (omega arith)
