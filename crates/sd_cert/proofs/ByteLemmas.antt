-- Bytes that a text has, and its parts around the first of them.
use Rattle.std.proofs.Common.{◌≡◌, ℕ, ◌+◌, ◌^◌, ◌<◌, ◌==◌, Bool, true, false, List, [], ◌∷◌, ◌++◌, length, get_or, take, drop, refl, sym, ap, ◌∙◌}
use Rattle.std.proofs.lemmas.Bool.{and_parts}
use Rattle.std.specs.Prelude.{◌||◌, ◌&&◌}
use Rattle.std.specs.Char.{is_ascii_digit}
use Rattle.std.specs.Fmt.{decimal}
use Rattle.std.specs.Str.{all_ascii_digits}
use Rattle.std.proofs.lemmas.List.Folds.{list_any-append}
use Rattle.std.proofs.lemmas.Fmt.{digits_decimal}
use Rattle.std.proofs.lemmas.List.{take-append-drop, drop_more}
use borrow.Author.Tests.{eqb-true, eq-eqb}
use Rattle.sd_cert.specs.Fields.{has_byte}
use Rattle.sd_cert.proofs.FieldLemmas.{own}

-- ---- bytes that a text lacks

pub no_byte-append : (byte : ℕ) (xs ys : List ℕ) → has_byte byte xs ≡ false → has_byte byte ys ≡ false → has_byte byte (xs ++ ys) ≡ false
no_byte-append byte xs ys a b = list_any-append (λ b. b == byte) xs ys ∙ both (has_byte byte xs) (has_byte byte ys) a b
  where
    both : (p q : Bool) → p ≡ false → q ≡ false → (p || q) ≡ false
    both true q h k = h
    both false q h k = k

pub has_byte-within : (byte : ℕ) (xs ys : List ℕ) → has_byte byte (xs ++ byte ∷ ys) ≡ true
has_byte-within byte [] ys = ap (λ t. t || has_byte byte ys) (eq-eqb byte byte refl)
has_byte-within byte (x ∷ xs) ys = go (x == byte) (has_byte-within byte xs ys)
  where
    go : (t : Bool) → has_byte byte (xs ++ byte ∷ ys) ≡ true → (t || has_byte byte (xs ++ byte ∷ ys)) ≡ true
    go true h = refl
    go false h = h

no_byte-digits : (byte : ℕ) → is_ascii_digit byte ≡ false → (ds : List ℕ) → all_ascii_digits ds ≡ true → has_byte byte ds ≡ false
no_byte-digits byte other [] h = refl
no_byte-digits byte other (c ∷ cs) h = go (c == byte) refl (λ k. no_byte-digits byte other cs k) h
  where
    go : (t : Bool) → (c == byte) ≡ t → (all_ascii_digits cs ≡ true → has_byte byte cs ≡ false) → (is_ascii_digit c && all_ascii_digits cs) ≡ true → (t || has_byte byte cs) ≡ false
    go true e more k = absurd (let f = ap (λ x. is_ascii_digit x && all_ascii_digits cs) (eqb-true c byte e) in let j = ap (λ t. t && all_ascii_digits cs) other in cc)
    go false e more k = more (and_parts (is_ascii_digit c) (all_ascii_digits cs) k).1

pub no_byte-decimal : (byte : ℕ) → is_ascii_digit byte ≡ false → (n : ℕ) → n < 2 ^ 64 → has_byte byte (decimal n) ≡ false
no_byte-decimal byte other n h = no_byte-digits byte other (decimal n) (digits_decimal own n h)

-- ---- the first such byte

pub first-unique : (byte : ℕ) (xs ys us vs : List ℕ) → has_byte byte xs ≡ false → has_byte byte us ≡ false → xs ++ byte ∷ ys ≡ us ++ byte ∷ vs → (xs ≡ us) × (ys ≡ vs)
first-unique byte [] ys [] vs h k e = (refl, cc)
first-unique byte [] ys (u ∷ us) vs h k e = absurd (let f : byte ≡ u = cc in let g = eq-eqb u byte (sym f) in let j = ap (λ b. b || has_byte byte us) g in cc)
first-unique byte (x ∷ xs) ys [] vs h k e = absurd (let f : x ≡ byte = cc in let g = eq-eqb x byte f in let j = ap (λ b. b || has_byte byte xs) g in cc)
first-unique byte (x ∷ xs) ys (u ∷ us) vs h k e =
    let same : x ≡ u = cc
    in let rest = first-unique byte xs ys us vs (later x xs h) (later u us k) (let t : xs ++ byte ∷ ys ≡ us ++ byte ∷ vs = cc in t)
    in (let r = rest.0 in cc, rest.1)
  where
    later : (u : ℕ) (us : List ℕ) → has_byte byte (u ∷ us) ≡ false → has_byte byte us ≡ false
    later u us k = go (u == byte) k
      where
        go : (t : Bool) → (t || has_byte byte us) ≡ false → has_byte byte us ≡ false
        go true k = absurd (cc)
        go false k = k

pub at_byte : (byte : ℕ) (text : List ℕ) (i : ℕ) → i < length text → get_or text i 0 ≡ byte → text ≡ take i text ++ byte ∷ drop (i + 1) text
at_byte byte text i within e =
    sym (take-append-drop i text) ∙ ap (λ t. take i text ++ t) (drop_more text i 0 within) ∙ ap (λ c. take i text ++ c ∷ drop (i + 1) text) e
