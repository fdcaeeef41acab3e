-- Reading a field gives what its spelling came from, and nothing else.
use Rattle.std.proofs.Common.{◌≡◌, ◌≢◌, ℕ, zero, suc, ◌^◌, ◌<◌, ◌==◌, Bool, true, false, cond, eqb, List, [], ◌∷◌, ◌++◌, length, get_or, refl, sym, ap, ◌∙◌, subst, arith, Bor}
use Rattle.std.specs.Prelude.{Option, Some, None, Result, Ok, Err, MatchOption, ◌&&◌, OnOk, MatchResult}
use Rattle.std.specs.Option.{option_copied}
use Rattle.std.specs.Result.{OkIff, result_ok, is_err}
use Rattle.std.specs.Fmt.{decimal}
use Rattle.std.specs.Str.{all_ascii_digits, IsUtf8}
use Rattle.std.specs.Char.{is_ascii_digit}
use Rattle.std.specs.List.{list_all}
use Rattle.std.proofs.lemmas.Str.{IsUtf8-from_ascii}
use Rattle.std.proofs.lemmas.Fmt.{IsAscii-from_digits, decimal_digit, decimal_nonempty, first_decimal, digits_decimal, digits_value-decimal, decimal-digits_value}
use Rattle.hex.specs.Hex.{encode_lower, decode_sized}
use Rattle.hex.proofs.HexLemmas.{decode_sized-encode_lower, decode_sized-ok, decode_sized-twice, decode_of-ok}
use Rattle.hex.specs.declared.error.FromHexError.{FromHexError}
use Rattle.std.proofs.lemmas.Slice.Eq.{slice_eq-Decides}
use Rattle.std.proofs.lemmas.Bool.Decides.{Decides-eqb}
use Rattle.std.specs.Cmp.Lexicographic.{pointwise}
use Rattle.std.specs.Str.Parse.{digits_value, ParsesUnsigned}
use Rattle.std.proofs.lemmas.Str.Parse.{IsNumeralModel, numerals_by_value, tells_all_ascii_digits, parse_digits}
use borrow.Author.Tests.{eqb-true, eq-eqb}
use Rattle.sd_cert.specs.Fields.{IsReadAs, after_front, has_leading_zero, IsDigest}

-- ---- fronts

pub after_front-append : (front rest : List ℕ) → after_front front (front ++ rest) ≡ Some rest
after_front-append [] rest = refl
after_front-append (c ∷ front) rest = rw (eq-eqb c c refl) (after_front-append front rest)

pub after_front-some : (front text rest : List ℕ) → after_front front text ≡ Some rest → text ≡ front ++ rest
after_front-some [] text rest h = cc
after_front-some (c ∷ front) [] rest h = absurd (cc)
after_front-some (c ∷ front) (b ∷ text) rest h = go (c == b) refl h (λ k. after_front-some front text rest k)
  where
    go : (t : Bool) → (c == b) ≡ t → cond t (after_front front text) None ≡ Some rest → (after_front front text ≡ Some rest → text ≡ front ++ rest) → b ∷ text ≡ c ∷ (front ++ rest)
    go true e k more =
        let same : c ≡ b = eqb-true c b e
        in let others : text ≡ front ++ rest = more k
        in cc
    go false e k more = absurd (cc)

pub after_is : (text front : List ℕ) (r : Option (Bor (List ℕ))) → MatchOption r ((rest : List ℕ) → text ≢ front ++ rest) (λ x. text ≡ front ++ x.now) → option_copied r ≡ after_front front text
after_is text front (Some x) h = sym (ap (after_front front) h ∙ after_front-append front x.now)
after_is text front None h = go (after_front front text) refl
  where
    go : (o : Option (List ℕ)) → after_front front text ≡ o → None ≡ after_front front text
    go None e = sym e
    go (Some rest) e = absurd (h rest (after_front-some front text rest e))

-- ---- numbers

list_all-digits : (ds : List ℕ) → list_all is_ascii_digit ds ≡ all_ascii_digits ds
list_all-digits [] = refl
list_all-digits (c ∷ cs) = ap (λ b. is_ascii_digit c && b) (list_all-digits cs)

pub own : IsNumeralModel (λ ds. all_ascii_digits ds ≡ true) (digits_value 10)
own = numerals_by_value _ tells_all_ascii_digits

differ : (a b : ℕ) → a ≢ b → (a == b) ≡ false
differ a b ne = test (a == b) refl
  where
    test : (t : Bool) → (a == b) ≡ t → (a == b) ≡ false
    test true e = absurd (ne (eqb-true a b e))
    test false e = e

-- a decimal spelling has no leading zero
decimal-plain : (n : ℕ) → n < 2 ^ 64 → has_leading_zero (decimal n) ≡ false
decimal-plain zero h = ap has_leading_zero (decimal_digit 0 (omega arith))
decimal-plain (suc n) h = go (decimal (suc n)) (first_decimal (suc n) (omega arith) h)
  where
    go : (ds : List ℕ) → 48 < get_or ds 0 0 → has_leading_zero ds ≡ false
    go [] k = refl
    go (c ∷ []) k = refl
    go (c ∷ d ∷ ds) k = differ c 48 (λ e. absurd (omega arith))

pub leading_zero : (text : List ℕ) → has_leading_zero text ≡ true → (n : ℕ) → n < 2 ^ 64 → text ≡ decimal n → ⊥
leading_zero text z n h e = let k = decimal-plain n h in let j = ap has_leading_zero e in cc

pub not_digits : (text : List ℕ) → list_all is_ascii_digit text ≡ false → (n : ℕ) → n < 2 ^ 64 → text ≡ decimal n → ⊥
not_digits text z n h e = let k : all_ascii_digits (decimal n) ≡ true = digits_decimal own n h in let j = ap all_ascii_digits e in let i = list_all-digits text in cc

one_digit : (ds : List ℕ) → 0 < length ds → has_leading_zero ds ≡ false → get_or ds 0 0 ≡ 48 → length ds ≡ 1
one_digit [] l z e = absurd (omega arith)
one_digit (c ∷ []) l z e = omega arith
one_digit (c ∷ d ∷ ds) l z e = absurd (let k = eq-eqb c 48 e in cc)

pub number_is : {E : Type 0} (text : List ℕ) → list_all is_ascii_digit text ≡ true → has_leading_zero text ≡ false → (r : Result ℕ E) → ParsesUnsigned 64 10 text r → IsReadAs decimal (λ n. n < 2 ^ 64) text (result_ok r)
number_is {E = E} text all z r h = go r (parse_digits own 64 text r h d)
  where
    d : all_ascii_digits text ≡ true
    d = sym (list_all-digits text) ∙ all

    go : (r : Result ℕ E) → OkIff r ((0 < length text) × (digits_value 10 text < 2 ^ 64)) (digits_value 10 text) → IsReadAs decimal (λ n. n < 2 ^ 64) text (result_ok r)
    go (Ok x) k = (
      (omega (arith, k.0.1, k.1), sym (decimal-digits_value own text d k.0.0 (one_digit text k.0.0 z) k.0.1) ∙ ap decimal (sym k.1)),
      λ n f e. ap Some (k.1 ∙ ap (digits_value 10) e ∙ digits_value-decimal own n f),
    )
    go (Err e) k = (
      tt,
      λ n f s. absurd (k (subst (λ (t : List ℕ). 0 < length t) (sym s) (decimal_nonempty n f), omega (arith, ap (digits_value 10) s ∙ digits_value-decimal own n f, f))),
    )

pub digits-utf8 : (text : List ℕ) → list_all is_ascii_digit text ≡ true → IsUtf8 text
digits-utf8 text h = IsUtf8-from_ascii text (IsAscii-from_digits text (own.to text (sym (list_all-digits text) ∙ h)))

-- ---- digests

pub digest_decodes : (text d : List ℕ) → IsDigest d → text ≡ encode_lower d → decode_sized text 32 ≡ Ok d
digest_decodes text d h e = ap (λ t. decode_sized t 32) e ∙ decode_sized-encode_lower d 32 h.size h.bytes

-- what the decoder says of its result and its output
abbrev pub Decodes : List ℕ → Result (Unit {0}) FromHexError → List ℕ → Type 0
Decodes text r out = MatchResult (decode_sized text 32) (λ bytes. (r ≡ Ok tt) × (out ≡ bytes)) (λ e. r ≡ Err e)

decoded : (text out : List ℕ) (r : Result (Unit {0}) FromHexError) → Decodes text r out → is_err r ≡ false → decode_sized text 32 ≡ Ok out
decoded text out r h e = go (decode_sized text 32) h
  where
    go : (d : Result (List ℕ) FromHexError) → MatchResult d (λ bytes. (r ≡ Ok tt) × (out ≡ bytes)) (λ e. r ≡ Err e) → d ≡ Ok out
    go (Ok bytes) k = ap Ok (sym k.1)
    go (Err x) k = absurd (let j = ap is_err k in cc)

pub digest_refused : (text out : List ℕ) (r : Result (Unit {0}) FromHexError) → Decodes text r out → is_err r ≡ true → (d : List ℕ) → IsDigest d → text ≡ encode_lower d → ⊥
digest_refused text out r h e d f s =
    let k = subst (λ (x : Result (List ℕ) FromHexError). MatchResult x (λ bytes. (r ≡ Ok tt) × (out ≡ bytes)) (λ e. r ≡ Err e)) (digest_decodes text d f s) h
    in let j = ap is_err k.0 in cc

pub digest_is : (text out spelling : List ℕ) (r : Result (Unit {0}) FromHexError) → Decodes text r out → is_err r ≡ false → spelling ≡ encode_lower out → pointwise eqb text spelling ≡ true → IsReadAs encode_lower IsDigest text (Some out)
digest_is text out spelling r h e s same =
    let ok = decoded text out r h e
    in let long = decode_sized-ok text 32 out ok
    in let parts = decode_of-ok text out (sym (decode_sized-twice text 32 long) ∙ ok)
    in (
      (record { size = omega (arith, long, parts.2); bytes = parts.3 }, (slice_eq-Decides Decides-eqb text spelling (pointwise eqb text spelling) refl).0 same ∙ s),
      λ d f t. let again = digest_decodes text d f t in cc,
    )

pub digest_differs : (text out spelling : List ℕ) (r : Result (Unit {0}) FromHexError) → Decodes text r out → is_err r ≡ false → spelling ≡ encode_lower out → pointwise eqb text spelling ≡ false → (d : List ℕ) → IsDigest d → text ≡ encode_lower d → ⊥
digest_differs text out spelling r h e s other d f t =
    let same : d ≡ out = (let a = digest_decodes text d f t in let b = decoded text out r h e in cc)
    in let yes = (slice_eq-Decides Decides-eqb text spelling (pointwise eqb text spelling) refl).1 (t ∙ ap encode_lower same ∙ sym s)
    in cc

pub when_ok : {A E P : Type 0} (r : Result A E) → OnOk r P → is_err r ≡ false → P
when_ok (Ok x) h e = h
when_ok (Err x) h e = absurd (cc)
