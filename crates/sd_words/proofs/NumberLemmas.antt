-- Words that spell numbers.
use Rattle.std.proofs.Common.{◌≡◌, ◌≢◌, ◌∙◌, ◌<◌, ◌≤◌, ◌+◌, ◌*◌, ◌^◌, ◌&&◌, ℕ, Bool, cond, true, false, not, refl, sym, ap, arith, List, [], ◌∷◌, length, get_or, Some, None, Err, inl, inr, nat_le}
use Rattle.std.specs.Prelude.{◌==◌, ◌↔◌}
use Rattle.std.specs.Char.{is_ascii_digit, digit_value}
use Rattle.std.specs.List.{list_all}
use Rattle.std.specs.Str.{all_ascii_digits}
use Rattle.std.specs.Str.Parse.{ParsesUnsigned, digits_value, digits_value_after}
use Rattle.std.specs.Fmt.{decimal}
use Rattle.clap.proofs.WalkLemmas.{both}
use Rattle.std.proofs.lemmas.Bool.Decides.{leb_tells}
use Rattle.std.proofs.lemmas.Str.{digit_value_digit}
use Rattle.std.proofs.lemmas.Str.Parse.{IsNumeralModel, numerals_by_value, tells_all_ascii_digits, parse_digits, digit_from_value}
use Rattle.std.proofs.lemmas.Fmt.{first_decimal, digits_decimal, digits_value-decimal, decimal-digits_value}
use borrow.Author.Tests.{eq-eqb, leb-true, le-leb}
use Rattle.std.proofs.lemmas.Bool.{ne_eqb}
use Rattle.sd_words.specs.Numbers.{is_numeral, number_to}

list_all-digits : (ds : List ℕ) → list_all is_ascii_digit ds ≡ all_ascii_digits ds
list_all-digits [] = refl
list_all-digits (c ∷ cs) = ap (λ b. is_ascii_digit c && b) (list_all-digits cs)

own : IsNumeralModel (λ ds. all_ascii_digits ds ≡ true) (digits_value 10)
own = numerals_by_value _ tells_all_ascii_digits

record Numeral (word : List ℕ) : Type 0 where
  some : 0 < length word
  first : get_or word 0 0 ≢ 48
  digits : all_ascii_digits word ≡ true

numeral-parts : (word : List ℕ) → is_numeral word ≡ true → Numeral word
numeral-parts [] h = absurd (cc)
numeral-parts (c ∷ cs) h =
    let parts = both (not (c == 48)) (list_all is_ascii_digit (c ∷ cs)) h in
    record {
      some = omega arith;
      first = λ e. let k = eq-eqb c 48 e in let l = parts.0 in cc;
      digits = sym (list_all-digits (c ∷ cs)) ∙ parts.1;
    }

numeral-from : (word : List ℕ) → 48 < get_or word 0 0 → all_ascii_digits word ≡ true → is_numeral word ≡ true
numeral-from [] h d = absurd (omega arith)
numeral-from (c ∷ cs) h d =
    let k = ne_eqb c 48 (λ e. omega arith) in
    let l = list_all-digits (c ∷ cs) ∙ d in
    cc

first_counts : (n : ℕ) (ds : List ℕ) → n ≤ digits_value_after 10 n ds
first_counts n [] = omega arith
first_counts n (c ∷ cs) = omega (arith, first_counts (n * 10 + digit_value c) cs)

-- a word that isn't read as 32 bits spells no number of 32 bits
pub number-unread : {E : Type 0} (most : ℕ) (word : List ℕ) → is_numeral word ≡ true → (e : E) → ParsesUnsigned 32 10 word (Err e) → most < 2 ^ 32 → None ≡ number_to most word
number-unread most word h e k fits =
    let parts = numeral-parts word h in
    elim (leb_tells (digits_value 10 word) most) [
      | inl small ↦ absurd (parse_digits own 32 word (Err e) k parts.digits (parts.some, omega (arith, small.1)))
      | inr large ↦ rw (h, large.0) refl
    ]

-- a spelled number is at least 1
pub number-range : (most n : ℕ) (word : List ℕ) → number_to most word ≡ Some n → (1 ≤ n) × (n ≤ most) × (is_numeral word ≡ true) × (n ≡ digits_value 10 word)
number-range most n word e = go (is_numeral word) (nat_le (digits_value 10 word) most) refl refl e
  where
    first : (word : List ℕ) → is_numeral word ≡ true → 1 ≤ digits_value 10 word
    first [] h = absurd (cc)
    first (c ∷ cs) h =
        let parts = numeral-parts (c ∷ cs) h in
        let more = first_counts (0 * 10 + digit_value c) cs in
        let range = digit_from_value c (own.to (c ∷ cs) parts.digits).0 in
        omega (arith, digit_value_digit c range, range.0, range.1, more, parts.first)

    go : (a b : Bool) → is_numeral word ≡ a → nat_le (digits_value 10 word) most ≡ b → cond (a && b) (Some (digits_value 10 word)) None ≡ Some n → (1 ≤ n) × (n ≤ most) × (is_numeral word ≡ true) × (n ≡ digits_value 10 word)
    go false b h k s = absurd (cc)
    go true false h k s = absurd (cc)
    go true true h k s =
        let same : digits_value 10 word ≡ n = cc in
        (omega (arith, first word h), omega (arith, leb-true _ _ k), h, sym same)

pub number-decimal : (most n : ℕ) (word : List ℕ) → most < 2 ^ 64 → number_to most word ≡ Some n ↔ (word ≡ decimal n) × (1 ≤ n) × (n ≤ most)
number-decimal most n word small = (there, back)
  where
    there : number_to most word ≡ Some n → (word ≡ decimal n) × (1 ≤ n) × (n ≤ most)
    there e =
        let r = number-range most n word e in
        let parts = numeral-parts word r.2 in
        let value : digits_value 10 word ≡ n = sym r.3 in
        let text : decimal (digits_value 10 word) ≡ word =
        decimal-digits_value own word parts.digits parts.some (λ z. absurd (parts.first z)) (omega (arith, r.1, value, small)) in
        (sym text ∙ ap decimal value, r.0, r.1)

    back : (word ≡ decimal n) × (1 ≤ n) × (n ≤ most) → number_to most word ≡ Some n
    back k =
        let fits : n < 2 ^ 64 = omega (arith, k.2, small) in
        let value : digits_value 10 word ≡ n = ap (digits_value 10) k.0 ∙ digits_value-decimal own n fits in
        let numeral : is_numeral word ≡ true = ap is_numeral k.0
        ∙ numeral-from (decimal n) (first_decimal n (omega (arith, k.1)) fits) (digits_decimal own n fits) in
        let within : nat_le (digits_value 10 word) most ≡ true = le-leb _ _ (omega (arith, value, k.2)) in
        rw (numeral, within, value) refl
