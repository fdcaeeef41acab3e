-- The table's words and its entries: each tells the other.
use Rattle.std.proofs.Common.{◌≡◌, ◌≢◌, ℕ, suc, ◌+◌, ◌-◌, ◌*◌, ◌/◌, ◌%◌, ◌^◌, ◌<◌, ◌≤◌, ◌==◌, Bool, true, false, List, [], ◌∷◌, ◌++◌, length, get_or, set, refl, sym, ap, ◌∙◌, arith, bit_and, nat_lt, w64}
use Rattle.std.specs.Prelude.{replicate}
use Rattle.std.specs.Int.{bit_at, bit_not}
use Rattle.std.proofs.lemmas.List.{get_or-set_same, get_or-set_other, get_or-replicate, get_or_past, get_or_append_left, length-replicate, length-set, length-append}
use Rattle.std.proofs.lemmas.List.FromFn.{length-map-range_with_len, get_or-map-range_with_len}
use Rattle.std.proofs.lemmas.Nat.{and_le_l}
use Rattle.std.proofs.lemmas.Nat.Bits.{bit_at_clear_same, bit_at_clear_other, bit_at_ones, bit_at_ones_above, same_from_bits_below}
use Rattle.std.proofs.Math.Seq.{get_or-append_seam}
use Rattle.std.proofs.Math.Pow.{pow-lt, ones_lt}
use borrow.Author.Tests.{eqb-true, eqb-false, ltb-true, ltb-false}
use Rattle.sd_cand.specs.Words.{word_of, words_of, live_of}
use Rattle.sd_cand.proofs.BitLemmas.{bit, bit_at-word_of, word_of-lt}

-- lists that agree at each place are one
same_from_places : {A : Type 0} (xs ys : List A) (d : A) → length xs ≡ length ys → ((i : ℕ) → i < length xs → get_or xs i d ≡ get_or ys i d) → xs ≡ ys
same_from_places [] [] d e h = refl
same_from_places [] (y ∷ ys) d e h = absurd (omega arith)
same_from_places (x ∷ xs) [] d e h = absurd (omega arith)
same_from_places (x ∷ xs) (y ∷ ys) d e h =
    let first : x ≡ y = h 0 (omega arith)
    in let rest : xs ≡ ys = same_from_places xs ys d (omega arith) (λ i k. h (suc i) (omega arith))
    in cc

-- ---- words and entries by place

pub length-words_of : (live : List Bool) → length (words_of live) ≡ (length live + 63) / 64
unfolding words_of
length-words_of live = length-map-range_with_len (word_of live) 0 ((length live + 63) / 64)

pub words_of-at : (live : List Bool) (i : ℕ) → i < (length live + 63) / 64 → get_or (words_of live) i 0 ≡ word_of live i
unfolding words_of
words_of-at live i h = get_or-map-range_with_len (word_of live) 0 ((length live + 63) / 64) i i 0 h (omega arith)

pub length-live_of : (count : ℕ) (words : List ℕ) → length (live_of count words) ≡ count
unfolding live_of
length-live_of count words = length-map-range_with_len (λ c. bit_at (get_or words (c / 64) 0) (c % 64) == 1) 0 count

pub live_of-at : (count : ℕ) (words : List ℕ) (c : ℕ) → c < count → get_or (live_of count words) c false ≡ (bit_at (get_or words (c / 64) 0) (c % 64) == 1)
unfolding live_of
live_of-at count words c h = get_or-map-range_with_len (λ c. bit_at (get_or words (c / 64) 0) (c % 64) == 1) 0 count c c false h (omega arith)

test_of_bit : (b : Bool) → (bit b == 1) ≡ b
test_of_bit true = refl
test_of_bit false = refl

-- the words tell the entries
pub live_of-words_of : (live : List Bool) → live_of (length live) (words_of live) ≡ live
live_of-words_of live =
    same_from_places (live_of (length live) (words_of live)) live false (length-live_of (length live) (words_of live)) (λ c h.
    let within : c < length live = omega (arith, length-live_of (length live) (words_of live), h)
    in let place : 64 * (c / 64) + c % 64 ≡ c = omega arith
    in live_of-at (length live) (words_of live) c within
    ∙ ap (λ n. bit_at n (c % 64) == 1) (words_of-at live (c / 64) (omega arith))
    ∙ ap (λ n. n == 1) (bit_at-word_of live (c / 64) (c % 64) (omega arith))
    ∙ test_of_bit (get_or live (64 * (c / 64) + c % 64) false)
    ∙ ap (λ i. get_or live i false) place)

-- a table is well made where its words are those of a list of entries
pub live_is : (live : List Bool) (count : ℕ) (words : List ℕ) → length live ≡ count → words ≡ words_of live → live_of count words ≡ live
live_is live count words n e =
    ap (λ k. live_of k words) (sym n) ∙ ap (live_of (length live)) e ∙ live_of-words_of live

pub words_are : (live : List Bool) (count : ℕ) (words : List ℕ) → length live ≡ count → words ≡ words_of live → words ≡ words_of (live_of count words)
words_are live count words n e = e ∙ ap words_of (sym (live_is live count words n e))

-- ---- one entry less

-- the number without its bit k, as code computes it
abbrev pub cleared : ℕ → ℕ → ℕ
cleared n k = bit_and n (bit_not w64 (1 * 2 ^ k % 2 ^ 64))

module _ (live : List Bool) (c : ℕ) (within : c < length live) where
  word-here : word_of (set live c false) (c / 64) ≡ cleared (word_of live (c / 64)) (c % 64)
  word-here =
      same_from_bits_below 64 _ _ (word_of-lt (set live c false) (c / 64)) (omega (arith, and_le_l (word_of live (c / 64)) (bit_not w64 (1 * 2 ^ (c % 64) % 2 ^ 64)), word_of-lt live (c / 64)))
      (λ j h. bits j h (j == c % 64) refl)
    where
      bits : (j : ℕ) → j < 64 → (b : Bool) → (j == c % 64) ≡ b → bit_at (word_of (set live c false) (c / 64)) j ≡ bit_at (cleared (word_of live (c / 64)) (c % 64)) j
      bits j h true e =
          let here : j ≡ c % 64 = eqb-true j (c % 64) e
          in let place : 64 * (c / 64) + j ≡ c = omega arith
          in let small : c % 64 < 64 = omega arith
          in bit_at-word_of (set live c false) (c / 64) j h
          ∙ ap (λ i. bit (get_or (set live c false) i false)) place
          ∙ ap bit (get_or-set_same live c false false within)
          ∙ sym (ap (bit_at (cleared (word_of live (c / 64)) (c % 64))) here ∙ bit_at_clear_same w64 (word_of live (c / 64)) (c % 64) small)
      bits j h false e =
          let there : j ≢ c % 64 = eqb-false j (c % 64) e
          in let small : c % 64 < 64 = omega arith
          in bit_at-word_of (set live c false) (c / 64) j h
          ∙ ap bit (get_or-set_other live c (64 * (c / 64) + j) false false (λ s. there (omega arith)))
          ∙ sym (bit_at-word_of live (c / 64) j h)
          ∙ sym (bit_at_clear_other w64 (word_of live (c / 64)) (c % 64) small j h there)

  word-there : (i : ℕ) → i ≢ c / 64 → word_of (set live c false) i ≡ word_of live i
  word-there i n =
      same_from_bits_below 64 _ _ (word_of-lt (set live c false) i) (word_of-lt live i) (λ j h.
      bit_at-word_of (set live c false) i j h
      ∙ ap bit (get_or-set_other live c (64 * i + j) false false (λ s. n (omega arith)))
      ∙ sym (bit_at-word_of live i j h))

  pub words_of-set : words_of (set live c false) ≡ set (words_of live) (c / 64) (cleared (get_or (words_of live) (c / 64) 0) (c % 64))
  words_of-set =
      same_from_places _ _ 0
      (length-words_of (set live c false) ∙ ap (λ n. (n + 63) / 64) (length-set live c false) ∙ sym (length-words_of live) ∙ sym (length-set (words_of live) (c / 64) (cleared (get_or (words_of live) (c / 64) 0) (c % 64))))
      (λ i h. at i (omega (arith, length-words_of (set live c false), length-set live c false, h)) (i == c / 64) refl)
    where
      at : (i : ℕ) → i < (length live + 63) / 64 → (b : Bool) → (i == c / 64) ≡ b → get_or (words_of (set live c false)) i 0 ≡ get_or (set (words_of live) (c / 64) (cleared (get_or (words_of live) (c / 64) 0) (c % 64))) i 0
      at i h true e =
          let here : i ≡ c / 64 = eqb-true i (c / 64) e
          in let h' : c / 64 < (length live + 63) / 64 = omega arith
          in let also : c / 64 < (length (set live c false) + 63) / 64 = omega (arith, length-set live c false)
          in let there : c / 64 < length (words_of live) = omega (arith, length-words_of live)
          in ap (λ i. get_or (words_of (set live c false)) i 0) here
          ∙ words_of-at (set live c false) (c / 64) also
          ∙ word-here
          ∙ ap (λ n. cleared n (c % 64)) (sym (words_of-at live (c / 64) h'))
          ∙ sym (get_or-set_same (words_of live) (c / 64) (cleared (get_or (words_of live) (c / 64) 0) (c % 64)) 0 there)
          ∙ ap (λ i. get_or (set (words_of live) (c / 64) (cleared (get_or (words_of live) (c / 64) 0) (c % 64))) i 0) (sym here)
      at i h false e =
          let other : i ≢ c / 64 = eqb-false i (c / 64) e
          in let also : i < (length (set live c false) + 63) / 64 = omega (arith, length-set live c false)
          in words_of-at (set live c false) i also ∙ word-there i other ∙ sym (words_of-at live i h)
          ∙ sym (get_or-set_other (words_of live) (c / 64) i (cleared (get_or (words_of live) (c / 64) 0) (c % 64)) 0 other)

-- ---- all entries live

full-word : (n i : ℕ) → i < n / 64 → word_of (replicate n true) i ≡ 2 ^ 64 - 1
full-word n i h =
    same_from_bits_below 64 _ _ (word_of-lt (replicate n true) i) (ones_lt 64) (λ j k.
    bit_at-word_of (replicate n true) i j k ∙ ap bit (get_or-replicate n (64 * i + j) true false (omega arith)) ∙ sym (bit_at_ones 64 j k))

last-word : (n : ℕ) → word_of (replicate n true) (n / 64) ≡ 2 ^ (n % 64) - 1
last-word n =
    same_from_bits_below 64 _ _ (word_of-lt (replicate n true) (n / 64)) (omega (arith, ones_lt (n % 64), pow-lt {i = n % 64} {j = 64} (omega arith)))
    (λ j k. bits j k (nat_lt j (n % 64)) refl)
  where
    bits : (j : ℕ) → j < 64 → (b : Bool) → nat_lt j (n % 64) ≡ b → bit_at (word_of (replicate n true) (n / 64)) j ≡ bit_at (2 ^ (n % 64) - 1) j
    bits j k true e =
        let below : j < n % 64 = ltb-true j (n % 64) e
        in bit_at-word_of (replicate n true) (n / 64) j k ∙ ap bit (get_or-replicate n (64 * (n / 64) + j) true false (omega arith)) ∙ sym (bit_at_ones (n % 64) j below)
    bits j k false e =
        let above : n % 64 ≤ j = ltb-false j (n % 64) e
        in bit_at-word_of (replicate n true) (n / 64) j k ∙ ap bit (get_or_past (replicate n true) (64 * (n / 64) + j) false (omega (arith, length-replicate n true))) ∙ sym (bit_at_ones_above (n % 64) j above)

pub words_of-even : (n : ℕ) → n % 64 ≡ 0 → replicate (n / 64) (2 ^ 64 - 1) ≡ words_of (replicate n true)
words_of-even n e =
    same_from_places _ _ 0 (length-replicate (n / 64) (2 ^ 64 - 1) ∙ sym (length-words_of (replicate n true) ∙ ap (λ k. (k + 63) / 64) (length-replicate n true) ∙ omega arith))
    (λ i h.
    let within : i < n / 64 = omega (arith, length-replicate (n / 64) (2 ^ 64 - 1), h)
    in get_or-replicate (n / 64) i (2 ^ 64 - 1) 0 within ∙ sym (words_of-at (replicate n true) i (omega (arith, length-replicate n true)) ∙ full-word n i within))

pub words_of-odd : (n : ℕ) → 0 < n % 64 → replicate (n / 64) (2 ^ 64 - 1) ++ (2 ^ (n % 64) - 1) ∷ [] ≡ words_of (replicate n true)
words_of-odd n e =
    same_from_places _ _ 0
    (length-append (replicate (n / 64) (2 ^ 64 - 1)) ((2 ^ (n % 64) - 1) ∷ []) ∙ ap (λ k. k + 1) (length-replicate (n / 64) (2 ^ 64 - 1)) ∙ sym (length-words_of (replicate n true) ∙ ap (λ k. (k + 63) / 64) (length-replicate n true) ∙ count))
    (λ i h. at i (omega (arith, length-append (replicate (n / 64) (2 ^ 64 - 1)) ((2 ^ (n % 64) - 1) ∷ []), length-replicate (n / 64) (2 ^ 64 - 1), h)) (nat_lt i (n / 64)) refl)
  where
    count : (n + 63) / 64 ≡ n / 64 + 1
    count = omega arith

    at : (i : ℕ) → i < n / 64 + 1 → (b : Bool) → nat_lt i (n / 64) ≡ b → get_or (replicate (n / 64) (2 ^ 64 - 1) ++ (2 ^ (n % 64) - 1) ∷ []) i 0 ≡ get_or (words_of (replicate n true)) i 0
    at i h true t =
        let within : i < n / 64 = ltb-true i (n / 64) t
        in get_or_append_left (replicate (n / 64) (2 ^ 64 - 1)) ((2 ^ (n % 64) - 1) ∷ []) 0 i (omega (arith, length-replicate (n / 64) (2 ^ 64 - 1)))
        ∙ get_or-replicate (n / 64) i (2 ^ 64 - 1) 0 within
        ∙ sym (words_of-at (replicate n true) i (omega (arith, length-replicate n true)) ∙ full-word n i within)
    at i h false t =
        let not_below : n / 64 ≤ i = ltb-false i (n / 64) t
        in let last : i ≡ n / 64 = omega arith
        in ap (λ i. get_or (replicate (n / 64) (2 ^ 64 - 1) ++ (2 ^ (n % 64) - 1) ∷ []) i 0) (last ∙ sym (length-replicate (n / 64) (2 ^ 64 - 1)))
        ∙ get_or-append_seam (replicate (n / 64) (2 ^ 64 - 1)) (2 ^ (n % 64) - 1) [] 0
        ∙ sym (ap (λ i. get_or (words_of (replicate n true)) i 0) last ∙ words_of-at (replicate n true) (n / 64) (omega (arith, length-replicate n true)) ∙ last-word n)

shifted : (k : ℕ) → k < 64 → 1 * 2 ^ k % 2 ^ 64 ≡ 2 ^ k
shifted k h = let small : 2 ^ k < 2 ^ 64 = pow-lt {i = k} {j = 64} h in omega arith

pub full-even : (n : ℕ) (words : List ℕ) → words ≡ replicate (n / 64) (2 ^ 64 - 1) → n % 64 ≤ 0 → words ≡ words_of (replicate n true)
full-even n words e h = e ∙ words_of-even n (omega arith)

pub full-odd : (n : ℕ) (whole words : List ℕ) → whole ≡ replicate (n / 64) (2 ^ 64 - 1) → words ≡ whole ++ (1 * 2 ^ (n % 64) % 2 ^ 64 - 1) ∷ [] → 0 < n % 64 → words ≡ words_of (replicate n true)
full-odd n whole words e f h =
    f ∙ ap (λ xs. xs ++ (1 * 2 ^ (n % 64) % 2 ^ 64 - 1) ∷ []) e
    ∙ ap (λ x. replicate (n / 64) (2 ^ 64 - 1) ++ (x - 1) ∷ []) (shifted (n % 64) (omega arith))
    ∙ words_of-odd n h

-- ---- what the code of a table computes

module _ (count : ℕ) (words : List ℕ) (well_made : words ≡ words_of (live_of count words)) (c : ℕ) (within : c < count) where
  pub word-within : c / 64 < length words
  word-within = omega (arith, ap length well_made, length-words_of (live_of count words), length-live_of count words)

  entries : List Bool
  entries = set (live_of count words) c false

  as_many : length entries ≡ count
  unfolding entries
  as_many = length-set (live_of count words) c false ∙ length-live_of count words

  new_words : (n : ℕ) → n ≡ get_or words (c / 64) 0 → set words (c / 64) (cleared n (c % 64)) ≡ words_of entries
  unfolding entries
  new_words n e =
      ap (λ m. set words (c / 64) (cleared m (c % 64))) e
      ∙ ap (λ ws. set ws (c / 64) (cleared (get_or ws (c / 64) 0) (c % 64))) well_made
      ∙ sym (words_of-set (live_of count words) c (omega (arith, length-live_of count words)))

  pub clear-well_made : (n : ℕ) → n ≡ get_or words (c / 64) 0 → set words (c / 64) (cleared n (c % 64)) ≡ words_of (live_of count (set words (c / 64) (cleared n (c % 64))))
  clear-well_made n e = words_are entries count (set words (c / 64) (cleared n (c % 64))) as_many (new_words n e)

  pub clear-live : (n : ℕ) → n ≡ get_or words (c / 64) 0 → live_of count (set words (c / 64) (cleared n (c % 64))) ≡ set (live_of count words) c false
  unfolding entries
  clear-live n e = live_is entries count (set words (c / 64) (cleared n (c % 64))) as_many (new_words n e)
