-- Numbers that are parted by spaces are read as what their spelling came from.
use Rattle.std.proofs.Common.{◌≡◌, ℕ, ◌+◌, ◌^◌, ◌<◌, false, List, [], ◌∷◌, ◌++◌, length, get_or, take, refl, sym, ap, ◌∙◌, subst, arith, append_assoc}
use Rattle.std.specs.Prelude.{Option, Some, None, MatchOption}
use Rattle.std.specs.List.{AllByRecursion, flat_map}
use Rattle.std.specs.Fmt.{decimal}
use Rattle.std.proofs.lemmas.Fmt.{decimal_injective}
use Rattle.std.proofs.lemmas.List.{append-nil, take_more}
use Rattle.sd_cert.specs.Fields.{IsReadAs, has_byte, AreSmall, AreNumbers, numbers_text}
use Rattle.sd_base.proofs.Lists.{all-push, all-weaker}
use Rattle.sd_cert.proofs.ByteLemmas.{no_byte-append, no_byte-decimal, has_byte-within, first-unique}

-- ---- bytes

no_space : (n : ℕ) → n < 2 ^ 64 → has_byte 32 (decimal n) ≡ false
no_space n h = no_byte-decimal 32 refl n h

pub no_feed-decimal : (n : ℕ) → n < 2 ^ 64 → has_byte 10 (decimal n) ≡ false
no_feed-decimal n h = no_byte-decimal 10 refl n h

pub no_feed-numbers : (ns : List ℕ) → AreNumbers ns → has_byte 10 (numbers_text ns) ≡ false
no_feed-numbers [] f = absurd f
no_feed-numbers (n ∷ []) f = no_feed-decimal n f.0
no_feed-numbers (n ∷ m ∷ ns) f = no_byte-append 10 (decimal n) (32 ∷ numbers_text (m ∷ ns)) (no_feed-decimal n f.0) (no_feed-numbers (m ∷ ns) f.1)

pub small-numbers : (n : ℕ) (ns : List ℕ) → n < 2 ^ 32 → AreSmall ns → AreNumbers (n ∷ ns)
small-numbers n ns h f = (omega arith, all-weaker (λ m. m < 2 ^ 32) (λ m. m < 2 ^ 64) (λ m k. omega arith) ns f)

-- ---- one list

no_space-in : (n : ℕ) (text rest : List ℕ) → n < 2 ^ 64 → text ++ 32 ∷ rest ≡ decimal n → ⊥
no_space-in n text rest h e = absurd (let a = no_space n h in let b = has_byte-within 32 text rest in let d = ap (has_byte 32) e in cc)

pub numbers-injective : (ns ms : List ℕ) → AreNumbers ns → AreNumbers ms → numbers_text ns ≡ numbers_text ms → ns ≡ ms
numbers-injective [] ms f g e = absurd f
numbers-injective (n ∷ ns) [] f g e = absurd g
numbers-injective (n ∷ []) (m ∷ []) f g e = ap (λ k. k ∷ []) (decimal_injective n m f.0 g.0 e)
numbers-injective (n ∷ []) (m ∷ j ∷ ms) f g e = absurd (no_space-in n (decimal m) (numbers_text (j ∷ ms)) f.0 (sym e))
numbers-injective (n ∷ k ∷ ns) (m ∷ []) f g e = absurd (no_space-in m (decimal n) (numbers_text (k ∷ ns)) g.0 e)
numbers-injective (n ∷ k ∷ ns) (m ∷ j ∷ ms) f g e =
    let parts = first-unique 32 (decimal n) (numbers_text (k ∷ ns)) (decimal m) (numbers_text (j ∷ ms)) (no_space n f.0) (no_space m g.0) e
    in let first : n ≡ m = decimal_injective n m f.0 g.0 parts.0
    in let others : k ∷ ns ≡ j ∷ ms = numbers-injective (k ∷ ns) (j ∷ ms) f.1 g.1 parts.1
    in cc

-- ---- numbers in front of a text

-- numbers with a space after each
abbrev pub spaced : List ℕ → List ℕ
spaced ns = flat_map (λ n. decimal n ++ 32 ∷ []) ns

abbrev pub AreLess : List ℕ → Type 0
AreLess ns = AllByRecursion (λ n. n < 2 ^ 64) ns

numbers-push : (ns : List ℕ) (n : ℕ) → AreLess ns → n < 2 ^ 64 → AreNumbers (ns ++ n ∷ [])
numbers-push [] n f h = (h, tt)
numbers-push (m ∷ ns) n f h = (f.0, all-push (λ k. k < 2 ^ 64) ns n f.1 h)

spaced-last : (ns : List ℕ) (n : ℕ) → numbers_text (ns ++ n ∷ []) ≡ spaced ns ++ decimal n
spaced-last [] n = refl
spaced-last (m ∷ []) n =
    sym (append_assoc (decimal m) (32 ∷ []) (decimal n)) ∙ ap (λ t. t ++ decimal n) (sym (append-nil (decimal m ++ 32 ∷ [])))
spaced-last (m ∷ k ∷ ns) n =
    ap (λ t. decimal m ++ 32 ∷ t) (spaced-last (k ∷ ns) n) ∙ sym (append_assoc (decimal m) (32 ∷ []) (spaced (k ∷ ns) ++ decimal n))
    ∙ sym (append_assoc (decimal m ++ 32 ∷ []) (spaced (k ∷ ns)) (decimal n))

-- the numbers that a text spells begin with those in front of it
record Begins (before rest ns : List ℕ) : Type 0 where
  left : List ℕ
  whole : ns ≡ before ++ left
  text : rest ≡ numbers_text left
  fit : AreNumbers left

begins : (before rest ns : List ℕ) → AreLess before → AreNumbers ns → spaced before ++ rest ≡ numbers_text ns → Begins before rest ns
begins [] rest ns f g e = record { left = ns; whole = refl; text = e; fit = g }
begins (d ∷ ds) rest [] f g e = absurd g
begins (d ∷ ds) rest (n ∷ []) f g e =
    absurd (no_space-in n (decimal d) (spaced ds ++ rest) g.0 (sym (append_assoc (decimal d) (32 ∷ []) (spaced ds ++ rest)) ∙ sym (append_assoc (decimal d ++ 32 ∷ []) (spaced ds) rest) ∙ e))
begins (d ∷ ds) rest (n ∷ m ∷ ns) f g e =
    let parts = first-unique 32 (decimal d) (spaced ds ++ rest) (decimal n) (numbers_text (m ∷ ns)) (no_space d f.0) (no_space n g.0)
    (sym (append_assoc (decimal d) (32 ∷ []) (spaced ds ++ rest)) ∙ sym (append_assoc (decimal d ++ 32 ∷ []) (spaced ds) rest) ∙ e)
    in let others = begins ds rest (m ∷ ns) f.1 g.1 parts.1
    in let first : d ≡ n = decimal_injective d n f.0 g.0 parts.0
    in record {
      left = others.left;
      whole = let w = others.whole in cc;
      text = others.text;
      fit = others.fit;
    }

module _ (text rest before : List ℕ) (less : AreLess before) (whole : text ≡ spaced before ++ rest) where
  -- what stands before the first space is no number
  pub none-before_space : (front more : List ℕ) → rest ≡ front ++ 32 ∷ more → has_byte 32 front ≡ false → ((n : ℕ) → n < 2 ^ 64 → front ≡ decimal n → ⊥) → (ns : List ℕ) → AreNumbers ns → text ≡ numbers_text ns → ⊥
  none-before_space front more is plain none ns f e = go b.left b.text b.fit
    where
      b : Begins before rest ns
      b = begins before rest ns less f (sym whole ∙ e)

      go : (left : List ℕ) → rest ≡ numbers_text left → AreNumbers left → ⊥
      go [] t g = g
      go (n ∷ []) t g = no_space-in n front more g.0 (sym is ∙ t)
      go (n ∷ m ∷ ns) t g = none n g.0 (first-unique 32 front more (decimal n) (numbers_text (m ∷ ns)) plain (no_space n g.0) (sym is ∙ t)).0

  module _ (plain : has_byte 32 rest ≡ false) where
    -- what stands after the last space is no number
    pub none-at_end : ((n : ℕ) → n < 2 ^ 64 → rest ≡ decimal n → ⊥) → (ns : List ℕ) → AreNumbers ns → text ≡ numbers_text ns → ⊥
    none-at_end none ns f e = go b.left b.text b.fit
      where
        b : Begins before rest ns
        b = begins before rest ns less f (sym whole ∙ e)

        go : (left : List ℕ) → rest ≡ numbers_text left → AreNumbers left → ⊥
        go [] t g = g
        go (n ∷ []) t g = none n g.0 t
        go (n ∷ m ∷ ns) t g = absurd (let h = has_byte-within 32 (decimal n) (numbers_text (m ∷ ns)) in let k = ap (has_byte 32) t in cc)

    pub read-all : (n : ℕ) → n < 2 ^ 64 → rest ≡ decimal n → IsReadAs numbers_text AreNumbers text (Some (before ++ n ∷ []))
    read-all n h e =
        let fit : AreNumbers (before ++ n ∷ []) = numbers-push before n less h
        in let is : text ≡ numbers_text (before ++ n ∷ []) = whole ∙ ap (λ t. spaced before ++ t) e ∙ sym (spaced-last before n)
        in ((fit, is), λ ns f t. ap Some (numbers-injective (before ++ n ∷ []) ns fit f (sym is ∙ t)))

-- ---- one number more

pub numbers-more : (n : ℕ) (ns : List ℕ) (m : ℕ) → numbers_text (n ∷ (ns ++ m ∷ [])) ≡ numbers_text (n ∷ ns) ++ 32 ∷ decimal m
numbers-more n [] m = refl
numbers-more n (k ∷ ns) m = ap (λ t. decimal n ++ 32 ∷ t) (numbers-more k ns m) ∙ sym (append_assoc (decimal n) (32 ∷ numbers_text (k ∷ ns)) (32 ∷ decimal m))

pub chain-pushed : (old now next front : List ℕ) (e : ℕ) (links : List ℕ) (i : ℕ) → i < length links → get_or links i 0 < 2 ^ 32 → next ≡ now ++ (32 ∷ decimal (get_or links i 0))
    → (now ≡ old ++ (front ++ numbers_text (e ∷ take i links))) × AreSmall (take i links) → (next ≡ old ++ (front ++ numbers_text (e ∷ take (i + 1) links))) × AreSmall (take (i + 1) links)
chain-pushed old now next front e links i within small pushed so_far =
    let link = get_or links i 0 in
    let more : take (i + 1) links ≡ take i links ++ link ∷ [] = take_more links i 0 within in (
      pushed ∙ ap (λ t. t ++ 32 ∷ decimal link) so_far.0 ∙ append_assoc old (front ++ numbers_text (e ∷ take i links)) (32 ∷ decimal link)
          ∙ ap (λ t. old ++ t) (append_assoc front (numbers_text (e ∷ take i links)) (32 ∷ decimal link) ∙ ap (λ t. front ++ t) (sym (numbers-more e (take i links) link) ∙ ap (λ ns. numbers_text (e ∷ ns)) (sym more))),
      subst AreSmall (sym more) (all-push (λ k. k < 2 ^ 32) (take i links) link so_far.1 small),
    )

pub when-none : {A : Type 0} (P : Type 0) (Q : A → Type 0) (r : Option A) → MatchOption r P Q → ((x : A) → r ≡ Some x → ⊥) → P
when-none P Q None h none = h
when-none P Q (Some x) h none = absurd (none x refl)
