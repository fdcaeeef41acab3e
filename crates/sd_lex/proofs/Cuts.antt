-- That the code cuts at the right places.
use Rattle.std.proofs.Common.{◌≡◌, ℕ, zero, suc, ◌+◌, ◌-◌, ◌<◌, ◌≤◌, true, false, cond, [], ◌∷◌, ◌++◌, length, take, drop, refl, ap, sym, ◌∙◌, subst, arith, one-add, inl, inr, append_assoc, length-drop, drop-cons, take-suc, get_or}
use Rattle.std.specs.Prelude.{Bool}
use Rattle.std.specs.List.{prefix_len}
use Rattle.std.specs.Char.{is_ascii_digit}
use Rattle.std.proofs.lemmas.List.Sums.{prefix_len-le-length}
use Rattle.std.proofs.Math.Seq.{take-length}
use Rattle.sd_lex.specs.declared.token.Piece.{Piece}
use Rattle.sd_lex.specs.declared.token.Piece.TheVariants.{Gap, Whole, OpenString}
use Rattle.sd_lex.specs.declared.token.TokenKind.TheVariants.{Text}
use Rattle.sd_lex.specs.Pieces.{Bytes, Each, First, Blank, Letter, Digit, Quote, Slash, Other, first, Begins, BeginsAs, BeginsWith, word, number, is_name_byte, is_in_string}

pub true_false : {b : Bool} → b ≡ true → b ≡ false → ⊥
true_false {b} h k = cc

each_more : (p : ℕ → Bool) (x : ℕ) (xs : Bytes) (b : Bool) → p x ≡ b → Each p (take (prefix_len p xs) xs) → Each p (take (cond b (1 + prefix_len p xs) 0) (x ∷ xs))
each_more p x xs true e ih = rw one-add (e, ih)
each_more p x xs false e ih = tt

pub each_front : (p : ℕ → Bool) (xs : Bytes) → Each p (take (prefix_len p xs) xs)
each_front p [] = tt
each_front p (x ∷ xs) = each_more p x xs (p x) refl (each_front p xs)

stops_more : (p : ℕ → Bool) (x : ℕ) (xs : Bytes) (c : ℕ) (rest : Bytes) (b : Bool) → p x ≡ b → drop (cond b (1 + prefix_len p xs) 0) (x ∷ xs) ≡ c ∷ rest → (drop (prefix_len p xs) xs ≡ c ∷ rest → p c ≡ false) → p c ≡ false
stops_more p x xs c rest true e h ih = ih (rw one-add at h)
stops_more p x xs c rest false e h ih = let same : x ≡ c = cc in ap p (sym same) ∙ e

pub run_stops : (p : ℕ → Bool) (xs : Bytes) (c : ℕ) (rest : Bytes) → drop (prefix_len p xs) xs ≡ c ∷ rest → p c ≡ false
run_stops p [] c rest h = absurd (cc)
run_stops p (x ∷ xs) c rest h = stops_more p x xs c rest (p x) refl h (λ k. run_stops p xs c rest k)

pub each_mid : (p : ℕ → Bool) (u : Bytes) (c : ℕ) (v : Bytes) → Each p (u ++ c ∷ v) → p c ≡ true
each_mid p [] c v h = h.0
each_mid p (x ∷ u) c v h = each_mid p u c v h.1

-- a piece at the front, at any first byte
pub whole_cut : (f : First) (b : ℕ) (more : Bytes) (k : ℕ) (p : Piece) → first b ≡ f → k ≤ length more → Begins f b (take k more) p
    → ((c : ℕ) (extra after : Bytes) (q : Piece) → drop k more ≡ c ∷ extra ++ after → Begins f b (take k more ++ c ∷ extra) q → ⊥)
    → BeginsWith (b ∷ more) p (suc k)
whole_cut f b more k p e within piece longest = record {
  some = omega arith;
  within = omega arith;
  cut = record {
    piece = subst (λ f. Begins f b (take k more) p) (sym e) piece;
    longest = λ c extra after q split h. longest c extra after q split (subst (λ f. Begins f b (take k more ++ c ∷ extra) q) e h);
  };
}

word_begins : (b : ℕ) (more : Bytes) → first b ≡ Letter → BeginsWith (b ∷ more) (word (b ∷ take (prefix_len is_name_byte more) more)) (suc (prefix_len is_name_byte more))
word_begins b more e = whole_cut Letter b more (prefix_len is_name_byte more) _ e (prefix_len-le-length is_name_byte more)
    (each_front is_name_byte more, refl)
    (λ c extra after q split h. true_false (each_mid is_name_byte (take (prefix_len is_name_byte more) more) c extra h.0) (run_stops is_name_byte more c (extra ++ after) split))

number_begins : (b : ℕ) (more : Bytes) → first b ≡ Digit → BeginsWith (b ∷ more) (number (b ∷ take (prefix_len is_ascii_digit more) more)) (suc (prefix_len is_ascii_digit more))
number_begins b more e = whole_cut Digit b more (prefix_len is_ascii_digit more) _ e (prefix_len-le-length is_ascii_digit more)
    (each_front is_ascii_digit more, refl)
    (λ c extra after q split h. true_false (each_mid is_ascii_digit (take (prefix_len is_ascii_digit more) more) c extra h.0) (run_stops is_ascii_digit more c (extra ++ after) split))

pub word_cut : (text : Bytes) (l : ℕ) (p : Piece) → BeginsAs Letter text → l ≡ prefix_len is_name_byte (drop 1 text) → p ≡ word (take (1 + l) text) → BeginsWith text p (1 + l)
word_cut [] l p f e q = absurd f
word_cut (b ∷ more) l p f e q = rw (q, e, one-add) (word_begins b more f)

pub number_cut : (text : Bytes) (l : ℕ) (p : Piece) → BeginsAs Digit text → l ≡ prefix_len is_ascii_digit (drop 1 text) → p ≡ number (take (1 + l) text) → BeginsWith text p (1 + l)
number_cut [] l p f e q = absurd f
number_cut (b ∷ more) l p f e q = rw (q, e, one-add) (number_begins b more f)

digit_of : (v w x y z : Bool) → cond v Blank (cond w Letter (cond x Digit (cond y Quote (cond z Slash Other)))) ≡ Digit → x ≡ true
digit_of true w x y z e = absurd (cc)
digit_of false true x y z e = absurd (cc)
digit_of false false true y z e = refl
digit_of false false false true z e = absurd (cc)
digit_of false false false false true e = absurd (cc)
digit_of false false false false false e = absurd (cc)

digit_first : (b : ℕ) → first b ≡ Digit → is_ascii_digit b ≡ true
digit_first b e = digit_of _ _ _ _ _ e

pub tail_of : (i : ℕ) (xs : Bytes) → take (length xs - i) (drop i xs) ≡ drop i xs
tail_of i xs = let e = sym (length-drop i xs) in ap (λ n. take n (drop i xs)) e ∙ take-length (drop i xs)

pub number_digits : (text : Bytes) (l : ℕ) → BeginsAs Digit text → l ≡ prefix_len is_ascii_digit (drop 1 text) → Each is_ascii_digit (take (1 + l) text)
number_digits [] l f e = absurd f
number_digits (b ∷ more) l f e = rw (e, one-add) (digit_first b f, each_front is_ascii_digit more)

-- ---- strings

-- a byte that fails stands before the last of them only if it isn't the last
last_apart : (p : ℕ → Bool) (body u : Bytes) (q c : ℕ) (v : Bytes) → body ++ q ∷ [] ≡ u ++ c ∷ v → Each p body → p c ≡ false → (v ≡ []) × (c ≡ q)
last_apart p [] [] q c v h each fails = (cc, cc)
last_apart p [] (x ∷ []) q c v h each fails = absurd (cc)
last_apart p [] (x ∷ y ∷ u) q c v h each fails = absurd (cc)
last_apart p (y ∷ body) [] q c v h each fails = absurd (let same : y ≡ c = cc in true_false each.0 (ap p same ∙ fails))
last_apart p (y ∷ body) (x ∷ u) q c v h each fails = last_apart p body u q c v (cc) each.1 fails

string_closed : (b : ℕ) (more rest : Bytes) (k : ℕ) → first b ≡ Quote → k ≡ prefix_len is_in_string more → drop k more ≡ 34 ∷ rest → k < length more → take (suc k) more ≡ take k more ++ 34 ∷ [] → BeginsWith (b ∷ more) (Whole (Text (take k more))) (suc (suc k))
string_closed b more rest k e l d within t = whole_cut Quote b more (suc k) _ e within
    (inl (take k more, t, subst (λ k. Each is_in_string (take k more)) (sym l) (each_front is_in_string more), refl))
    (λ c extra after q split h.
    let split_in : take (suc k) more ++ c ∷ extra ≡ take k more ++ 34 ∷ c ∷ extra = rw t (append_assoc (take k more) (34 ∷ []) (c ∷ extra)) in
    elim h [
      | inl w ↦ let apart = last_apart is_in_string w.0 (take k more) 34 34 (c ∷ extra) (sym w.1 ∙ split_in) w.2 refl in absurd (let z : c ∷ extra ≡ [] = apart.0 in cc)
      | inr w ↦ true_false (each_mid is_in_string (take k more) 34 (c ∷ extra) (subst (Each is_in_string) split_in w.0)) refl
    ])

string_open : (b : ℕ) (more : Bytes) (k : ℕ) → first b ≡ Quote → k ≡ prefix_len is_in_string more → ((c : ℕ) (rest : Bytes) → drop k more ≡ c ∷ rest → c ≡ 34 → ⊥) → BeginsWith (b ∷ more) OpenString (suc k)
string_open b more k e l unclosed = whole_cut Quote b more k _ e (rw l (prefix_len-le-length is_in_string more))
    (inr (subst (λ k. Each is_in_string (take k more)) (sym l) (each_front is_in_string more), refl))
    (λ c extra after q split h.
    let stop : is_in_string c ≡ false = run_stops is_in_string more c (extra ++ after) (ap (λ k. drop k more) (sym l) ∙ split) in
    elim h [
      | inl w ↦ let apart = last_apart is_in_string w.0 (take k more) 34 c extra (sym w.1) w.2 stop in unclosed c (extra ++ after) split apart.1
      | inr w ↦ true_false (each_mid is_in_string (take k more) c extra w.0) stop
    ])

pub read_drop : (xs : Bytes) (k c : ℕ) (rest : Bytes) → drop k xs ≡ c ∷ rest → get_or xs k 0 ≡ c
read_drop [] zero c rest h = absurd (cc)
read_drop [] (suc k) c rest h = absurd (cc)
read_drop (x ∷ xs) zero c rest h = cc
read_drop (x ∷ xs) (suc k) c rest h = read_drop xs k c rest h

pub read_within : (xs : Bytes) (k : ℕ) → 0 < get_or xs k 0 → k < length xs
read_within [] zero h = absurd (omega arith)
read_within [] (suc k) h = absurd (omega arith)
read_within (x ∷ xs) zero h = omega arith
read_within (x ∷ xs) (suc k) h = let ih = read_within xs k h in omega arith

pub string_closed_cut : (text : Bytes) (l : ℕ) (body : Bytes) → BeginsAs Quote text → l ≡ prefix_len is_in_string (drop 1 text) → get_or text (1 + l) 0 ≡ 34 → body ≡ take (1 + l - 1) (drop 1 text) → BeginsWith text (Whole (Text body)) (2 + l)
string_closed_cut [] l body f e q t = absurd f
string_closed_cut (b ∷ more) l body f e q t =
    let at : get_or more l 0 ≡ 34 = rw one-add at q in
    let within : l < length more = read_within more l (omega arith) in
    let d : drop l more ≡ 34 ∷ drop (suc l) more = drop-cons more l 0 within ∙ ap (λ c. c ∷ drop (suc l) more) at in
    let u : take (suc l) more ≡ take l more ++ 34 ∷ [] = take-suc more l 0 within ∙ ap (λ c. take l more ++ c ∷ []) at in
    let n : 1 + l - 1 ≡ l = omega arith in
    let m : suc (suc l) ≡ 2 + l = omega arith in
    let is : take l more ≡ body = sym (t ∙ ap (λ n. take n more) n) in
    subst (λ n. BeginsWith (b ∷ more) (Whole (Text body)) n) m (subst (λ x. BeginsWith (b ∷ more) (Whole (Text x)) (suc (suc l))) is (string_closed b more (drop (suc l) more) l f e d within u))

pub string_open_cut : (text : Bytes) (l : ℕ) → BeginsAs Quote text → l ≡ prefix_len is_in_string (drop 1 text) → (get_or text (1 + l) 0 ≡ 34 → ⊥) → BeginsWith text OpenString (1 + l)
string_open_cut [] l f e q = absurd f
string_open_cut (b ∷ more) l f e q = rw one-add (string_open b more l f e (λ c rest h k. q (rw one-add (read_drop more l c rest h ∙ k))))
