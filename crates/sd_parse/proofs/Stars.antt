-- Where a star stands as a guard, and that no two tokens stand at one place.
use Rattle.std.proofs.Common.{◌≡◌, ℕ, suc, ◌+◌, ◌<◌, ◌≤◌, true, false, [], ◌∷◌, ◌++◌, length, length-append, drop, refl, ap, sym, ◌∙◌, subst, arith, append_assoc}
use Rattle.std.specs.Prelude.{◌&&◌}
use Rattle.std.proofs.lemmas.Bool.{and_parts}
use Rattle.sd_base.specs.declared.Place.{Place}
use Rattle.sd_lex.specs.Pieces.{Bytes, Cut}
use Rattle.sd_lex.specs.Tokens as lex
use Rattle.sd_lex.specs.declared.Token.{Token}
use Rattle.sd_parse.specs.declared.class.TokenClass.TheVariants as s
use Rattle.sd_parse.specs.TokenClasses.{class, same_class}
use Rattle.sd_parse.specs.Grammar.{Tokens}
use Rattle.sd_parse.specs.Refusals.{place_of}
use Rattle.sd_parse.specs.Answer.{guards, IsStar, star, Rising, guarded, star_at}
use Rattle.sd_parse.proofs.Texts.{same_is}
use Rattle.sd_parse.proofs.ExpressionComplete.{same_classes}
use Rattle.sd_parse.proofs.Exact.{Cuts, at_one, sooner, later, cuts}

-- ---- the tokens of a text rise

rises_sooner : (a b c : ℕ) (ts : Tokens) → a ≤ b → Rising b ts c → Rising a ts c
rises_sooner a b c [] low r = omega arith
rises_sooner a b c (t ∷ ts) low r = (let z = r.0 in omega arith, r.1)

-- a piece has a byte
some_bytes : {rest : Bytes} {p : _} (text : Bytes) → Cut text rest p → 0 < length text
some_bytes [] c = absurd c.piece
some_bytes (b ∷ text) c = omega arith

rises : {at : ℕ} {whole : Bytes} {ts : Tokens} → lex.Tokens at whole ts → Rising at ts (at + length whole)
rises lex.ended = omega arith
rises {at = at} (lex.gap {text = t} {rest = r} {whole = w} {ts = ts} c split more) =
    let size : length w ≡ length t + length r = ap length split ∙ length-append t r in
    let end : at + length t + length r ≡ at + length w = omega arith in
    subst (Rising at ts) end (rises_sooner at (at + length t) (at + length t + length r) ts (omega arith) (rises more))
rises {at = at} (lex.token {text = t} {rest = r} {whole = w} {ts = ts} c split more) =
    let size : length w ≡ length t + length r = ap length split ∙ length-append t r in
    let end : at + length t + length r ≡ at + length w = omega arith in
    (omega arith, subst (Rising (suc at) ts) end (rises_sooner (suc at) (at + length t) (at + length t + length r) ts (let z = some_bytes t c in omega arith) (rises more)))

pub all_rise : {whole : Bytes} {ts : Tokens} → lex.Tokens 0 whole ts → Rising 0 ts (length whole)
all_rise {whole = w} {ts = ts} cut = let e : 0 + length w ≡ length w = omega arith in subst (Rising 0 ts) e (rises cut)

-- after a token
rises_after : (a b : ℕ) (u : Tokens) (t : Token) (z : Tokens) → Rising a (u ++ t ∷ z) b → Rising (suc t.at.byte) z b
rises_after a b [] t z r = r.1
rises_after a b (x ∷ u) t z r = rises_after (suc x.at.byte) b u t z r.1

-- up to a token
rises_to : (a b : ℕ) (u : Tokens) (t : Token) (z : Tokens) → Rising a (u ++ t ∷ z) b → a ≤ t.at.byte
rises_to a b [] t z r = r.0
rises_to a b (x ∷ u) t z r = let low = rises_to (suc x.at.byte) b u t z r.1 in let first = r.0 in omega arith

rises_end : (a b : ℕ) (z : Tokens) → Rising a z b → a ≤ b
rises_end a b [] r = r
rises_end a b (t ∷ z) r = let low = rises_end (suc t.at.byte) b z r.1 in let first = r.0 in omega arith

-- two tokens at one place are one
one_place : (a b : ℕ) (u v : Tokens) (t s : Token) (r q : Tokens) → Rising a (u ++ t ∷ r) b → u ++ t ∷ r ≡ v ++ s ∷ q → t.at ≡ s.at → u ≡ v
one_place a b u v t s r q rise e same = go (cuts u v t s r q e)
  where
    go : Cuts u t v s → u ≡ v
    go (at_one f g) = f
    go (sooner m f) =
        let whole : u ++ t ∷ r ≡ u ++ t ∷ (m ++ s ∷ q) = e ∙ ap (λ v. v ++ s ∷ q) f ∙ append_assoc u (t ∷ m) (s ∷ q) in
        let beyond = rises_to (suc t.at.byte) b m s q (rises_after a b u t (m ++ s ∷ q) (subst (λ z. Rising a z b) whole rise)) in
        let byte : t.at.byte ≡ s.at.byte = ap (λ p. p.byte) same in
        absurd (omega arith)
    go (later m f) =
        let whole : u ++ t ∷ r ≡ v ++ s ∷ (m ++ t ∷ r) = ap (λ u. u ++ t ∷ r) f ∙ append_assoc v (s ∷ m) (t ∷ r) in
        let beyond = rises_to (suc s.at.byte) b m t r (rises_after a b v s (m ++ t ∷ r) (subst (λ z. Rising a z b) whole rise)) in
        let byte : t.at.byte ≡ s.at.byte = ap (λ p. p.byte) same in
        absurd (omega arith)

-- ---- the three tokens of a star

-- the last two tokens
last_two : (x y : Token) (u : Tokens) → (v : Tokens) × (w : Token) × (o : Token) × (x ∷ y ∷ u ≡ v ++ (w ∷ o ∷ [])) × (length v ≡ length u)
last_two x y [] = ([], x, y, refl, refl)
last_two x y (z ∷ u) = let l = last_two y z u in (x ∷ l.0, l.1, l.2, ap (λ m. x ∷ m) l.3, ap suc l.4)

pub drop_before : (v z : Tokens) → drop (length v) (v ++ z) ≡ z
drop_before [] z = refl
drop_before (x ∷ v) z = drop_before v z

from_guarded : (ts v : Tokens) (w o : Token) (end : Place) (rest : Tokens) → ts ≡ v ++ (w ∷ o ∷ rest) → guarded (w ∷ o ∷ rest) ≡ true → IsStar ts (place_of end rest)
from_guarded ts v w o end [] split e = absurd (cc)
from_guarded ts v w o end (t ∷ r) split e =
    let outer = and_parts (guards (class w) && same_class (class o) s.Open) (same_class (class t) s.Star) e in
    let inner = and_parts (guards (class w)) (same_class (class o) s.Open) outer.0 in
    star v w o t r split inner.0 (same_is (class o) s.Open inner.1) (same_is (class t) s.Star outer.1)

-- where the test says yes
pub star_yes : (ts u : Tokens) (end : Place) (rest : Tokens) → ts ≡ u ++ rest → star_at ts (length u) ≡ true → IsStar ts (place_of end rest)
unfolding star_at
star_yes ts [] end rest split e = absurd (cc)
star_yes ts (x ∷ []) end rest split e = absurd (cc)
star_yes ts (x ∷ y ∷ u) end rest split e =
    let l = last_two x y u in
    let whole : ts ≡ l.0 ++ (l.1 ∷ l.2 ∷ rest) = split ∙ ap (λ z. z ++ rest) l.3 ∙ append_assoc l.0 (l.1 ∷ l.2 ∷ []) rest in
    let here : drop (length u) ts ≡ l.1 ∷ l.2 ∷ rest = ap (λ n. drop n ts) (sym l.4) ∙ ap (drop (length l.0)) whole ∙ drop_before l.0 (l.1 ∷ l.2 ∷ rest) in
    from_guarded ts l.0 l.1 l.2 end rest whole (ap guarded (sym here) ∙ e)

-- the test sees each star
sees_star : (ts v : Tokens) (w o t : Token) (r : Tokens) → ts ≡ v ++ (w ∷ o ∷ t ∷ r) → guards (class w) ≡ true → class o ≡ s.Open → class t ≡ s.Star → star_at ts (suc (suc (length v))) ≡ true
unfolding star_at
sees_star ts v w o t r split g i j =
    let here : drop (length v) ts ≡ w ∷ o ∷ t ∷ r = ap (drop (length v)) split ∙ drop_before v (w ∷ o ∷ t ∷ r) in
    ap guarded here ∙ rw (g, same_classes (class o) s.Open i, same_classes (class t) s.Star j) refl

-- no star stands at the end
pub none_at_end : (ts : Tokens) (end : Place) → Rising 0 ts end.byte → IsStar ts end → ⊥
none_at_end ts end rise h = by_place end refl h
  where
    by_place : (p : Place) → p ≡ end → IsStar ts p → ⊥
    by_place p f (star v w o t r whole g i j) =
        let beyond = rises_end (suc t.at.byte) end.byte r (rises_after 0 end.byte (v ++ (w ∷ o ∷ [])) t r (subst (λ z. Rising 0 z end.byte) (whole ∙ sym (append_assoc v (w ∷ o ∷ []) (t ∷ r))) rise)) in
        let byte : t.at.byte ≡ end.byte = ap (λ p. p.byte) f in
        omega arith

-- where the test says no
pub star_no : (ts u : Tokens) (end : Place) (rest : Tokens) → ts ≡ u ++ rest → Rising 0 ts end.byte → star_at ts (length u) ≡ false → IsStar ts (place_of end rest) → ⊥
star_no ts u end [] split rise e h = none_at_end ts end rise h
star_no ts u end (x ∷ q) split rise e h = by_place x.at refl h
  where
    by_place : (p : Place) → p ≡ x.at → IsStar ts p → ⊥
    by_place p f (star v w o t r whole g i j) =
        let cut : u ++ x ∷ q ≡ (v ++ (w ∷ o ∷ [])) ++ t ∷ r = sym split ∙ whole ∙ sym (append_assoc v (w ∷ o ∷ []) (t ∷ r)) in
        let same : u ≡ v ++ (w ∷ o ∷ []) = one_place 0 end.byte u (v ++ (w ∷ o ∷ [])) x t q r (subst (λ z. Rising 0 z end.byte) split rise) cut (sym f) in
        let size : length u ≡ suc (suc (length v)) = let y = ap length same in let z = length-append v (w ∷ o ∷ []) in omega arith in
        let yes : star_at ts (length u) ≡ true = ap (star_at ts) size ∙ sees_star ts v w o t r whole g i j in
        let z : true ≡ false = sym yes ∙ e in cc
