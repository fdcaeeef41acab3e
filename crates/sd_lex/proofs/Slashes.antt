-- Pieces that begin with a slash.
use Rattle.std.proofs.Common.{◌≡◌, ℕ, suc, ◌+◌, ◌-◌, ◌<◌, ◌≤◌, true, false, cond, [], ◌∷◌, ◌++◌, length, take, drop, refl, ap, sym, ◌∙◌, subst, arith, inl, inr, get_or, take-append-drop, length-append, append-nil}
use Rattle.std.specs.Prelude.{Bool, Some, None, ◌&&◌, ◌==◌}
use Rattle.std.specs.List.{prefix_len}
use Rattle.std.proofs.Math.Seq.{take-length, drop-length}
use Rattle.std.proofs.lemmas.List.Sums.{prefix_len-le-length}
use Rattle.sd_lex.specs.declared.token.Piece.TheVariants.{Gap, Unsupported, OpenComment}
use Rattle.sd_lex.specs.Pieces.{Bytes, Blank, Letter, Digit, Quote, Slash, Other, first, BeginsAs, BeginsWith, is_in_line, after_comment}
use Rattle.sd_lex.proofs.Cuts.{true_false, each_front, each_mid, run_stops, whole_cut, read_drop}

slash_of : (b : ℕ) (v w x y z : Bool) → b == 47 ≡ z → cond v Blank (cond w Letter (cond x Digit (cond y Quote (cond z Slash Other)))) ≡ Slash → b ≡ 47
slash_of b true w x y z s e = absurd (cc)
slash_of b false true x y z s e = absurd (cc)
slash_of b false false true y z s e = absurd (cc)
slash_of b false false false true z s e = absurd (cc)
slash_of b false false false false true s e = grind arith
slash_of b false false false false false s e = absurd (cc)

slash_first : (b : ℕ) → first b ≡ Slash → b ≡ 47
slash_first b e = slash_of b _ _ _ _ _ refl e

line_begins : (b s : ℕ) (body : Bytes) → first b ≡ Slash → s ≡ 47 → BeginsWith (b ∷ s ∷ body) Gap (suc (suc (prefix_len is_in_line body)))
line_begins b s body e is = whole_cut Slash b (s ∷ body) (suc (prefix_len is_in_line body)) Gap e (omega (arith, prefix_len-le-length is_in_line body))
    (inl (is, each_front is_in_line body, refl))
    (λ c extra after q split h. elim h [
      | inl w ↦ true_false (each_mid is_in_line (take (prefix_len is_in_line body) body) c extra w.1) (run_stops is_in_line body c (extra ++ after) split)
      | inr w ↦ absurd (let z : s ≡ 42 = w.0 in omega arith)
    ])

-- What follows a comment's end is shorter than the comment.
shorter_by : (d a b : ℕ) (more r : Bytes) (v w x : Bool)
    → cond v (cond w (Some more) (after_comment (d - 1) more)) (cond x (after_comment (d + 1) more) (after_comment d (b ∷ more))) ≡ Some r
    → (after_comment (d - 1) more ≡ Some r → length r + 1 < length more) → (after_comment (d + 1) more ≡ Some r → length r + 1 < length more) → (after_comment d (b ∷ more) ≡ Some r → length r + 1 < suc (length more))
    → length r + 1 < suc (suc (length more))
shorter_by d a b more r true true x e f g h = let same : more ≡ r = cc in let z = ap length same in omega arith
shorter_by d a b more r true false x e f g h = let z = f e in omega arith
shorter_by d a b more r false w true e f g h = let z = g e in omega arith
shorter_by d a b more r false w false e f g h = let z = h e in omega arith

shorter : (d : ℕ) (xs r : Bytes) → after_comment d xs ≡ Some r → length r + 1 < length xs
unfolding after_comment
shorter d [] r e = absurd (cc)
shorter d (a ∷ []) r e = absurd (cc)
shorter d (a ∷ b ∷ more) r e = shorter_by d a b more r (a == 42 && b == 47) (d == 0) (a == 47 && b == 42) e (shorter (d - 1) more r) (shorter (d + 1) more r) (shorter d (b ∷ more) r)

-- The end of a comment doesn't depend on what follows it.
nothing_left : (u v : Bytes) → u ++ v ≡ v → u ≡ []
nothing_left [] v e = refl
nothing_left (x ∷ u) v e = absurd (let z = ap length e in let y = length-append u v in omega arith)

ends_by : (d b : ℕ) (u v x : Bytes) (p q r : Bool)
    → cond p (cond q (Some (u ++ v)) (after_comment (d - 1) (u ++ v))) (cond r (after_comment (d + 1) (u ++ v)) (after_comment d (b ∷ u ++ v))) ≡ Some v
    → (after_comment (d - 1) (u ++ v) ≡ Some v → after_comment (d - 1) (u ++ x) ≡ Some x) → (after_comment (d + 1) (u ++ v) ≡ Some v → after_comment (d + 1) (u ++ x) ≡ Some x) → (after_comment d (b ∷ u ++ v) ≡ Some v → after_comment d (b ∷ u ++ x) ≡ Some x)
    → cond p (cond q (Some (u ++ x)) (after_comment (d - 1) (u ++ x))) (cond r (after_comment (d + 1) (u ++ x)) (after_comment d (b ∷ u ++ x))) ≡ Some x
ends_by d b u v x true true r e f g h = let same : u ++ v ≡ v = cc in let z = nothing_left u v same in rw z refl
ends_by d b u v x true false r e f g h = f e
ends_by d b u v x false q true e f g h = g e
ends_by d b u v x false q false e f g h = h e

ends_alike : (d : ℕ) (u v x : Bytes) → after_comment d (u ++ v) ≡ Some v → after_comment d (u ++ x) ≡ Some x
unfolding after_comment
ends_alike d [] v x e = absurd (let z = shorter d v v e in omega arith)
ends_alike d (a ∷ []) [] x e = absurd (cc)
ends_alike d (a ∷ []) (b ∷ v) x e = absurd (let z = shorter d (a ∷ b ∷ v) (b ∷ v) e in omega arith)
ends_alike d (a ∷ b ∷ u) v x e = ends_by d b u v x (a == 42 && b == 47) (d == 0) (a == 47 && b == 42) e (ends_alike (d - 1) u v x) (ends_alike (d + 1) u v x) (ends_alike d (b ∷ u) v x)

comment_begins : (b s k : ℕ) (body : Bytes) → first b ≡ Slash → s ≡ 42 → k ≤ length body → after_comment 0 body ≡ Some (drop k body) → BeginsWith (b ∷ s ∷ body) Gap (suc (suc k))
comment_begins b s k body e is within ends =
    let front : (x : Bytes) → after_comment 0 (take k body ++ x) ≡ Some x = λ x. ends_alike 0 (take k body) (drop k body) x (ap (after_comment 0) (take-append-drop k body) ∙ ends) in
    whole_cut Slash b (s ∷ body) (suc k) Gap e (omega arith)
    (inr (is, inl (sym (ap (after_comment 0) (append-nil (take k body))) ∙ front [], refl)))
    (λ c extra after q split h. elim h [
      | inl w ↦ absurd (let z : s ≡ 47 = w.0 in omega arith)
      | inr w ↦ elim w.1 [
        | inl y ↦ absurd (let z = sym y.0 ∙ front (c ∷ extra) in cc)
        | inr y ↦ absurd (let z = sym y.0 ∙ front (c ∷ extra) in cc)
      ]
    ])

open_begins : (b s : ℕ) (body : Bytes) → first b ≡ Slash → s ≡ 42 → after_comment 0 body ≡ None → BeginsWith (b ∷ s ∷ body) OpenComment (suc (suc (length body)))
open_begins b s body e is never =
    whole_cut Slash b (s ∷ body) (suc (length body)) OpenComment e (omega arith)
    (inr (is, inr (ap (after_comment 0) (take-length body) ∙ never, refl)))
    (λ c extra after q split h. absurd (let z : drop (length body) body ≡ [] = drop-length body in let w = sym z ∙ split in cc))

alone_begins : (b : ℕ) (more : Bytes) → first b ≡ Slash → (get_or more 0 0 ≡ 47 → ⊥) → (get_or more 0 0 ≡ 42 → ⊥) → BeginsWith (b ∷ more) (Unsupported (47 ∷ [])) 1
alone_begins b more e f g =
    whole_cut Slash b more 0 _ e (omega arith) refl
    (λ c extra after q split h.
    let at : get_or more 0 0 ≡ c = read_drop more 0 c (extra ++ after) split in
    elim h [ inl w ↦ f (at ∙ w.0) | inr w ↦ g (at ∙ w.0) ])

pub line_cut : (text : Bytes) (l : ℕ) → BeginsAs Slash text → get_or text 1 0 ≡ 47 → l ≡ prefix_len is_in_line (drop 2 text) → BeginsWith text Gap (2 + l)
line_cut [] l f s e = absurd f
line_cut (b ∷ []) l f s e = absurd (let z : 0 ≡ 47 = s in omega arith)
line_cut (b ∷ c ∷ body) l f s e = let n : suc (suc l) ≡ 2 + l = omega arith in subst (λ n. BeginsWith (b ∷ c ∷ body) Gap n) n (rw e (line_begins b c body f s))

pub comment_cut : (text : Bytes) (l : ℕ) → BeginsAs Slash text → get_or text 1 0 ≡ 42 → l ≤ length (drop 2 text) → after_comment 0 (drop 2 text) ≡ Some (drop l (drop 2 text)) → BeginsWith text Gap (2 + l)
comment_cut [] l f s w e = absurd f
comment_cut (b ∷ []) l f s w e = absurd (let z : 0 ≡ 42 = s in omega arith)
comment_cut (b ∷ c ∷ body) l f s w e = let n : suc (suc l) ≡ 2 + l = omega arith in subst (λ n. BeginsWith (b ∷ c ∷ body) Gap n) n (comment_begins b c l body f s w e)

pub open_cut : (text : Bytes) → BeginsAs Slash text → get_or text 1 0 ≡ 42 → after_comment 0 (drop 2 text) ≡ None → BeginsWith text OpenComment (length text)
open_cut [] f s e = absurd f
open_cut (b ∷ []) f s e = absurd (let z : 0 ≡ 42 = s in omega arith)
open_cut (b ∷ c ∷ body) f s e = open_begins b c body f s e

pub alone_cut : (text name : Bytes) → BeginsAs Slash text → (get_or text 1 0 ≡ 47 → ⊥) → (get_or text 1 0 ≡ 42 → ⊥) → name ≡ take 1 text → BeginsWith text (Unsupported name) 1
alone_cut [] name f g h e = absurd f
alone_cut (b ∷ more) name f g h e =
    let at : 47 ∷ [] ≡ name = ap (λ b. b ∷ []) (sym (slash_first b f)) ∙ sym e in
    subst (λ name. BeginsWith (b ∷ more) (Unsupported name) 1) at (alone_begins b more f g h)
