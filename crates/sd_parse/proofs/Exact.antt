-- The rule of refusals, from the laws of a reader: what it answers, that it reads what is spelled, that it looks no further than the
-- next token, and that more height changes only the answer that a token is too deep.
use Rattle.std.proofs.Common.{◌≡◌, ℕ, ◌+◌, [], ◌∷◌, ◌++◌, refl, ap, sym, ◌∙◌, subst, append_assoc}
use Rattle.std.proofs.lemmas.List.{append-nil}
use Rattle.sd_base.specs.declared.Place.{Place}
use Rattle.sd_lex.specs.declared.Token.{Token}
use Rattle.sd_parse.specs.Grammar.{Tokens}
use Rattle.sd_parse.specs.Refusals as rule
use Rattle.sd_parse.specs.Refusals.{BeginsWithin, BeginsSome, IsSyntax, IsDeep, place_of, Verdict, Read, IsVerdict}
use Rattle.sd_parse.specs.Reading.{Syntax, Deep, Got, Bad, Reader}
use Rattle.sd_parse.proofs.Algebra.{Begins, Answers, AnswersStep, wide}
use Rattle.sd_parse.proofs.Local.{Local, rest_of, before}
use Rattle.sd_parse.proofs.Lifts.{Lifts, same, deep}

-- A reader of whole texts with its laws.
pub record Exact {A : Type 0} (L : ℕ → Tokens → A → Type 0) (limit : ℕ) (p : ℕ → Reader A) : Type 0 where
  pub grows : (d k : ℕ) (u : Tokens) (x : A) → L k u x → L (d + k) u x
  pub answers : (ts : Tokens) → Answers (L limit) (L (wide limit)) ts (p limit ts)
  pub complete : (d : ℕ) (u : Tokens) (x : A) → L d u x → p d u ≡ Got x []
  pub local : (d : ℕ) → Local (p d)
  pub lifts : (k d : ℕ) (ts : Tokens) → Lifts (p d ts) (p (d + k) ts)
  pub ends : (ts : Tokens) (x : A) (rest : Tokens) → p limit ts ≡ Got x rest → rest ≡ []

module _ {A : Type 0} {L : ℕ → Tokens → A → Type 0} {limit : ℕ} {p : ℕ → Reader A} (laws : Exact L limit p) where
  within : (u : Tokens) → Begins (L limit) u → BeginsWithin L limit u
  within u b = record { more = b.more; value = b.value; spelled = b.spelt }

  some : (u : Tokens) → Begins (L (wide limit)) u → BeginsSome L u
  some u b = record { height = wide limit; begins = record { more = b.more; value = b.value; spelled = b.spelt } }

  lifted : (k : ℕ) (ts rest : Tokens) → p limit ts ≡ Bad Syntax rest → p (limit + k) ts ≡ Bad Syntax rest
  lifted k ts rest e = go (laws.lifts k limit ts)
    where
      go : Lifts (p limit ts) (p (limit + k) ts) → p (limit + k) ts ≡ Bad Syntax rest
      go (same f) = sym f ∙ e
      go (deep f) = absurd (cc)

  no_more : (u : Tokens) (t : Token) (r : Tokens) → p limit (u ++ t ∷ r) ≡ Bad Syntax (t ∷ r) → BeginsSome L (u ++ t ∷ []) → ⊥
  no_more u t r e b =
      let k : ℕ = b.height in
      let w : Tokens = b.begins.more in
      let far : p (limit + k) (u ++ t ∷ r) ≡ Bad Syntax (t ∷ r) = lifted k (u ++ t ∷ r) (t ∷ r) e in
      let fails : p (limit + k) (u ++ t ∷ w) ≡ Bad Syntax (t ∷ w) = (laws.local (limit + k)).blind u t r w (ap rest_of far) ∙ ap (λ s. before s (t ∷ w)) far in
      let reads : p (limit + k) (u ++ t ∷ w) ≡ Got b.begins.value [] = ap (p (limit + k)) (sym (append_assoc u (t ∷ []) w)) ∙ laws.complete (limit + k) ((u ++ t ∷ []) ++ w) b.begins.value (laws.grows limit k ((u ++ t ∷ []) ++ w) b.begins.value b.begins.spelled) in
      let z : Bad Syntax (t ∷ w) ≡ Got b.begins.value [] = sym fails ∙ reads in cc

  no_low : (u : Tokens) (t : Token) (r : Tokens) → p limit (u ++ t ∷ r) ≡ Bad Deep (t ∷ r) → BeginsWithin L limit (u ++ t ∷ []) → ⊥
  no_low u t r e b =
      let w : Tokens = b.more in
      let fails : p limit (u ++ t ∷ w) ≡ Bad Deep (t ∷ w) = (laws.local limit).blind u t r w (ap rest_of e) ∙ ap (λ s. before s (t ∷ w)) e in
      let reads : p limit (u ++ t ∷ w) ≡ Got b.value [] = ap (p limit) (sym (append_assoc u (t ∷ []) w)) ∙ laws.complete limit ((u ++ t ∷ []) ++ w) b.value b.spelled in
      let z : Bad Deep (t ∷ w) ≡ Got b.value [] = sym fails ∙ reads in cc

  no_end : (ts : Tokens) → p limit ts ≡ Bad Syntax [] → (d : ℕ) (x : A) → L d ts x → ⊥
  no_end ts e d x w =
      let far : p (limit + d) ts ≡ Bad Syntax [] = lifted d ts [] e in
      let reads : p (limit + d) ts ≡ Got x [] = laws.complete (limit + d) ts x (laws.grows limit d ts x w) in
      let z : Bad Syntax [] ≡ Got x [] = sym far ∙ reads in cc

  pub syntax_at : (ts : Tokens) (end : Place) (rest : Tokens) → p limit ts ≡ Bad Syntax rest → IsSyntax L limit ts end (place_of end rest)
  syntax_at ts end rest e = go rest e (subst (AnswersStep (L limit) (L (wide limit)) [] ts) e (laws.answers ts).fact)
    where
      go : (rest : Tokens) → p limit ts ≡ Bad Syntax rest → AnswersStep (L limit) (L (wide limit)) [] ts (Bad Syntax rest) → IsSyntax L limit ts end (place_of end rest)
      go [] e a = rule.missing_at_end (subst (BeginsWithin L limit) (sym (a.1 ∙ append-nil a.0)) (within a.0 a.2)) (no_end ts e)
      go (t ∷ r) e a = rule.IsSyntax.at_token t r a.1 (within a.0 a.2) (no_more a.0 t r (ap (p limit) (sym a.1) ∙ e))

  pub deep_at : (ts : Tokens) (end : Place) (rest : Tokens) → p limit ts ≡ Bad Deep rest → IsDeep L limit ts (place_of end rest)
  deep_at ts end rest e = go rest e (subst (AnswersStep (L limit) (L (wide limit)) [] ts) e (laws.answers ts).fact)
    where
      go : (rest : Tokens) → p limit ts ≡ Bad Deep rest → AnswersStep (L limit) (L (wide limit)) [] ts (Bad Deep rest) → IsDeep L limit ts (place_of end rest)
      go [] e a = absurd (let z : [] ≡ a.3 ∷ a.4 = a.5 in cc)
      go (t ∷ r) e a =
          let head : a.3 ≡ t = cc in
          rule.IsDeep.at_token t r a.1 (within a.0 a.2) (some (a.0 ++ t ∷ []) (subst (λ t. Begins (L (wide limit)) (a.0 ++ t ∷ [])) head a.6)) (no_low a.0 t r (ap (p limit) (sym a.1) ∙ e))

  pub read_is : (ts : Tokens) (x : A) (rest : Tokens) → p limit ts ≡ Got x rest → L limit ts x
  read_is ts x rest e =
      let a = subst (AnswersStep (L limit) (L (wide limit)) [] ts) e (laws.answers ts).fact in
      let none : rest ≡ [] = laws.ends ts x rest e in
      subst (λ v. L limit v x) (sym (a.1 ∙ ap (λ r. a.0 ++ r) none ∙ append-nil a.0)) a.2

  -- ---- a text has one verdict

  one_value : (ts : Tokens) (x y : A) → L limit ts x → L limit ts y → x ≡ y
  one_value ts x y a b = let z : Got x [] ≡ Got y [] = sym (laws.complete limit ts x a) ∙ laws.complete limit ts y b in cc

-- two ways to cut a text before a token
pub data Cuts (u : Tokens) (t : Token) (v : Tokens) (s : Token) : Type 0 where
  at_one : u ≡ v → t ≡ s → Cuts u t v s
  sooner : (m : Tokens) → v ≡ u ++ t ∷ m → Cuts u t v s
  later : (m : Tokens) → u ≡ v ++ s ∷ m → Cuts u t v s

more_cut : (a : Token) {u v : Tokens} {t s : Token} → Cuts u t v s → Cuts (a ∷ u) t (a ∷ v) s
more_cut a (at_one e f) = at_one (ap (λ u. a ∷ u) e) f
more_cut a (sooner m e) = sooner m (ap (λ u. a ∷ u) e)
more_cut a (later m e) = later m (ap (λ u. a ∷ u) e)

pub cuts : (u v : Tokens) (t s : Token) (r q : Tokens) → u ++ t ∷ r ≡ v ++ s ∷ q → Cuts u t v s
cuts [] [] t s r q e = at_one refl (cc)
cuts [] (b ∷ v) t s r q e = let same : t ≡ b = cc in sooner v (ap (λ b. b ∷ v) (sym same))
cuts (a ∷ u) [] t s r q e = let same : a ≡ s = cc in later u (ap (λ a. a ∷ u) same)
cuts (a ∷ u) (b ∷ v) t s r q e =
    let head : a ≡ b = cc in
    let tail : u ++ t ∷ r ≡ v ++ s ∷ q = cc in
    subst (λ b. Cuts (a ∷ u) t (b ∷ v) s) head (more_cut a (cuts u v t s r q tail))

module _ {A : Type 0} (L : ℕ → Tokens → A → Type 0) (limit : ℕ) (ts : Tokens) where
  -- the token that is refused
  record Refused (u : Tokens) (t : Token) (r : Tokens) : Type 0 where
    split : ts ≡ u ++ t ∷ r
    sofar : BeginsWithin L limit u
    refused : BeginsWithin L limit (u ++ t ∷ []) → ⊥

  shorter : (u : Tokens) (t : Token) (m : Tokens) → BeginsWithin L limit (u ++ t ∷ m) → BeginsWithin L limit (u ++ t ∷ [])
  shorter u t m b = record { more = m ++ b.more; value = b.value; spelled = subst (λ z. L limit z b.value) (ap (λ z. z ++ b.more) (sym (append_assoc u (t ∷ []) m)) ∙ append_assoc (u ++ t ∷ []) m b.more) b.spelled }

  one_token : {u v : Tokens} {t s : Token} {r q : Tokens} → Refused u t r → Refused v s q → (u ≡ v) × (t ≡ s)
  one_token {u = u} {v = v} {t = t} {s = s} {r = r} {q = q} a b = go (cuts u v t s r q (sym a.split ∙ b.split))
    where
      go : Cuts u t v s → (u ≡ v) × (t ≡ s)
      go (at_one e f) = (e, f)
      go (sooner m e) = absurd (a.refused (shorter u t m (subst (BeginsWithin L limit) e b.sofar)))
      go (later m e) = absurd (b.refused (shorter v s m (subst (BeginsWithin L limit) e a.sofar)))

  -- no token of a text within the limit is refused
  none_refused : BeginsWithin L limit ts → {u : Tokens} {t : Token} {r : Tokens} → Refused u t r → ⊥
  none_refused b {u = u} {t = t} {r = r} a = a.refused (shorter u t r (subst (BeginsWithin L limit) a.split b))

  of_some : (u : Tokens) → (BeginsSome L u → ⊥) → BeginsWithin L limit u → ⊥
  of_some u none b = none (record { height = limit; begins = b })

  whole_begins : (x : A) → L limit ts x → BeginsWithin L limit ts
  whole_begins x w = record { more = []; value = x; spelled = subst (λ z. L limit z x) (sym (append-nil ts)) w }

  module _ (end : Place) (one : (x y : A) → L limit ts x → L limit ts y → x ≡ y) where
    read_not_syntax : (x : A) (at : Place) → L limit ts x → IsSyntax L limit ts end at → ⊥
    read_not_syntax x at w (rule.IsSyntax.at_token {u = u} t r e b none) = none_refused (whole_begins x w) (record { split = e; sofar = b; refused = of_some (u ++ t ∷ []) none })
    read_not_syntax x at w (rule.missing_at_end b none) = none limit x w

    read_not_deep : (x : A) (at : Place) → L limit ts x → IsDeep L limit ts at → ⊥
    read_not_deep x at w (rule.IsDeep.at_token {u = u} t r e b some none) = none_refused (whole_begins x w) (record { split = e; sofar = b; refused = none })

    syntax_not_deep : (p q : Place) → IsSyntax L limit ts end p → IsDeep L limit ts q → ⊥
    syntax_not_deep p q (rule.IsSyntax.at_token {u = u} t r e b none) (rule.IsDeep.at_token {u = v} s m f c some high) =
        let same = one_token (record { split = e; sofar = b; refused = of_some (u ++ t ∷ []) none }) (record { split = f; sofar = c; refused = high }) in
        none (subst (λ u. BeginsSome L (u ++ t ∷ [])) (sym same.0) (subst (λ s. BeginsSome L (v ++ s ∷ [])) (sym same.1) some))
    syntax_not_deep p q (rule.missing_at_end b none) (rule.IsDeep.at_token {u = v} s m f c some high) = none_refused b (record { split = f; sofar = c; refused = high })

    one_syntax : (p q : Place) → IsSyntax L limit ts end p → IsSyntax L limit ts end q → p ≡ q
    one_syntax p q (rule.IsSyntax.at_token {u = u} t r e b none) (rule.IsSyntax.at_token {u = v} s m f c other) =
        ap (λ t. t.at) (one_token (record { split = e; sofar = b; refused = of_some (u ++ t ∷ []) none }) (record { split = f; sofar = c; refused = of_some (v ++ s ∷ []) other })).1
    one_syntax p q (rule.IsSyntax.at_token {u = u} t r e b none) (rule.missing_at_end c other) = absurd (none_refused c (record { split = e; sofar = b; refused = of_some (u ++ t ∷ []) none }))
    one_syntax p q (rule.missing_at_end b none) (rule.IsSyntax.at_token {u = v} s m f c other) = absurd (none_refused b (record { split = f; sofar = c; refused = of_some (v ++ s ∷ []) other }))
    one_syntax p q (rule.missing_at_end b none) (rule.missing_at_end c other) = refl

    one_deep : (p q : Place) → IsDeep L limit ts p → IsDeep L limit ts q → p ≡ q
    one_deep p q (rule.IsDeep.at_token {u = u} t r e b some none) (rule.IsDeep.at_token {u = v} s m f c other high) =
        ap (λ t. t.at) (one_token (record { split = e; sofar = b; refused = none }) (record { split = f; sofar = c; refused = high })).1

    pub one_verdict : (v w : Verdict A) → IsVerdict L limit ts end v → IsVerdict L limit ts end w → v ≡ w
    one_verdict (Read x) (Read y) a b = ap Read (one x y a b)
    one_verdict (Read x) (rule.Verdict.Syntax at) a b = absurd (read_not_syntax x at a b)
    one_verdict (Read x) (rule.Verdict.Deep at) a b = absurd (read_not_deep x at a b)
    one_verdict (rule.Verdict.Syntax at) (Read y) a b = absurd (read_not_syntax y at b a)
    one_verdict (rule.Verdict.Syntax p) (rule.Verdict.Syntax q) a b = ap rule.Verdict.Syntax (one_syntax p q a b)
    one_verdict (rule.Verdict.Syntax p) (rule.Verdict.Deep q) a b = absurd (syntax_not_deep p q a b)
    one_verdict (rule.Verdict.Deep at) (Read y) a b = absurd (read_not_deep y at b a)
    one_verdict (rule.Verdict.Deep p) (rule.Verdict.Syntax q) a b = absurd (syntax_not_deep q p b a)
    one_verdict (rule.Verdict.Deep p) (rule.Verdict.Deep q) a b = ap rule.Verdict.Deep (one_deep p q a b)
