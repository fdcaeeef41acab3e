-- What a reader answers: what it got is in its language; at a fault the tokens before it begin a text of the language, and at a fault
-- of depth they do with one token more in a wider language, that of all heights.
use Rattle.std.proofs.Common.{◌≡◌, ℕ, zero, suc, ◌≤◌, true, false, cond, [], ◌∷◌, ◌++◌, refl, ap, sym, ◌∙◌, subst, arith, append_assoc}
use Rattle.std.specs.Prelude.{Bool}
use Rattle.std.proofs.lemmas.List.{append-nil}
use Rattle.sd_base.specs.declared.Place.{Place}
use Rattle.sd_lex.specs.declared.Token.{Token}
use Rattle.sd_lex.specs.declared.TokenKind.{TokenKind}
use Rattle.sd_lex.specs.declared.TokenKind.TheVariants as kind
use Rattle.sd_parse.specs.declared.class.TokenClass.{TokenClass}
use Rattle.sd_parse.specs.TokenClasses.{same_class}
use Rattle.sd_parse.specs.Grammar.{Tokens, Is}
use Rattle.sd_parse.specs.Reading.{Syntax, Deep, Step, Got, Bad, Reader, and_then, ahead, class_of, skip, want, name_by, name, number_by, number, many, deeper}
use Rattle.sd_parse.proofs.Texts as r
use Rattle.sd_parse.proofs.Texts.{Wanted, wanted, Named, named, Counted, counted, Nothing, nothing, Both, both, Repeat, same_is}
use Rattle.sd_parse.proofs.Spelling.{Spelled}

-- These tokens begin a text of the language.
pub record Begins {A : Type 0} (G : Tokens → A → Type 0) (u : Tokens) : Type 0 where
  pub more : Tokens
  pub value : A
  pub spelt : G (u ++ more) value

-- where `pre` was read before and `ts` are ahead
abbrev pub AnswersStep : {A : Type 0} (G W : Tokens → A → Type 0) (pre ts : Tokens) → Step A → Type 0
AnswersStep G W pre ts (Got x rest) = (u : Tokens) × (ts ≡ u ++ rest) × G (pre ++ u) x
AnswersStep G W pre ts (Bad Syntax rest) = (u : Tokens) × (ts ≡ u ++ rest) × Begins G (pre ++ u)
AnswersStep G W pre ts (Bad Deep rest) = (u : Tokens) × (ts ≡ u ++ rest) × Begins G (pre ++ u) × (t : Token) × (r : Tokens) × (rest ≡ t ∷ r) × Begins W ((pre ++ u) ++ t ∷ [])

pub record Answers {A : Type 0} (G W : Tokens → A → Type 0) (ts : Tokens) (step : Step A) : Type 0 where
  pub fact : AnswersStep G W [] ts step

-- the tokens u are read besides
pub shift : {A : Type 0} (G W : Tokens → A → Type 0) (pre u ts rest : Tokens) (step : Step A) → ts ≡ u ++ rest → AnswersStep G W (pre ++ u) rest step → AnswersStep G W pre ts step
shift G W pre u ts rest (Got x r) e a = (u ++ a.0, e ∙ ap (λ v. u ++ v) a.1 ∙ sym (append_assoc u a.0 r), subst (λ v. G v x) (append_assoc pre u a.0) a.2)
shift G W pre u ts rest (Bad Syntax r) e a = (u ++ a.0, e ∙ ap (λ v. u ++ v) a.1 ∙ sym (append_assoc u a.0 r), subst (Begins G) (append_assoc pre u a.0) a.2)
shift G W pre u ts rest (Bad Deep r) e a =
    (u ++ a.0, e ∙ ap (λ v. u ++ v) a.1 ∙ sym (append_assoc u a.0 r), subst (Begins G) (append_assoc pre u a.0) a.2, a.3, a.4, a.5, subst (λ v. Begins W (v ++ a.3 ∷ [])) (append_assoc pre u a.0) a.6)

-- one reader after another
pub bind : {A B : Type 0} (F V : Tokens → A → Type 0) (G W : Tokens → B → Type 0) (pre ts : Tokens) (step : Step A) (f : A → Reader B)
    → AnswersStep F V [] ts step
    → ((u : Tokens) → Begins F u → Begins G (pre ++ u))
    → ((u : Tokens) → Begins V u → Begins W (pre ++ u))
    → ((x : A) (u rest : Tokens) → F u x → AnswersStep G W (pre ++ u) rest (f x rest))
    → AnswersStep G W pre ts (and_then step f)
bind F V G W pre ts (Got x rest) f a narrow wide next = shift G W pre a.0 ts rest (f x rest) a.1 (next x a.0 rest a.2)
bind F V G W pre ts (Bad Syntax rest) f a narrow wide next = (a.0, a.1, narrow a.0 a.2)
bind F V G W pre ts (Bad Deep rest) f a narrow wide next = (a.0, a.1, narrow a.0 a.2, a.3, a.4, a.5, subst (Begins W) (sym (append_assoc pre a.0 (a.3 ∷ []))) (wide (a.0 ++ a.3 ∷ []) a.6))

pub begins_map : {A B : Type 0} (F : Tokens → A → Type 0) (G : Tokens → B → Type 0) (f : A → B) (u : Tokens) → ((v : Tokens) (x : A) → F v x → G v (f x)) → Begins F u → Begins G u
begins_map F G f u h b = record { more = b.more; value = f b.value; spelt = h (u ++ b.more) b.value b.spelt }

-- what was read begins itself
pub begins_whole : {A : Type 0} (G : Tokens → A → Type 0) (u : Tokens) (x : A) → G u x → Begins G u
begins_whole G u x g = record { more = []; value = x; spelt = subst (λ v. G v x) (sym (append-nil u)) g }

pub answers_map : {A : Type 0} (F V G W : Tokens → A → Type 0) (pre ts : Tokens) (step : Step A) → ((v : Tokens) (x : A) → F v x → G v x) → ((v : Tokens) (x : A) → V v x → W v x) → AnswersStep F V pre ts step → AnswersStep G W pre ts step
answers_map F V G W pre ts (Got x rest) f v a = (a.0, a.1, f (pre ++ a.0) x a.2)
answers_map F V G W pre ts (Bad Syntax rest) f v a = (a.0, a.1, begins_map F G (λ x. x) (pre ++ a.0) f a.2)
answers_map F V G W pre ts (Bad Deep rest) f v a = (a.0, a.1, begins_map F G (λ x. x) (pre ++ a.0) f a.2, a.3, a.4, a.5, begins_map V W (λ x. x) ((pre ++ a.0) ++ a.3 ∷ []) v a.6)

-- nothing more is read
pub stop : {A : Type 0} (G W : Tokens → A → Type 0) (pre ts : Tokens) (x : A) → G pre x → AnswersStep G W pre ts (Got x ts)
stop G W pre ts x g = ([], refl, subst (λ v. G v x) (sym (append-nil pre)) g)

pub stop_syntax : {A : Type 0} (G W : Tokens → A → Type 0) (pre ts : Tokens) → Begins G pre → AnswersStep G W pre ts (Bad Syntax ts)
stop_syntax G W pre ts b = ([], refl, subst (Begins G) (sym (append-nil pre)) b)

pub stop_deep : {A : Type 0} (G W : Tokens → A → Type 0) (pre : Tokens) (t : Token) (ts : Tokens) → Begins G pre → Begins W (pre ++ t ∷ []) → AnswersStep G W pre (t ∷ ts) (Bad Deep (t ∷ ts))
stop_deep G W pre t ts b w = ([], refl, subst (Begins G) (sym (append-nil pre)) b, t, ts, refl, subst (λ v. Begins W (v ++ t ∷ [])) (sym (append-nil pre)) w)

-- a text of the first language behind what was read before
pub onto : {A : Type 0} (F V G W : Tokens → A → Type 0) (pre ts : Tokens) (step : Step A) → ((u : Tokens) (x : A) → F u x → G (pre ++ u) x) → ((u : Tokens) (x : A) → V u x → W (pre ++ u) x) → AnswersStep F V [] ts step → AnswersStep G W pre ts step
onto F V G W pre ts (Got x rest) f v a = (a.0, a.1, f a.0 x a.2)
onto F V G W pre ts (Bad Syntax rest) f v a = (a.0, a.1, record { more = a.2.more; value = a.2.value; spelt = subst (λ z. G z a.2.value) (sym (append_assoc pre a.0 a.2.more)) (f (a.0 ++ a.2.more) a.2.value a.2.spelt) })
onto F V G W pre ts (Bad Deep rest) f v a = (
  a.0,
  a.1,
  record { more = a.2.more; value = a.2.value; spelt = subst (λ z. G z a.2.value) (sym (append_assoc pre a.0 a.2.more)) (f (a.0 ++ a.2.more) a.2.value a.2.spelt) },
  a.3,
  a.4,
  a.5,
  record { more = a.6.more; value = a.6.value; spelt = subst (λ z. W z a.6.value) (sym (ap (λ z. z ++ a.6.more) (append_assoc pre a.0 (a.3 ∷ [])) ∙ append_assoc pre (a.0 ++ a.3 ∷ []) a.6.more)) (v ((a.0 ++ a.3 ∷ []) ++ a.6.more) a.6.value a.6.spelt) },
)

-- one reader after another, where the first stands behind what was read before
pub chain : {A B : Type 0} (F V : Tokens → A → Type 0) (G W : Tokens → B → Type 0) (pre ts : Tokens) (step : Step A) (f : A → Reader B)
    → AnswersStep F V pre ts step
    → ((u : Tokens) → Begins F u → Begins G u)
    → ((u : Tokens) → Begins V u → Begins W u)
    → ((x : A) (u rest : Tokens) → F u x → AnswersStep G W u rest (f x rest))
    → AnswersStep G W pre ts (and_then step f)
chain F V G W pre ts (Got x rest) f a narrow wide next = shift G W pre a.0 ts rest (f x rest) a.1 (next x (pre ++ a.0) rest a.2)
chain F V G W pre ts (Bad Syntax rest) f a narrow wide next = (a.0, a.1, narrow (pre ++ a.0) a.2)
chain F V G W pre ts (Bad Deep rest) f a narrow wide next = (a.0, a.1, narrow (pre ++ a.0) a.2, a.3, a.4, a.5, wide ((pre ++ a.0) ++ a.3 ∷ []) a.6)

pub into : {A : Type 0} {F V G W : Tokens → A → Type 0} {ts : Tokens} {step : Step A} → ((v : Tokens) (x : A) → F v x → G v x) → ((v : Tokens) (x : A) → V v x → W v x) → Answers F V ts step → Answers G W ts step
into {F = F} {V = V} {G = G} {W = W} {ts = ts} {step = step} f v a = record { fact = answers_map F V G W [] ts step f v a.fact }

pub fails : {A : Type 0} {G W : Tokens → A → Type 0} {ts : Tokens} → Begins G [] → Answers G W ts (Bad Syntax ts)
fails {G = G} {W = W} {ts = ts} b = record { fact = stop_syntax G W [] ts b }

-- ---- a rule: a reader with its language, and the least text of it

pub record Rule {A : Type 0} (F V : Tokens → A → Type 0) (p : Reader A) : Type 0 where
  pub least : Begins F []
  pub up : (u : Tokens) (x : A) → F u x → V u x
  pub answers : (ts : Tokens) → Answers F V ts (p ts)

-- how a text of the first goes on with the least text of the second
pub filled_by : {A B : Type 0} (H : Tokens → A → Type 0) (K : A → Tokens → B → Type 0) (fill : (x : A) → Begins (K x) []) (u : Tokens) → Begins H u → Begins (Both H K) u
filled_by H K fill u b = record { more = b.more ++ (fill b.value).more; value = (fill b.value).value; spelt = subst (λ z. Both H K z (fill b.value).value) (append_assoc u b.more (fill b.value).more) (both b.spelt (fill b.value).spelt) }

-- what the second reader answers, behind what the first has read
behind : {A B : Type 0} (F V : Tokens → A → Type 0) (G W : A → Tokens → B → Type 0) (x : A) (u rest : Tokens) (step : Step B) → F u x → V u x → AnswersStep (G x) (W x) [] rest step → AnswersStep (Both F G) (Both V W) u rest step
behind F V G W x u rest step f v a = onto (G x) (W x) (Both F G) (Both V W) u rest step (λ w y z. both f z) (λ w y z. both v z) a

least_wide : {A : Type 0} {F V : Tokens → A → Type 0} {p : Reader A} → Rule F V p → Begins V []
least_wide {F = F} {V = V} l = begins_map F V (λ x. x) [] l.up l.least

pub seq_at : {A B : Type 0} {F V : Tokens → A → Type 0} {G W : A → Tokens → B → Type 0} {ts : Tokens} {step : Step A} {q : A → Reader B}
    → ((u : Tokens) (x : A) → F u x → V u x) → Answers F V ts step → ((x : A) → Rule (G x) (W x) (q x)) → Answers (Both F G) (Both V W) ts (and_then step q)
seq_at {F = F} {V = V} {G = G} {W = W} {ts = ts} {step = step} {q = q} up a next =
    record { fact = bind F V (Both F G) (Both V W) [] ts step q a.fact (filled_by F G (λ x. (next x).least)) (filled_by V W (λ x. least_wide (next x))) (λ x u rest f. behind F V G W x u rest (q x rest) f (up u x f) ((next x).answers rest).fact) }

both_up : {A B : Type 0} {F V : Tokens → A → Type 0} {G W : A → Tokens → B → Type 0} → ((u : Tokens) (x : A) → F u x → V u x) → ((x : A) (u : Tokens) (y : B) → G x u y → W x u y) → {u : Tokens} {y : B} → Both F G u y → Both V W u y
both_up f g (both {u = u} {v = v} {x = x} {y = y} a b) = both (f u x a) (g x v y b)

pub seq : {A B : Type 0} {F V : Tokens → A → Type 0} {G W : A → Tokens → B → Type 0} {p : Reader A} {q : A → Reader B} → Rule F V p → ((x : A) → Rule (G x) (W x) (q x)) → Rule (Both F G) (Both V W) (λ ts. and_then (p ts) q)
seq {F = F} {G = G} a next = record {
  least = filled_by F G (λ x. (next x).least) [] a.least;
  up = λ u y z. both_up a.up (λ x. (next x).up) z;
  answers = λ ts. seq_at a.up (a.answers ts) next;
}

pub done : {A : Type 0} (y : A) → Rule (Nothing y) (Nothing y) (λ ts. Got y ts)
done y = record { least = record { more = []; value = y; spelt = nothing }; up = λ u x n. n; answers = λ ts. record { fact = ([], refl, nothing) } }

pub rule_into : {A : Type 0} {F V G W : Tokens → A → Type 0} {p : Reader A} → ((v : Tokens) (x : A) → F v x → G v x) → ((v : Tokens) (x : A) → V v x → W v x) → ((u : Tokens) (x : A) → G u x → W u x) → Rule F V p → Rule G W p
rule_into {F = F} {G = G} f v up a = record { least = begins_map F G (λ x. x) [] f a.least; up = up; answers = λ ts. into f v (a.answers ts) }

-- ---- tokens

wanted_begins : (x : TokenClass) → Spelled x → Begins (Wanted x) []
wanted_begins x w = record { more = w.token ∷ []; value = w.token.at; spelt = wanted w.is }

pub skip_answers : (x : TokenClass) → Spelled x → (ts : Tokens) → class_of (ahead ts) ≡ x → Answers (Wanted x) (Wanted x) ts (skip ts)
skip_answers x w [] e = fails (wanted_begins x w)
skip_answers x w (t ∷ ts) e = record { fact = (t ∷ [], refl, wanted (record { same = e })) }

pub want_rule : (x : TokenClass) → Spelled x → Rule (Wanted x) (Wanted x) (want x)
unfolding want
want_rule x w = record { least = wanted_begins x w; up = λ u p i. i; answers = λ ts. by_test ts (same_class (class_of (ahead ts)) x) refl }
  where
    by_test : (ts : Tokens) (b : Bool) → same_class (class_of (ahead ts)) x ≡ b → Answers (Wanted x) (Wanted x) ts (cond {A = Reader Place} b skip (λ ts. Bad Syntax ts) ts)
    by_test ts true e = skip_answers x w ts (same_is (class_of (ahead ts)) x e)
    by_test ts false e = fails (wanted_begins x w)

abbrev token_of : TokenKind → Token
token_of k = record { at = record { byte = 0 }; kind = k }

named_begins : Begins Named []
named_begins = record { more = token_of (kind.Ident []) ∷ []; value = ([], record { byte = 0 }); spelt = named (record { same = refl }) }

pub name_rule : Rule Named Named name
unfolding name
name_rule = record { least = named_begins; up = λ u x i. i; answers = by_tokens }
  where
    by_kind : (t : Token) (ts : Tokens) (k : TokenKind) → t.kind ≡ k → Answers Named Named (t ∷ ts) (name_by t ts k)
    by_kind t ts (kind.Ident x) e = record { fact = (t ∷ [], refl, named (record { same = e })) }
    by_kind t ts _ e = fails named_begins

    by_tokens : (ts : Tokens) → Answers Named Named ts (name ts)
    by_tokens [] = fails named_begins
    by_tokens (t ∷ ts) = by_kind t ts t.kind refl

counted_begins : Begins Counted []
counted_begins = record { more = token_of (kind.Number 0) ∷ []; value = (0, record { byte = 0 }); spelt = counted (record { same = refl }) }

pub number_rule : Rule Counted Counted number
unfolding number
number_rule = record { least = counted_begins; up = λ u x i. i; answers = by_tokens }
  where
    by_kind : (t : Token) (ts : Tokens) (k : TokenKind) → t.kind ≡ k → Answers Counted Counted (t ∷ ts) (number_by t ts k)
    by_kind t ts (kind.Number n) e = record { fact = (t ∷ [], refl, counted (record { same = e })) }
    by_kind t ts _ e = fails counted_begins

    by_tokens : (ts : Tokens) → Answers Counted Counted ts (number ts)
    by_tokens [] = fails counted_begins
    by_tokens (t ∷ ts) = by_kind t ts t.kind refl

-- after the token that chose the rule
pub after : {B : Type 0} {G W : Place → Tokens → B → Type 0} {q : Place → Reader B} (x : TokenClass) → Spelled x → (ts : Tokens) → class_of (ahead ts) ≡ x → ((p : Place) → Rule (G p) (W p) (q p)) → Answers (Both (Wanted x) G) (Both (Wanted x) W) ts (and_then (skip ts) q)
after x w ts e next = seq_at (λ u p i. i) (skip_answers x w ts e) next

-- what needs a phrase below it: without room for one its first token is too deep
pub deeper_answers : {B : Type 0} {G W : Tokens → B → Type 0} (x : TokenClass) → Spelled x → (d : ℕ) (p : Reader B) (ts : Tokens) → class_of (ahead ts) ≡ x → Begins G [] → ((t : Token) → Is x t → Begins W (t ∷ [])) → (1 ≤ d → Answers G W ts (p ts)) → Answers G W ts (deeper d p ts)
deeper_answers x w zero p [] e least begun a = absurd (w.real e)
deeper_answers {G = G} {W = W} x w zero p (t ∷ ts) e least begun a = record { fact = stop_deep G W [] t ts least (begun t (record { same = e })) }
deeper_answers x w (suc d) p ts e least begun a = a (omega arith)

-- ---- items

repeat_up : {A B : Type 0} {F V : Tokens → A → Type 0} {begins : TokenClass → Bool} {add : B → A → B} → ((u : Tokens) (x : A) → F u x → V u x) → {acc y : B} {u : Tokens} → Repeat F begins add acc u y → Repeat V begins add acc u y
repeat_up f r.none = r.none
repeat_up f (r.more {u = u} {x = x} a m) = r.more (f u x a) (repeat_up f m)

-- the reader of an item stands before a token that begins one
pub many_rule : {A B : Type 0} (F V : Tokens → A → Type 0) (begins : TokenClass → Bool) (item : Reader A) (add : B → A → B) → ((u : Tokens) (x : A) → F u x → V u x) → ((ts : Tokens) → begins (class_of (ahead ts)) ≡ true → Answers F V ts (item ts))
    → (n : ℕ) (acc : B) → Rule (Repeat F begins add acc) (Repeat V begins add acc) (many begins item add n acc)
unfolding many
many_rule F V begins item add up law zero acc = record { least = record { more = []; value = acc; spelt = r.none }; up = λ u y m. repeat_up up m; answers = λ ts. fails (record { more = []; value = acc; spelt = r.none }) }
many_rule {A} {B} F V begins item add up law (suc n) acc = record { least = record { more = []; value = acc; spelt = r.none }; up = λ u y m. repeat_up up m; answers = λ ts. by_test ts (begins (class_of (ahead ts))) refl (λ x. many_rule F V begins item add up law n (add acc x)) }
  where
    to_more : (H : Tokens → A → Type 0) (u : Tokens) (y : B) → Both H (λ x. Repeat H begins add (add acc x)) u y → Repeat H begins add acc u y
    to_more H u y (both f m) = r.more f m

    by_test : (ts : Tokens) (b : Bool) → begins (class_of (ahead ts)) ≡ b → ((x : A) → Rule (Repeat F begins add (add acc x)) (Repeat V begins add (add acc x)) (many begins item add n (add acc x)))
        → Answers (Repeat F begins add acc) (Repeat V begins add acc) ts (cond {A = Reader B} b (λ ts. and_then (item ts) (λ x. many begins item add n (add acc x))) (λ ts. Got acc ts) ts)
    by_test ts true e next = into (to_more F) (to_more V) (seq_at {F = F} {V = V} {G = λ x. Repeat F begins add (add acc x)} {W = λ x. Repeat V begins add (add acc x)} up (law ts e) next)
    by_test ts false e next = record { fact = ([], refl, r.none) }

-- ---- heights

-- What begins a text with a token that is too deep begins one that is higher by two at most.
abbrev pub wide : ℕ → ℕ
wide d = suc (suc d)
