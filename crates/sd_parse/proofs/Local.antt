-- A reader's answer depends on no token after the next one.
use Rattle.std.proofs.Common.{◌≡◌, ℕ, zero, suc, ◌+◌, ◌<◌, true, false, cond, [], ◌∷◌, ◌++◌, length, length-append, refl, ap, sym, ◌∙◌, arith, append_assoc}
use Rattle.std.specs.Prelude.{Bool, Option, Some, None}
use Rattle.std.proofs.lemmas.List.{append_cancel_right}
use Rattle.sd_base.specs.declared.Place.{Place}
use Rattle.sd_base.specs.Value.{Text}
use Rattle.sd_lex.specs.declared.Token.{Token}
use Rattle.sd_lex.specs.declared.TokenKind.{TokenKind}
use Rattle.sd_lex.specs.declared.TokenKind.TheVariants as kind
use Rattle.sd_parse.specs.declared.class.TokenClass.{TokenClass}
use Rattle.sd_parse.specs.declared.class.TokenClass.TheVariants as s
use Rattle.sd_parse.specs.TokenClasses.{class, same_class}
use Rattle.sd_parse.specs.Grammar.{Tokens}
use Rattle.sd_parse.specs.Reading.{Fault, Syntax, Deep, Step, Got, Bad, Reader, and_then, ahead, class_of, bad, skip, want, name_by, name, number_by, number, many, all, deeper}

abbrev pub rest_of : {A : Type 0} → Step A → Tokens
rest_of (Got x rest) = rest
rest_of (Bad k rest) = rest

-- the same answer before other tokens
abbrev pub before : {A : Type 0} → Step A → Tokens → Step A
before (Got x rest) ts = Got x ts
before (Bad k rest) ts = Bad k ts

pub record Local {A : Type 0} (p : Reader A) : Type 0 where
  pub suffix : (ts : Tokens) → (u : Tokens) × (ts ≡ u ++ rest_of (p ts))
  pub blind : (u : Tokens) (t : Token) (v w : Tokens) → rest_of (p (u ++ t ∷ v)) ≡ t ∷ v → p (u ++ t ∷ w) ≡ before (p (u ++ t ∷ v)) (t ∷ w)

pub nothing_left : (u v : Tokens) → u ++ v ≡ v → u ≡ []
nothing_left [] v e = refl
nothing_left (x ∷ u) v e = absurd (let z = ap length e in let y = length-append u v in omega arith)

pub local_pure : {A : Type 0} (x : A) → Local (λ ts. Got x ts)
local_pure x = record {
  suffix = λ ts. ([], refl);
  blind = λ u t v w e. let none = nothing_left u (t ∷ v) e in ap (λ u. Got x (u ++ t ∷ w)) none;
}

pub local_bad : {A : Type 0} (k : Fault) → Local (bad {A = A} k)
local_bad k = record {
  suffix = λ ts. ([], refl);
  blind = λ u t v w e. let none = nothing_left u (t ∷ v) e in ap (λ u. Bad k (u ++ t ∷ w)) none;
}

pub local_same : {A : Type 0} (p q : Reader A) → ((ts : Tokens) → p ts ≡ q ts) → Local q → Local p
local_same p q e l = record {
  suffix = λ ts. let y = l.suffix ts in (y.0, y.1 ∙ ap (λ s. y.0 ++ rest_of s) (sym (e ts)));
  blind = λ u t v w r. e (u ++ t ∷ w) ∙ l.blind u t v w (ap rest_of (sym (e (u ++ t ∷ v))) ∙ r) ∙ ap (λ s. before s (t ∷ w)) (sym (e (u ++ t ∷ v)));
}

-- ---- one token

abbrev one_by : {A : Type 0} → Option A → Token → Reader A
one_by None t ts = Bad Syntax (t ∷ ts)
one_by (Some x) t ts = Got x ts

abbrev one : {A : Type 0} → (Token → Option A) → Reader A
one f [] = Bad Syntax []
one f (t ∷ ts) = one_by (f t) t ts

one_suffix : {A : Type 0} (o : Option A) (t : Token) (ts : Tokens) → (u : Tokens) × (t ∷ ts ≡ u ++ rest_of (one_by o t ts))
one_suffix None t ts = ([], refl)
one_suffix (Some x) t ts = (t ∷ [], refl)

one_blind : {A : Type 0} (o : Option A) (a : Token) (u : Tokens) (t : Token) (v w : Tokens) → rest_of (one_by o a (u ++ t ∷ v)) ≡ t ∷ v → one_by o a (u ++ t ∷ w) ≡ before (one_by o a (u ++ t ∷ v)) (t ∷ w)
one_blind None a u t v w e = absurd (let z : a ∷ u ≡ [] = nothing_left (a ∷ u) (t ∷ v) e in cc)
one_blind (Some x) a u t v w e = let none = nothing_left u (t ∷ v) e in ap (λ u. Got x (u ++ t ∷ w)) none

first_blind : {A : Type 0} (o : Option A) (t : Token) (v w : Tokens) → rest_of (one_by o t v) ≡ t ∷ v → one_by o t w ≡ before (one_by o t v) (t ∷ w)
first_blind None t v w e = refl
first_blind (Some x) t v w e = absurd (let z = ap length e in omega arith)

-- what was got took a token at least
pub record Takes {A : Type 0} (p : Reader A) : Type 0 where
  pub shorter : (ts : Tokens) (x : A) (rest : Tokens) → p ts ≡ Got x rest → length rest < length ts

one_shorter : {A : Type 0} (o : Option A) (t : Token) (ts : Tokens) (x : A) (rest : Tokens) → one_by o t ts ≡ Got x rest → length rest < suc (length ts)
one_shorter None t ts x rest e = absurd (cc)
one_shorter (Some y) t ts x rest e = let same : ts ≡ rest = cc in let z = ap length same in omega arith

module _ {A : Type 0} (p : Reader A) (f : Token → Option A) (same : (ts : Tokens) → p ts ≡ one f ts) where
  one_local : Local (one f)
  one_local = record { suffix = suffix; blind = blind }
    where
      suffix : (ts : Tokens) → (u : Tokens) × (ts ≡ u ++ rest_of (one f ts))
      suffix [] = ([], refl)
      suffix (t ∷ ts) = one_suffix (f t) t ts

      blind : (u : Tokens) (t : Token) (v w : Tokens) → rest_of (one f (u ++ t ∷ v)) ≡ t ∷ v → one f (u ++ t ∷ w) ≡ before (one f (u ++ t ∷ v)) (t ∷ w)
      blind [] t v w e = first_blind (f t) t v w e
      blind (a ∷ u) t v w e = one_blind (f a) a u t v w e

  token_local : Local p
  token_local = local_same p (one f) same one_local

  token_takes : Takes p
  token_takes = record { shorter = shorter }
    where
      shorter : (ts : Tokens) (x : A) (rest : Tokens) → p ts ≡ Got x rest → length rest < length ts
      shorter [] x rest e = absurd (let z : Bad Syntax [] ≡ Got x rest = sym (same []) ∙ e in cc)
      shorter (t ∷ ts) x rest e = one_shorter (f t) t ts x rest (sym (same (t ∷ ts)) ∙ e)

-- a reader of one token
pub record OneToken {A : Type 0} (p : Reader A) : Type 0 where
  pub local : Local p
  pub takes : Takes p

one_token : {A : Type 0} (p : Reader A) (f : Token → Option A) → ((ts : Tokens) → p ts ≡ one f ts) → OneToken p
one_token p f same = record { local = token_local p f same; takes = token_takes p f same }

pub one_skip : OneToken skip
one_skip = one_token skip (λ t. Some t.at) by_tokens
  where
    by_tokens : (ts : Tokens) → skip ts ≡ one (λ t. Some t.at) ts
    by_tokens [] = refl
    by_tokens (t ∷ ts) = refl

abbrev name_in : Token → TokenKind → Option (Text × Place)
name_in t (kind.Ident x) = Some (x, t.at)
name_in t _ = None

pub one_name : OneToken name
unfolding name
one_name = one_token name (λ t. name_in t t.kind) by_tokens
  where
    by_kind : (t : Token) (ts : Tokens) (k : TokenKind) → name_by t ts k ≡ one_by (name_in t k) t ts
    by_kind t ts (kind.Ident x) = refl
    by_kind t ts _ = refl

    by_tokens : (ts : Tokens) → name ts ≡ one (λ t. name_in t t.kind) ts
    by_tokens [] = refl
    by_tokens (t ∷ ts) = by_kind t ts t.kind

abbrev number_in : Token → TokenKind → Option (ℕ × Place)
number_in t (kind.Number n) = Some (n, t.at)
number_in t _ = None

pub one_number : OneToken number
unfolding number
one_number = one_token number (λ t. number_in t t.kind) by_tokens
  where
    by_kind : (t : Token) (ts : Tokens) (k : TokenKind) → number_by t ts k ≡ one_by (number_in t k) t ts
    by_kind t ts (kind.Number n) = refl
    by_kind t ts _ = refl

    by_tokens : (ts : Tokens) → number ts ≡ one (λ t. number_in t t.kind) ts
    by_tokens [] = refl
    by_tokens (t ∷ ts) = by_kind t ts t.kind

pub one_want : (x : TokenClass) → OneToken (want x)
unfolding want
one_want x = one_token (want x) (λ t. cond (same_class (class t) x) (Some t.at) None) by_tokens
  where
    by_tokens : (ts : Tokens) → want x ts ≡ one (λ t. cond (same_class (class t) x) (Some t.at) None) ts
    by_tokens [] = elim (same_class s.Other x) as (λ b. cond {A = Reader Place} b skip (bad Syntax) [] ≡ Bad Syntax []) [ true ↦ refl | false ↦ refl ]
    by_tokens (t ∷ ts) = elim (same_class (class t) x) as (λ b. cond {A = Reader Place} b skip (bad Syntax) (t ∷ ts) ≡ one_by (cond b (Some t.at) None) t ts) [ true ↦ refl | false ↦ refl ]

-- ---- one reader after another

module _ {A B : Type 0} (p : Reader A) (f : A → Reader B) (lp : Local p) (lf : (x : A) → Local (f x)) where
  bind_suffix : (ts : Tokens) (u : Tokens) (s : Step A) → ts ≡ u ++ rest_of s → (v : Tokens) × (ts ≡ v ++ rest_of (and_then s f))
  bind_suffix ts u (Got x rest) e = let y = (lf x).suffix rest in (u ++ y.0, e ∙ ap (λ r. u ++ r) y.1 ∙ sym (append_assoc u y.0 (rest_of (f x rest))))
  bind_suffix ts u (Bad k rest) e = (u, e)

  -- p has read the first part, and f the second
  after : (first second : Tokens) (t : Token) (v w : Tokens) (x : A) → p (first ++ (second ++ t ∷ v)) ≡ Got x (second ++ t ∷ v) → rest_of (f x (second ++ t ∷ v)) ≡ t ∷ v
      → and_then (p (first ++ (second ++ t ∷ w))) f ≡ before (f x (second ++ t ∷ v)) (t ∷ w)
  after first [] t v w x e r = ap (λ s. and_then s f) (lp.blind first t v w (ap rest_of e) ∙ ap (λ s. before s (t ∷ w)) e) ∙ (lf x).blind [] t v w r
  after first (a ∷ second) t v w x e r =
      ap (λ s. and_then s f) (lp.blind first a (second ++ t ∷ v) (second ++ t ∷ w) (ap rest_of e) ∙ ap (λ s. before s (a ∷ second ++ t ∷ w)) e) ∙ (lf x).blind (a ∷ second) t v w r

  bind_blind : (u : Tokens) (t : Token) (v w : Tokens) (s : Step A) (first : Tokens) → p (u ++ t ∷ v) ≡ s → u ++ t ∷ v ≡ first ++ rest_of s → rest_of (and_then s f) ≡ t ∷ v
      → and_then (p (u ++ t ∷ w)) f ≡ before (and_then s f) (t ∷ w)
  bind_blind u t v w (Bad k rest) first e split r = ap (λ s. and_then s f) (lp.blind u t v w (ap rest_of e ∙ r) ∙ ap (λ s. before s (t ∷ w)) e)
  bind_blind u t v w (Got x rest) first e split r =
      let y = (lf x).suffix rest in
      let rest_is : rest ≡ y.0 ++ t ∷ v = y.1 ∙ ap (λ r. y.0 ++ r) r in
      let whole : u ++ t ∷ v ≡ (first ++ y.0) ++ t ∷ v = split ∙ ap (λ r. first ++ r) rest_is ∙ sym (append_assoc first y.0 (t ∷ v)) in
      let parts : u ≡ first ++ y.0 = append_cancel_right u (first ++ y.0) (t ∷ v) whole in
      let at : (z : Tokens) → u ++ z ≡ first ++ (y.0 ++ z) = λ z. ap (λ u. u ++ z) parts ∙ append_assoc first y.0 z in
      let reads : p (first ++ (y.0 ++ t ∷ v)) ≡ Got x (y.0 ++ t ∷ v) = ap p (sym (at (t ∷ v))) ∙ e ∙ ap (λ r. Got x r) rest_is in
      let stands : rest_of (f x (y.0 ++ t ∷ v)) ≡ t ∷ v = ap (λ z. rest_of (f x z)) (sym rest_is) ∙ r in
      ap (λ z. and_then (p z) f) (at (t ∷ w)) ∙ after first y.0 t v w x reads stands ∙ ap (λ z. before (f x z) (t ∷ w)) (sym rest_is)

  pub local_bind : Local (λ ts. and_then (p ts) f)
  local_bind = record {
    suffix = λ ts. let y = lp.suffix ts in bind_suffix ts y.0 (p ts) y.1;
    blind = λ u t v w r. let y = lp.suffix (u ++ t ∷ v) in bind_blind u t v w (p (u ++ t ∷ v)) y.0 refl y.1 r;
  }

  pub takes_bind : Takes p → Takes (λ ts. and_then (p ts) f)
  takes_bind takes = record { shorter = λ ts x rest e. by_step ts (p ts) refl x rest e }
    where
      by_step : (ts : Tokens) (s : Step A) → p ts ≡ s → (x : B) (rest : Tokens) → and_then s f ≡ Got x rest → length rest < length ts
      by_step ts (Bad k r) g x rest e = absurd (cc)
      by_step ts (Got y r) g x rest e =
          let less : length r < length ts = takes.shorter ts y r g in
          let z = (lf y).suffix r in
          let size = ap length (z.1 ∙ ap (λ s. z.0 ++ rest_of s) e) in
          let sum = length-append z.0 rest in
          omega arith

look_blind : {A : Type 0} (f : Option Token → Reader A) → ((o : Option Token) → Local (f o)) → (u : Tokens) (t : Token) (v w : Tokens) → rest_of (f (ahead (u ++ t ∷ v)) (u ++ t ∷ v)) ≡ t ∷ v
    → f (ahead (u ++ t ∷ w)) (u ++ t ∷ w) ≡ before (f (ahead (u ++ t ∷ v)) (u ++ t ∷ v)) (t ∷ w)
look_blind f lf [] t v w e = (lf (Some t)).blind [] t v w e
look_blind f lf (a ∷ u) t v w e = (lf (Some a)).blind (a ∷ u) t v w e

pub local_look : {A : Type 0} (f : Option Token → Reader A) → ((o : Option Token) → Local (f o)) → Local (λ ts. f (ahead ts) ts)
local_look f lf = record { suffix = λ ts. (lf (ahead ts)).suffix ts; blind = look_blind f lf }

pub local_if : {A : Type 0} (b : Bool) (p q : Reader A) → Local p → Local q → Local (cond b p q)
local_if true p q lp lq = lp
local_if false p q lp lq = lq

pub local_deeper : {A : Type 0} (d : ℕ) (p : Reader A) → Local p → Local (deeper d p)
local_deeper zero p lp = local_bad Deep
local_deeper (suc d) p lp = lp

-- ---- items

module _ {A B : Type 0} (begins : TokenClass → Bool) (item : Reader A) (add : B → A → B) where
  pub local_many : Local item → (n : ℕ) (acc : B) → Local (many begins item add n acc)
  unfolding many
  local_many li zero acc = local_bad Syntax
  local_many li (suc n) acc = local_look _ (λ t. by_test (begins (class_of t)) (λ x. local_many li n (add acc x)))
    where
      by_test : (b : Bool) → ((x : A) → Local (many begins item add n (add acc x))) → Local (cond {A = Reader B} b (λ ts. and_then (item ts) (λ x. many begins item add n (add acc x))) (λ ts. Got acc ts))
      by_test true next = local_bind item _ li next
      by_test false next = local_pure acc

  -- the number of turns doesn't matter where it is above the number of tokens
  many_fuel : Takes item → (n m : ℕ) (acc : B) (ts : Tokens) → length ts < n → length ts < m → many begins item add n acc ts ≡ many begins item add m acc ts
  unfolding many
  many_fuel takes zero m acc ts h k = absurd (omega arith)
  many_fuel takes (suc n) zero acc ts h k = absurd (omega arith)
  many_fuel takes (suc n) (suc m) acc ts h k = by_test (begins (class_of (ahead ts))) (λ x rest less. many_fuel takes n m (add acc x) rest (omega arith) (omega arith))
    where
      by_step : (s : Step A) → item ts ≡ s → ((x : A) (rest : Tokens) → length rest < length ts → many begins item add n (add acc x) rest ≡ many begins item add m (add acc x) rest)
          → and_then s (λ x. many begins item add n (add acc x)) ≡ and_then s (λ x. many begins item add m (add acc x))
      by_step (Got x rest) e next = next x rest (takes.shorter ts x rest e)
      by_step (Bad k rest) e next = refl

      by_test : (b : Bool) → ((x : A) (rest : Tokens) → length rest < length ts → many begins item add n (add acc x) rest ≡ many begins item add m (add acc x) rest)
          → cond {A = Reader B} b (λ ts. and_then (item ts) (λ x. many begins item add n (add acc x))) (λ ts. Got acc ts) ts ≡ cond {A = Reader B} b (λ ts. and_then (item ts) (λ x. many begins item add m (add acc x))) (λ ts. Got acc ts) ts
      by_test true next = by_step (item ts) refl next
      by_test false next = refl

  pub local_all : Takes item → Local item → (acc : B) → Local (all begins item add acc)
  local_all takes li acc = record {
    suffix = λ ts. (local_many li (suc (length ts)) acc).suffix ts;
    blind = λ u t v w e.
        let a = u ++ t ∷ v in
        let b = u ++ t ∷ w in
        let n : ℕ = suc (length a) + suc (length b) in
        let left : many begins item add (suc (length a)) acc a ≡ many begins item add n acc a = many_fuel takes (suc (length a)) n acc a (omega arith) (omega arith) in
        let right : many begins item add (suc (length b)) acc b ≡ many begins item add n acc b = many_fuel takes (suc (length b)) n acc b (omega arith) (omega arith) in
        right ∙ (local_many li n acc).blind u t v w (ap rest_of (sym left) ∙ e) ∙ ap (λ s. before s (t ∷ w)) (sym left);
  }
