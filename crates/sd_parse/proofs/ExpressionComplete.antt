-- What is spelled is read, whatever follows that doesn't go on with it.
use Rattle.std.proofs.Common.{◌≡◌, ℕ, zero, suc, ◌+◌, ◌<◌, ◌≤◌, max, true, false, List, [], ◌∷◌, ◌++◌, length, refl, ap, sym, ◌∙◌, subst, arith, append_assoc}
use Rattle.std.specs.Prelude.{Bool, Some, None, nat_lt}
use Rattle.std.proofs.lemmas.Bool.Decides.{nat_tests}
use Rattle.std.proofs.lemmas.List.{append-nil}
use denote.Enum.Bare.{true_same}
use Rattle.sd_base.specs.declared.Place.{Place}
use Rattle.sd_base.specs.Value.{Text}
use Rattle.sd_lex.specs.declared.Token.{Token}
use Rattle.sd_ast.specs.declared.Expr.{Expr}
use Rattle.sd_ast.specs.declared.ExprKind.{Var, Apply, Old, Unary, Binary, Select, Store}
use Rattle.sd_ast.specs.declared.UnOp.{UnOp}
use Rattle.sd_ast.specs.declared.BinOp.{BinOp}
use Rattle.sd_ast.specs.declared.BinOp.TheVariants as op
use Rattle.sd_parse.specs.declared.class.TokenClass.{TokenClass}
use Rattle.sd_parse.specs.declared.class.TokenClass.TheVariants as s
use Rattle.sd_parse.specs.contracts.class.TokenClass.{the_type}
use Rattle.sd_parse.specs.TokenClasses.{class, class_of_kind, same_class}
use Rattle.sd_parse.specs.Grammar as g
use Rattle.sd_parse.specs.Grammar.{Tokens, Level, Whole, Implication, Right, Explied, Junction, Conjunction, Disjunction, Relation, Sum, Product, Prefix, Postfix, Atom, Phrase, Arguments, Expressions, Is, IsName, IsNumber, repeated, operand, has_operand, compares, prefixes, placed}
use Rattle.sd_parse.specs.Reading as spec
use Rattle.sd_parse.specs.Reading.{Step, Got, Bad, Reader, and_then, ahead, class_of, skip, want, begins, name_by, name, number_by, number, MeasuredExpr, Group, add, comma, opens_bracket, deeper, next_expression, more_expressions, expressions, arguments_by, arguments, application, named_by, indexed_by, indexed, bracket_by, bracket, brackets_by, brackets, parenthesized, atom_by, atom, prefixed, prefix, operation, turn, turns, product, sum, relation, junction_by, junction, right_by, right, implication_by, implication, whole, layer, read}
use Rattle.sd_parse.proofs.Texts as r
use Rattle.sd_parse.proofs.Texts.{Repeat}
use Rattle.sd_parse.proofs.Heights.{positive_height}
use Rattle.sd_parse.proofs.Lists.{all_complete}

-- ---- tokens

pub same_classes : (a b : TokenClass) → a ≡ b → same_class a b ≡ true
unfolding same_class
same_classes a b e = true_same the_type a b e

pub want_reads : (x : TokenClass) (t : Token) (rest : Tokens) → Is x t → want x (t ∷ rest) ≡ Got t.at rest
unfolding want
want_reads x t rest i = rw (same_classes (class t) x i.same) refl

pub name_reads : (x : Text) (t : Token) (rest : Tokens) → IsName x t → name (t ∷ rest) ≡ Got (x, t.at) rest
unfolding name
name_reads x t rest i = ap (name_by t rest) i.same

pub number_reads : (n : ℕ) (t : Token) (rest : Tokens) → IsNumber n t → number (t ∷ rest) ≡ Got (n, t.at) rest
unfolding number
number_reads n t rest i = ap (number_by t rest) i.same

pub name_class : (x : Text) (t : Token) → IsName x t → class t ≡ s.Name
unfolding class_of_kind
name_class x t i = ap class_of_kind i.same

pub number_class : (n : ℕ) (t : Token) → IsNumber n t → class t ≡ s.Number
unfolding class_of_kind
number_class n t i = ap class_of_kind i.same

-- how loosely a class goes on with what stands before it
abbrev pub rank : TokenClass → ℕ
rank s.Open = 0
rank s.OpenBracket = 1
rank s.Star = 2
rank s.Plus = 3
rank s.Minus = 3
rank s.Equal = 4
rank s.Unequal = 4
rank s.Less = 4
rank s.AtMost = 4
rank s.Greater = 4
rank s.AtLeast = 4
rank s.And = 5
rank s.Or = 5
rank s.Implies = 6
rank s.Explies = 6
rank s.Iff = 7
rank _ = 8

-- the loosest class that may go on with a phrase of the level
abbrev pub limit : Level → ℕ
limit Atom = 0
limit Postfix = 1
limit Prefix = 1
limit Product = 2
limit Sum = 3
limit Relation = 4
limit Conjunction = 5
limit Disjunction = 5
limit Junction = 5
limit Explied = 6
limit Right = 6
limit Implication = 6
limit Whole = 7

-- What follows doesn't go on with a phrase of the level.
pub record Stops (l : Level) (rest : Tokens) : Type 0 where
  pub looser : limit l < rank (class_of (ahead rest))

-- a junction goes on with no `==>`
before_implies : (t : Token) (rest : Tokens) → Is s.Implies t → Stops Junction (t ∷ rest)
before_implies t rest i = record { looser = rw i.same (omega arith) }

repeated_has : (l : Level) (x : TokenClass) (f : BinOp) → repeated l x ≡ Some f → has_operand l ≡ true
repeated_has Whole x f e = refl
repeated_has _ x f e = cc

repeated_rank : (l : Level) (x : TokenClass) (f : BinOp) → repeated l x ≡ Some f → limit (operand l) < rank x
repeated_rank Whole s.Iff f e = omega arith
repeated_rank Explied s.Explies f e = omega arith
repeated_rank Conjunction s.And f e = omega arith
repeated_rank Disjunction s.Or f e = omega arith
repeated_rank Sum s.Plus f e = omega arith
repeated_rank Sum s.Minus f e = omega arith
repeated_rank Product s.Star f e = omega arith
repeated_rank _ _ f e = absurd (cc)

no_operator : (l : Level) (x : TokenClass) → limit l < rank x → repeated l x ≡ None
no_operator Whole s.Iff h = absurd (omega arith)
no_operator Explied s.Explies h = absurd (omega arith)
no_operator Conjunction s.And h = absurd (omega arith)
no_operator Disjunction s.Or h = absurd (omega arith)
no_operator Sum s.Plus h = absurd (omega arith)
no_operator Sum s.Minus h = absurd (omega arith)
no_operator Product s.Star h = absurd (omega arith)
no_operator _ _ h = refl

lower : (l : Level) → has_operand l ≡ true → limit (operand l) < limit l
lower Whole e = omega arith
lower _ e = first_of (omega arith, cc)

no_comparison : (x : TokenClass) → 4 < rank x → compares x ≡ None
no_comparison s.Equal h = absurd (omega arith)
no_comparison _ h = first_of (cc, grind arith)

compares_rank : (x : TokenClass) (f : BinOp) → compares x ≡ Some f → 3 < rank x
compares_rank s.Equal f e = omega arith
compares_rank _ f e = first_of (omega arith, cc)

-- the levels of atoms and brackets
abbrev is_low : Level → Bool
is_low Atom = true
is_low Postfix = true
is_low _ = false

abbrev has_brackets : Level → Bool
has_brackets Postfix = true
has_brackets _ = false

low_operand : (l : Level) → is_low l ≡ true → has_operand l ≡ true → ⊥
low_operand Atom e f = cc
low_operand Postfix e f = cc
low_operand _ e f = cc

brackets_operand : (l : Level) → has_brackets l ≡ true → has_operand l ≡ true → ⊥
brackets_operand Postfix e f = cc
brackets_operand _ e f = cc

-- none begins as a prefixed phrase does
postfix_first : {l : Level} {u : Tokens} {e : Expr} {h : ℕ} {p : Place} (rest : Tokens) → is_low l ≡ true → Phrase l u e h p → prefixes (class_of (ahead (u ++ rest))) ≡ None
postfix_first rest low (g.number {t = t} {n = n} i) = ap prefixes (number_class n t i)
postfix_first rest low (g.yes i) = ap prefixes i.same
postfix_first rest low (g.no i) = ap prefixes i.same
postfix_first rest low (g.name {t = t} {x = x} i) = ap prefixes (name_class x t i)
postfix_first rest low (g.application {t = t} {x = x} i o a c) = ap prefixes (name_class x t i)
postfix_first rest low (g.old i o p c) = ap prefixes i.same
postfix_first rest low (g.parens o p c) = ap prefixes o.same
postfix_first rest low (g.atom q) = postfix_first rest refl q
postfix_first rest low (g.select {o = o} {c = c} {u = u} {v = v} q i r j) = ap (λ z. prefixes (class_of (ahead z))) (append_assoc u (o ∷ (v ++ c ∷ [])) rest) ∙ postfix_first ((o ∷ (v ++ c ∷ [])) ++ rest) refl q
postfix_first rest low (g.store {o = o} {b = b} {c = c} {u = u} {v = v} {w = w} q i r k y j) =
    ap (λ z. prefixes (class_of (ahead z))) (append_assoc u (o ∷ (v ++ b ∷ (w ++ c ∷ []))) rest) ∙ postfix_first ((o ∷ (v ++ b ∷ (w ++ c ∷ []))) ++ rest) refl q
postfix_first rest low (g.postfix q) = absurd (cc)
postfix_first rest low (g.unary f q) = absurd (cc)
postfix_first rest low (g.only {l = l} has p) = absurd (low_operand l low has)
postfix_first rest low (g.repeat {l = l} {t = t} {f = f} p o q) = absurd (low_operand l low (repeated_has l (class t) f o.operator))
postfix_first rest low (g.sum q) = absurd (cc)
postfix_first rest low (g.compare p f q) = absurd (cc)
postfix_first rest low (g.all q) = absurd (cc)
postfix_first rest low (g.any q) = absurd (cc)
postfix_first rest low (g.last q) = absurd (cc)
postfix_first rest low (g.right p t q) = absurd (cc)
postfix_first rest low (g.implies q) = absurd (cc)
postfix_first rest low (g.explied q) = absurd (cc)

prefix_begins : (x : TokenClass) (f : UnOp) → prefixes x ≡ Some f → begins x ≡ true
prefix_begins s.Not f e = refl
prefix_begins s.Minus f e = refl
prefix_begins _ f e = absurd (cc)

-- each phrase begins with a token that begins one
pub phrase_first : {l : Level} {u : Tokens} {e : Expr} {h : ℕ} {p : Place} (rest : Tokens) → Phrase l u e h p → begins (class_of (ahead (u ++ rest))) ≡ true
phrase_first rest (g.number {t = t} {n = n} i) = ap begins (number_class n t i)
phrase_first rest (g.yes i) = ap begins i.same
phrase_first rest (g.no i) = ap begins i.same
phrase_first rest (g.name {t = t} {x = x} i) = ap begins (name_class x t i)
phrase_first rest (g.application {t = t} {x = x} i o a c) = ap begins (name_class x t i)
phrase_first rest (g.old i o p c) = ap begins i.same
phrase_first rest (g.parens o p c) = ap begins o.same
phrase_first rest (g.atom q) = phrase_first rest q
phrase_first rest (g.select {o = o} {c = c} {u = u} {v = v} q i r j) = ap (λ z. begins (class_of (ahead z))) (append_assoc u (o ∷ (v ++ c ∷ [])) rest) ∙ phrase_first ((o ∷ (v ++ c ∷ [])) ++ rest) q
phrase_first rest (g.store {o = o} {b = b} {c = c} {u = u} {v = v} {w = w} q i r k y j) =
    ap (λ z. begins (class_of (ahead z))) (append_assoc u (o ∷ (v ++ b ∷ (w ++ c ∷ []))) rest) ∙ phrase_first ((o ∷ (v ++ b ∷ (w ++ c ∷ []))) ++ rest) q
phrase_first rest (g.postfix q) = phrase_first rest q
phrase_first rest (g.unary {t = t} {f = f} o q) = prefix_begins (class t) f o.operator
phrase_first rest (g.only has q) = phrase_first rest q
phrase_first rest (g.repeat {t = t} {u = u} {v = v} p o q) = ap (λ z. begins (class_of (ahead z))) (append_assoc u (t ∷ v) rest) ∙ phrase_first ((t ∷ v) ++ rest) p
phrase_first rest (g.sum q) = phrase_first rest q
phrase_first rest (g.compare {t = t} {u = u} {v = v} p o q) = ap (λ z. begins (class_of (ahead z))) (append_assoc u (t ∷ v) rest) ∙ phrase_first ((t ∷ v) ++ rest) p
phrase_first rest (g.all q) = phrase_first rest q
phrase_first rest (g.any q) = phrase_first rest q
phrase_first rest (g.last q) = phrase_first rest q
phrase_first rest (g.right {t = t} {u = u} {v = v} p o q) = ap (λ z. begins (class_of (ahead z))) (append_assoc u (t ∷ v) rest) ∙ phrase_first ((t ∷ v) ++ rest) p
phrase_first rest (g.implies q) = phrase_first rest q
phrase_first rest (g.explied q) = phrase_first rest q

pub expressions_first : {u : Tokens} {es : List Expr} {h : ℕ} (rest : Tokens) → Expressions u es h → begins (class_of (ahead (u ++ rest))) ≡ true
expressions_first rest (g.one q) = phrase_first rest q
expressions_first rest (g.more {c = c} {u = u} {v = v} q i m) = ap (λ z. begins (class_of (ahead z))) (append_assoc u (c ∷ v) rest) ∙ phrase_first ((c ∷ v) ++ rest) q

some_arguments : (d : ℕ) (inner : Level → Reader MeasuredExpr) (x : TokenClass) (ts : Tokens) → begins x ≡ true → arguments_by d inner x ts ≡ expressions d inner ts
some_arguments d inner s.Close ts e = absurd (cc)
some_arguments d inner _ ts e = refl

name_alone : (d : ℕ) (inner : Level → Reader MeasuredExpr) (x : Text × Place) (y : TokenClass) (ts : Tokens) → 0 < rank y → named_by d inner x y ts ≡ Got (placed x.1 (Var x.0), 1, x.1) ts
name_alone d inner x s.Open ts h = absurd (omega arith)
name_alone d inner x _ ts h = refl

no_bracket : (x : TokenClass) → 1 < rank x → opens_bracket x ≡ false
no_bracket s.OpenBracket h = absurd (omega arith)
no_bracket _ h = refl

-- ---- expressions with commas between them

-- a comma and an expression
data CommaAnd (d : ℕ) : Tokens → MeasuredExpr → Type 0 where
  comma_and : {c : Token} {u : Tokens} {e : Expr} {h : ℕ} {p : Place} → Is s.Comma c → Phrase Whole u e h p → h ≤ d → CommaAnd d (c ∷ u) (e, h, p)

-- the expressions of a list, as they are read after others
spread : {d : ℕ} {v : Tokens} {es : List Expr} {k : ℕ} → Expressions v es k → k ≤ d → (c : Token) → Is s.Comma c → (xs : Group) → Repeat (CommaAnd d) comma add xs (c ∷ v) (xs.0 ++ es, max xs.1 k)
spread {d = d} {v = v} (g.one {e = e} {h = h} {p = p} q) low c i xs =
    subst (λ z. Repeat (CommaAnd d) comma add xs z (xs.0 ++ e ∷ [], max xs.1 h)) (append-nil (c ∷ v)) (r.more {x = (e, h, p)} (comma_and i q low) r.none)
spread {d = d} (g.more {c = o} {u = u} {v = v} {e = e} {es = es} {h = h} {k = k} {p = p} q j m) low c i xs =
    let high : max (max xs.1 h) k ≡ max xs.1 (max h k) = omega arith in
    subst (λ n. Repeat (CommaAnd d) comma add xs (c ∷ u ++ o ∷ v) (xs.0 ++ e ∷ es, n)) high
    (subst (λ es. Repeat (CommaAnd d) comma add xs (c ∷ u ++ o ∷ v) (es, max (max xs.1 h) k)) (append_assoc xs.0 (e ∷ []) es)
    (r.more {x = (e, h, p)} (comma_and i q (omega arith)) (spread m (omega arith) o j (add xs (e, h, p)))))

comma_some : (d : ℕ) (u : Tokens) (x : MeasuredExpr) → CommaAnd d u x → 0 < length u
comma_some d u x (comma_and i q low) = omega arith

comma_first : (d : ℕ) (u : Tokens) (x : MeasuredExpr) (rest : Tokens) → CommaAnd d u x → comma (class_of (ahead (u ++ rest))) ≡ true
comma_first d u x rest (comma_and i q low) = ap comma i.same

comma_ends : (x : TokenClass) → comma x ≡ true → 7 < rank x
comma_ends s.Comma e = omega arith
comma_ends _ e = absurd (cc)

module _ (d : ℕ) (inner : Level → Reader MeasuredExpr)
    (completes : (l : Level) (u : Tokens) (e : Expr) (h : ℕ) (p : Place) (rest : Tokens) → Phrase l u e h p → h ≤ d → Stops l rest → inner l (u ++ rest) ≡ Got (e, h, p) rest) where
  layer_chain : (l : Level) → has_operand l ≡ true → (ts : Tokens) → layer d inner l ts ≡ and_then (layer d inner (operand l) ts) (turns d inner (suc d) l)
  unfolding whole sum product
  layer_chain Whole e ts = refl
  layer_chain Explied e ts = refl
  layer_chain Conjunction e ts = refl
  layer_chain Disjunction e ts = refl
  layer_chain Sum e ts = refl
  layer_chain Product e ts = refl
  layer_chain _ e ts = absurd (cc)

  turns_stop : (n : ℕ) (l : Level) (x : MeasuredExpr) (rest : Tokens) → 0 < n → repeated l (class_of (ahead rest)) ≡ None → turns d inner n l x rest ≡ Got x rest
  unfolding turns
  turns_stop zero l x rest pos e = absurd (omega arith)
  turns_stop (suc n) l x rest pos e = rw e refl

  brackets_stop : (n : ℕ) (x : MeasuredExpr) (rest : Tokens) → 0 < n → opens_bracket (class_of (ahead rest)) ≡ false → brackets d inner n x rest ≡ Got x rest
  unfolding brackets
  brackets_stop zero x rest pos e = absurd (omega arith)
  brackets_stop (suc n) x rest pos e = rw e refl

  operation_reads : (l : Level) (next : MeasuredExpr → Reader MeasuredExpr) (f : BinOp) (t : Token) (a b : Expr) (h k : ℕ) (i j : Place) (v rest : Tokens) → suc (max h k) ≤ suc d → Phrase l v b k j → Stops l rest
      → operation d inner l next (a, h, i) f (t ∷ v ++ rest) ≡ next (placed i (Binary f a b), suc (max h k), i) rest
  unfolding operation
  operation_reads l next f t a b h k i j v rest low p stops =
      let test : nat_lt h (suc d) ≡ true = grind (arith, nat_tests) in
      let read : inner l (v ++ rest) ≡ Got (b, k, j) rest = completes l v b k j rest p (omega arith) stops in
      rw (test, read) refl

  turns_read : (n : ℕ) (l : Level) (f : BinOp) (t : Token) (a b : Expr) (h k : ℕ) (i j : Place) (v rest : Tokens) → suc (suc d) ≤ h + n → repeated l (class t) ≡ Some f → suc (max h k) ≤ suc d → Phrase (operand l) v b k j → Stops (operand l) rest
      → (m : ℕ) × (suc (suc d) ≤ suc (max h k) + m) × (turns d inner n l (a, h, i) (t ∷ v ++ rest) ≡ turns d inner m l (placed i (Binary f a b), suc (max h k), i) rest)
  unfolding turns
  turns_read zero l f t a b h k i j v rest room e low p stops = absurd (omega arith)
  turns_read (suc n) l f t a b h k i j v rest room e low p stops = (n, omega arith, rw e (operation_reads (operand l) (turns d inner n l) f t a b h k i j v rest low p stops))

  -- what the reader gives at a phrase: its value where it stops, and before a repeated operator the turn that is next
  record Reads (l : Level) (u : Tokens) (e : Expr) (h : ℕ) (p : Place) : Type 0 where
    alone : (rest : Tokens) → Stops l rest → layer d inner l (u ++ rest) ≡ Got (e, h, p) rest
    spine : has_operand l ≡ true → (rest : Tokens) → Stops (operand l) rest → (n : ℕ) × (suc (suc d) ≤ h + n) × (layer d inner l (u ++ rest) ≡ turns d inner n l (e, h, p) rest)
    bracketed : has_brackets l ≡ true → (rest : Tokens) → Stops Atom rest → (n : ℕ) × (suc (suc d) ≤ h + n) × (layer d inner l (u ++ rest) ≡ brackets d inner n (e, h, p) rest)

  from_spine : (l : Level) (u : Tokens) (e : Expr) (h : ℕ) (p : Place) → h ≤ suc d → has_operand l ≡ true
      → ((rest : Tokens) → Stops (operand l) rest → (n : ℕ) × (suc (suc d) ≤ h + n) × (layer d inner l (u ++ rest) ≡ turns d inner n l (e, h, p) rest)) → Reads l u e h p
  from_spine l u e h p low has spine = record {
    alone = λ rest stops.
        let z = lower l has in
        let w = stops.looser in
        let r = spine rest (record { looser = omega arith }) in
        r.2 ∙ turns_stop r.0 l (e, h, p) rest (let room = r.1 in omega arith) (no_operator l (class_of (ahead rest)) stops.looser);
    spine = λ _. spine;
    bracketed = λ yes. absurd (brackets_operand l yes has);
  }

  from_brackets : (u : Tokens) (e : Expr) (h : ℕ) (p : Place) → h ≤ suc d → ((rest : Tokens) → Stops Atom rest → (n : ℕ) × (suc (suc d) ≤ h + n) × (layer d inner Postfix (u ++ rest) ≡ brackets d inner n (e, h, p) rest)) → Reads Postfix u e h p
  from_brackets u e h p low bracketed = record {
    alone = λ rest stops.
        let w = stops.looser in
        let r = bracketed rest (record { looser = omega arith }) in
        r.2 ∙ brackets_stop r.0 (e, h, p) rest (let room = r.1 in omega arith) (no_bracket (class_of (ahead rest)) stops.looser);
    spine = λ yes. absurd (let z : true ≡ false = sym yes in cc);
    bracketed = λ _. bracketed;
  }

  no_spine : (l : Level) (u : Tokens) (e : Expr) (h : ℕ) (p : Place) → has_operand l ≡ false → has_brackets l ≡ false → ((rest : Tokens) → Stops l rest → layer d inner l (u ++ rest) ≡ Got (e, h, p) rest) → Reads l u e h p
  no_spine l u e h p has none alone = record { alone = alone; spine = λ yes. absurd (let z : true ≡ false = sym yes ∙ has in cc); bracketed = λ yes. absurd (let z : true ≡ false = sym yes ∙ none in cc) }

  one_token : (t : Token) (x : TokenClass) (rest : Tokens) (y : Step MeasuredExpr) → (class t) ≡ x → atom_by d inner x (t ∷ rest) ≡ y → layer d inner Atom (t ∷ rest) ≡ y
  unfolding atom
  one_token t x rest y e r = ap (λ x. atom_by d inner x (t ∷ rest)) e ∙ r

  in_parens : (o c : Token) (u rest : Tokens) (e : Expr) (h : ℕ) (p : Place) → suc h ≤ suc d → Is s.Open o → Phrase Whole u e h p → Is s.Close c → layer d inner Atom ((o ∷ u ++ c ∷ []) ++ rest) ≡ Got (e, suc h, o.at) rest
  unfolding atom parenthesized
  in_parens o c u rest e h p low i q j = ap (λ x. atom_by d inner x ((o ∷ u ++ c ∷ []) ++ rest)) i.same ∙ ap (λ ts. parenthesized d inner (o ∷ ts)) (append_assoc u (c ∷ []) rest) ∙ by_depth d refl
    where
      by_depth : (n : ℕ) → d ≡ n → deeper {A = MeasuredExpr} n (λ ts. and_then (skip ts) (λ p ts. and_then (inner Whole ts) (λ x ts. and_then (want s.Close ts) (λ _ ts. Got (x.0, suc x.1, p) ts)))) (o ∷ (u ++ c ∷ rest)) ≡ Got (e, suc h, o.at) rest
      by_depth zero z = absurd (let y = positive_height q in omega arith)
      by_depth (suc n) z =
          let read : inner Whole (u ++ c ∷ rest) ≡ Got (e, h, p) (c ∷ rest) = completes Whole u e h p (c ∷ rest) q (omega arith) (record { looser = rw j.same (omega arith) }) in
          rw (read, want_reads s.Close c rest j) refl

  in_old : (t o c : Token) (u rest : Tokens) (e : Expr) (h : ℕ) (p : Place) → suc h ≤ suc d → Is s.Old t → Is s.Open o → Phrase Whole u e h p → Is s.Close c → layer d inner Atom ((t ∷ o ∷ u ++ c ∷ []) ++ rest) ≡ Got (placed t.at (Old e), suc h, t.at) rest
  unfolding atom spec.old
  in_old t o c u rest e h p low i k q j = ap (λ x. atom_by d inner x ((t ∷ o ∷ u ++ c ∷ []) ++ rest)) i.same ∙ ap (λ ts. spec.old d inner (t ∷ o ∷ ts)) (append_assoc u (c ∷ []) rest) ∙ by_depth d refl
    where
      by_depth : (n : ℕ) → d ≡ n → deeper {A = MeasuredExpr} n (λ ts. and_then (skip ts) (λ p ts. and_then (want s.Open ts) (λ _ ts. and_then (inner Whole ts) (λ x ts. and_then (want s.Close ts) (λ _ ts. Got (placed p (Old x.0), suc x.1, p) ts))))) (t ∷ o ∷ (u ++ c ∷ rest))
          ≡ Got (placed t.at (Old e), suc h, t.at) rest
      by_depth zero z = absurd (let y = positive_height q in omega arith)
      by_depth (suc n) z =
          let read : inner Whole (u ++ c ∷ rest) ≡ Got (e, h, p) (c ∷ rest) = completes Whole u e h p (c ∷ rest) q (omega arith) (record { looser = rw j.same (omega arith) }) in
          rw (want_reads s.Open o (u ++ c ∷ rest) k, read, want_reads s.Close c rest j) refl

  next_reads : (u : Tokens) (x : MeasuredExpr) (rest : Tokens) → CommaAnd d u x → Stops Whole rest → next_expression d inner (u ++ rest) ≡ Got x rest
  unfolding next_expression
  next_reads u x rest (comma_and {u = v} {e = e} {h = h} {p = p} i q low) stops = completes Whole v e h p rest q low stops

  more_read : (rest : Tokens) → Stops Whole rest → comma (class_of (ahead rest)) ≡ false → {xs ys : Group} {u : Tokens} → Repeat (CommaAnd d) comma add xs u ys → more_expressions d inner xs (u ++ rest) ≡ Got ys rest
  unfolding more_expressions
  more_read rest stops none m = all_complete (CommaAnd d) comma (next_expression d inner) add (Stops Whole) (comma_some d) (comma_first d) (λ rest e. record { looser = comma_ends (class_of (ahead rest)) e }) next_reads rest stops none m

  pub expressions_read : {u : Tokens} {es : List Expr} {h : ℕ} → Expressions u es h → h ≤ d → (rest : Tokens) → Stops Whole rest → comma (class_of (ahead rest)) ≡ false → expressions d inner (u ++ rest) ≡ Got (es, h) rest
  unfolding expressions
  expressions_read (g.one {u = u} {e = e} {h = h} {p = p} q) low rest stops none = rw (completes Whole u e h p rest q low stops) (more_read rest stops none r.none)
  expressions_read (g.more {c = c} {u = u} {v = v} {e = e} {es = es} {h = h} {k = k} {p = p} q i m) low rest stops none =
      let first : inner Whole (u ++ (c ∷ v ++ rest)) ≡ Got (e, h, p) (c ∷ v ++ rest) = completes Whole u e h p (c ∷ v ++ rest) q (omega arith) (record { looser = rw i.same (omega arith) }) in
      rw (append_assoc u (c ∷ v) rest, first) (more_read rest stops none (spread m (omega arith) c i (e ∷ [], h)))

  arguments_read : {u : Tokens} {es : List Expr} {h : ℕ} → Arguments u es h → h ≤ d → (c : Token) (rest : Tokens) → Is s.Close c → arguments d inner (u ++ c ∷ rest) ≡ Got (es, h) (c ∷ rest)
  unfolding arguments
  arguments_read g.none low c rest i = ap (λ x. arguments_by d inner x (c ∷ rest)) i.same
  arguments_read (g.some {u = u} m) low c rest i =
      some_arguments d inner (class_of (ahead (u ++ c ∷ rest))) (u ++ c ∷ rest) (expressions_first (c ∷ rest) m) ∙ expressions_read m low (c ∷ rest) (record { looser = rw i.same (omega arith) }) (ap comma i.same)

  in_application : (t o c : Token) (x : Text) (u rest : Tokens) (es : List Expr) (h : ℕ) → suc h ≤ suc d → IsName x t → Is s.Open o → Arguments u es h → Is s.Close c → layer d inner Atom ((t ∷ o ∷ u ++ c ∷ []) ++ rest) ≡ Got (placed t.at (Apply x es), suc h, t.at) rest
  unfolding atom spec.named application
  in_application t o c x u rest es h low i k a j =
      let read : arguments d inner (u ++ c ∷ rest) ≡ Got (es, h) (c ∷ rest) = arguments_read a (omega arith) c rest j in
      ap (λ y. atom_by d inner y ((t ∷ o ∷ u ++ c ∷ []) ++ rest)) (name_class x t i) ∙ ap (λ ts. spec.named d inner (t ∷ o ∷ ts)) (append_assoc u (c ∷ []) rest) ∙
      rw (name_reads x t (o ∷ (u ++ c ∷ rest)) i) (ap (λ y. named_by d inner (x, t.at) y (o ∷ (u ++ c ∷ rest))) k.same ∙ rw (read, want_reads s.Close c rest j) refl)

  in_name : (t : Token) (x : Text) (rest : Tokens) → IsName x t → 0 < rank (class_of (ahead rest)) → layer d inner Atom (t ∷ rest) ≡ Got (placed t.at (Var x), 1, t.at) rest
  unfolding atom spec.named
  in_name t x rest i loose = ap (λ y. atom_by d inner y (t ∷ rest)) (name_class x t i) ∙ rw (name_reads x t rest i) (name_alone d inner (x, t.at) (class_of (ahead rest)) rest loose)

  -- ---- brackets

  close_reads : (m i : MeasuredExpr) (c : Token) (rest : Tokens) → Is s.CloseBracket c → indexed d inner m i (c ∷ rest) ≡ Got (spec.select m i) rest
  unfolding indexed
  close_reads m i c rest j = ap (λ x. indexed_by d inner m i x (c ∷ rest)) j.same ∙ rw (want_reads s.CloseBracket c rest j) refl

  write_reads : (m i : MeasuredExpr) (b c : Token) (w : Tokens) (e : Expr) (k : ℕ) (p : Place) (rest : Tokens) → Is s.Becomes b → Phrase Whole w e k p → k ≤ d → Is s.CloseBracket c → indexed d inner m i (b ∷ (w ++ c ∷ rest)) ≡ Got (spec.store m i (e, k, p)) rest
  unfolding indexed
  write_reads m i b c w e k p rest z q low j =
      let read : inner Whole (w ++ c ∷ rest) ≡ Got (e, k, p) (c ∷ rest) = completes Whole w e k p (c ∷ rest) q low (record { looser = rw j.same (omega arith) }) in
      ap (λ x. indexed_by d inner m i x (b ∷ (w ++ c ∷ rest))) z.same ∙ rw (read, want_reads s.CloseBracket c rest j) refl

  bracket_reads : (n : ℕ) (o : Token) (m : MeasuredExpr) (v : Tokens) (i : Expr) (k : ℕ) (q : Place) (after rest : Tokens) (y : MeasuredExpr) → m.1 ≤ d → k ≤ d → Is s.OpenBracket o → Phrase Whole v i k q → Stops Whole after → indexed d inner m (i, k, q) after ≡ Got y rest
      → brackets d inner (suc n) m (o ∷ (v ++ after)) ≡ brackets d inner n y rest
  unfolding brackets bracket
  bracket_reads n o m v i k q after rest y low high z r stops e =
      let opens : opens_bracket (class o) ≡ true = ap opens_bracket z.same in
      let test : nat_lt m.1 (suc d) ≡ true = grind (arith, nat_tests) in
      let read : inner Whole (v ++ after) ≡ Got (i, k, q) after = completes Whole v i k q after r high stops in
      rw (opens, test, read, e) refl

  select_reads : (n : ℕ) (o c : Token) (m i : Expr) (h k : ℕ) (p q : Place) (v rest : Tokens) → suc (suc d) ≤ h + n → suc (max h k) ≤ suc d → Is s.OpenBracket o → Phrase Whole v i k q → Is s.CloseBracket c
      → (j : ℕ) × (suc (suc d) ≤ suc (max h k) + j) × (brackets d inner n (m, h, p) ((o ∷ (v ++ c ∷ [])) ++ rest) ≡ brackets d inner j (placed p (Select m i), suc (max h k), p) rest)
  select_reads zero o c m i h k p q v rest room low z r j = absurd (omega arith)
  select_reads (suc n) o c m i h k p q v rest room low z r j =
      (n, omega arith, ap (λ ts. brackets d inner (suc n) (m, h, p) (o ∷ ts)) (append_assoc v (c ∷ []) rest) ∙ bracket_reads n o (m, h, p) v i k q (c ∷ rest) rest _ (omega arith) (omega arith) z r (record { looser = rw j.same (omega arith) }) (close_reads (m, h, p) (i, k, q) c rest j))

  store_reads : (n : ℕ) (o b c : Token) (m i e : Expr) (h k l : ℕ) (p q r : Place) (v w rest : Tokens) → suc (suc d) ≤ h + n → suc (max h (max k l)) ≤ suc d → Is s.OpenBracket o → Phrase Whole v i k q → Is s.Becomes b → Phrase Whole w e l r → Is s.CloseBracket c
      → (j : ℕ) × (suc (suc d) ≤ suc (max h (max k l)) + j) × (brackets d inner n (m, h, p) ((o ∷ (v ++ b ∷ (w ++ c ∷ []))) ++ rest) ≡ brackets d inner j (placed p (Store m i e), suc (max h (max k l)), p) rest)
  store_reads zero o b c m i e h k l p q r v w rest room low z y a x j = absurd (omega arith)
  store_reads (suc n) o b c m i e h k l p q r v w rest room low z y a x j = (
    n,
    omega arith,
    ap (λ ts. brackets d inner (suc n) (m, h, p) (o ∷ ts)) (append_assoc v (b ∷ (w ++ c ∷ [])) rest ∙ ap (λ ts. v ++ b ∷ ts) (append_assoc w (c ∷ []) rest))
        ∙ bracket_reads n o (m, h, p) v i k q (b ∷ (w ++ c ∷ rest)) rest _ (omega arith) (omega arith) z y (record { looser = rw a.same (omega arith) }) (write_reads (m, h, p) (i, k, q) b c w e l r rest a x (omega arith) j),
  )

  in_prefix : (t : Token) (f : UnOp) (u rest : Tokens) (e : Expr) (h : ℕ) (p : Place) → suc h ≤ suc d → prefixes (class t) ≡ Some f → Phrase Prefix u e h p → Stops Prefix rest → layer d inner Prefix (t ∷ u ++ rest) ≡ Got (placed t.at (Unary f e), suc h, t.at) rest
  unfolding prefix prefixed
  in_prefix t f u rest e h p low i q stops = rw i (by_depth d refl)
    where
      by_depth : (n : ℕ) → d ≡ n → deeper {A = MeasuredExpr} n (λ ts. and_then (skip ts) (λ p ts. and_then (inner Prefix ts) (λ x ts. Got (placed p (Unary f x.0), suc x.1, p) ts))) (t ∷ u ++ rest) ≡ Got (placed t.at (Unary f e), suc h, t.at) rest
      by_depth zero z = absurd (let y = positive_height q in omega arith)
      by_depth (suc n) z =
          let read : inner Prefix (u ++ rest) ≡ Got (e, h, p) rest = completes Prefix u e h p rest q (omega arith) stops in
          rw read refl

  prefix_postfix : (ts : Tokens) (y : Step MeasuredExpr) → prefixes (class_of (ahead ts)) ≡ None → layer d inner Postfix ts ≡ y → layer d inner Prefix ts ≡ y
  unfolding prefix
  prefix_postfix ts y e r = rw e r

  relation_alone : (ts rest : Tokens) (x : MeasuredExpr) → layer d inner Sum ts ≡ Got x rest → Stops Relation rest → layer d inner Relation ts ≡ Got x rest
  unfolding relation
  relation_alone ts rest x e stops = rw (e, no_comparison (class_of (ahead rest)) stops.looser) refl

  relation_more : (ts : Tokens) (t : Token) (f : BinOp) (a b : Expr) (h k : ℕ) (i j : Place) (v rest : Tokens) → layer d inner Sum ts ≡ Got (a, h, i) (t ∷ v ++ rest) → compares (class t) ≡ Some f → suc (max h k) ≤ suc d → Phrase Sum v b k j → Stops Relation rest
      → layer d inner Relation ts ≡ Got (placed i (Binary f a b), suc (max h k), i) rest
  unfolding relation
  relation_more ts t f a b h k i j v rest e c low p stops = rw (e, c) (operation_reads Sum (λ x ts. Got x ts) f t a b h k i j v rest low p (record { looser = let z = stops.looser in omega arith }))

  got_rest : {x z : MeasuredExpr} {ts rest : Tokens} → Got x ts ≡ Got z rest → ts ≡ rest
  got_rest e = cc

  -- Where one kind of chain stops at once, the tokens ahead are the rest.
  at_rest : (l : Level) (x z : MeasuredExpr) (ts rest : Tokens) → repeated l (class_of (ahead ts)) ≡ None → turns d inner (suc d) l x ts ≡ Got z rest → ts ≡ rest
  at_rest l x z ts rest e r = got_rest (sym (turns_stop (suc d) l x ts (omega arith) e) ∙ r)

  other_chain : (l k : Level) (x z : MeasuredExpr) (ts rest : Tokens) → repeated l (class_of (ahead ts)) ≡ None → limit k < rank (class_of (ahead rest)) → turns d inner (suc d) l x ts ≡ Got z rest → turns d inner (suc d) k x ts ≡ Got z rest
  other_chain l k x z ts rest e loose r =
      let same : ts ≡ rest = at_rest l x z ts rest e r in
      turns_stop (suc d) k x ts (omega arith) (no_operator k (class_of (ahead ts)) (subst (λ ts. limit k < rank (class_of (ahead ts))) (sym same) loose)) ∙ sym (turns_stop (suc d) l x ts (omega arith) e) ∙ r

  -- A chain of `&&` or of `||` is what the reader of both reads.
  by_all : (x z : MeasuredExpr) (ts rest : Tokens) (y : TokenClass) → class_of (ahead ts) ≡ y → 5 < rank (class_of (ahead rest)) → turns d inner (suc d) Conjunction x ts ≡ Got z rest → junction_by d inner x y ts ≡ Got z rest
  by_all x z ts rest s.And e loose r = r
  by_all x z ts rest y e loose r = other_chain Conjunction Disjunction x z ts rest (ap (repeated Conjunction) e) loose r

  by_any : (x z : MeasuredExpr) (ts rest : Tokens) (y : TokenClass) → class_of (ahead ts) ≡ y → 5 < rank (class_of (ahead rest)) → turns d inner (suc d) Disjunction x ts ≡ Got z rest → junction_by d inner x y ts ≡ Got z rest
  by_any x z ts rest s.And e loose r = other_chain Disjunction Conjunction x z ts rest (ap (repeated Disjunction) e) loose r
  by_any x z ts rest _ e loose r = r

  after_relation : (l : Level) (ts rest : Tokens) (z : MeasuredExpr) → layer d inner l ts ≡ and_then (layer d inner Relation ts) (turns d inner (suc d) l)
      → ((x : MeasuredExpr) (ts : Tokens) → turns d inner (suc d) l x ts ≡ Got z rest → junction_by d inner x (class_of (ahead ts)) ts ≡ Got z rest)
      → layer d inner l ts ≡ Got z rest → layer d inner Junction ts ≡ Got z rest
  unfolding junction
  after_relation l ts rest z split turn r = by_step (layer d inner Relation ts) (sym split ∙ r)
    where
      by_step : (s : Step MeasuredExpr) → and_then s (turns d inner (suc d) l) ≡ Got z rest → and_then s (λ x ts. junction_by d inner x (class_of (ahead ts)) ts) ≡ Got z rest
      by_step (Got x ts) r = turn x ts r
      by_step (Bad k ts) r = absurd (cc)

  by_right : (x z : MeasuredExpr) (ts rest : Tokens) (y : TokenClass) → class_of (ahead ts) ≡ y → 6 < rank (class_of (ahead rest)) → right_by d inner x y ts ≡ Got z rest → implication_by d inner x y ts ≡ Got z rest
  by_right x z ts rest s.Implies e loose r = r
  by_right x z ts rest y e loose r =
      let same : ts ≡ rest = got_rest r in
      turns_stop (suc d) Explied x ts (omega arith) (no_operator Explied (class_of (ahead ts)) (subst (λ ts. 6 < rank (class_of (ahead ts))) (sym same) loose)) ∙ r

  by_explied : (x z : MeasuredExpr) (ts rest : Tokens) (y : TokenClass) → class_of (ahead ts) ≡ y → 6 < rank (class_of (ahead rest)) → turns d inner (suc d) Explied x ts ≡ Got z rest → implication_by d inner x y ts ≡ Got z rest
  by_explied x z ts rest s.Implies e loose r =
      let same : ts ≡ rest = at_rest Explied x z ts rest (ap (repeated Explied) e) r in
      absurd (let big : 6 < rank s.Implies = subst (λ y. 6 < rank y) e (subst (λ ts. 6 < rank (class_of (ahead ts))) (sym same) loose) in omega arith)
  by_explied x z ts rest _ e loose r = r

  after_junction : (f : MeasuredExpr → Reader MeasuredExpr) (ts rest : Tokens) (z : MeasuredExpr) → ((x : MeasuredExpr) (ts : Tokens) → f x ts ≡ Got z rest → implication_by d inner x (class_of (ahead ts)) ts ≡ Got z rest)
      → and_then (layer d inner Junction ts) f ≡ Got z rest → layer d inner Implication ts ≡ Got z rest
  unfolding implication
  after_junction f ts rest z turn r = by_step (layer d inner Junction ts) r
    where
      by_step : (s : Step MeasuredExpr) → and_then s f ≡ Got z rest → and_then s (λ x ts. implication_by d inner x (class_of (ahead ts)) ts) ≡ Got z rest
      by_step (Got x ts) r = turn x ts r
      by_step (Bad k ts) r = absurd (cc)

  right_stop : (x : MeasuredExpr) (ts : Tokens) (y : TokenClass) → 6 < rank y → right_by d inner x y ts ≡ Got x ts
  right_stop x ts s.Implies h = absurd (omega arith)
  right_stop x ts _ h = refl

  right_alone : (ts rest : Tokens) (x : MeasuredExpr) → layer d inner Junction ts ≡ Got x rest → Stops Right rest → layer d inner Right ts ≡ Got x rest
  unfolding right
  right_alone ts rest x e stops = rw e (right_stop x rest (class_of (ahead rest)) stops.looser)

  right_more : (ts : Tokens) (t : Token) (a b : Expr) (h k : ℕ) (i j : Place) (v rest : Tokens) → layer d inner Junction ts ≡ Got (a, h, i) (t ∷ v ++ rest) → (class t) ≡ s.Implies → suc (max h k) ≤ suc d → Phrase Right v b k j → Stops Right rest
      → layer d inner Right ts ≡ Got (placed i (Binary op.Implies a b), suc (max h k), i) rest
  unfolding right
  right_more ts t a b h k i j v rest e c low p stops = rw e (ap (λ y. right_by d inner (a, h, i) y (t ∷ v ++ rest)) c ∙ operation_reads Right (λ x ts. Got x ts) op.Implies t a b h k i j v rest low p stops)

  right_split : (ts : Tokens) → layer d inner Right ts ≡ and_then (layer d inner Junction ts) (λ x ts. right_by d inner x (class_of (ahead ts)) ts)
  unfolding right
  right_split ts = refl

  postfix_split : (ts : Tokens) → layer d inner Postfix ts ≡ and_then (layer d inner Atom ts) (brackets d inner (suc d))
  unfolding spec.postfix
  postfix_split ts = refl

  spell : {l : Level} {u : Tokens} {e : Expr} {h : ℕ} {p : Place} → Phrase l u e h p → h ≤ suc d → Reads l u e h p
  spell (g.number {t = t} {n = n} i) low = no_spine _ _ _ _ _ refl refl (λ rest stops. one_token t s.Number rest _ (number_class n t i) (rw (number_reads n t rest i) refl))
  spell (g.yes {t = t} i) low = no_spine _ _ _ _ _ refl refl (λ rest stops. one_token t s.True rest _ i.same refl)
  spell (g.no {t = t} i) low = no_spine _ _ _ _ _ refl refl (λ rest stops. one_token t s.False rest _ i.same refl)
  spell (g.name {t = t} {x = x} i) low = no_spine _ _ _ _ _ refl refl (λ rest stops. in_name t x rest i stops.looser)
  spell (g.application {t = t} {o = o} {c = c} {x = x} {u = u} {es = es} {h = h} i k a j) low = no_spine _ _ _ _ _ refl refl (λ rest stops. in_application t o c x u rest es h low i k a j)
  spell (g.old {t = t} {o = o} {c = c} {u = u} {e = e} {h = h} {p = p} i k q j) low = no_spine _ _ _ _ _ refl refl (λ rest stops. in_old t o c u rest e h p low i k q j)
  spell (g.parens {o = o} {c = c} {u = u} {e = e} {h = h} {p = p} i q j) low = no_spine _ _ _ _ _ refl refl (λ rest stops. in_parens o c u rest e h p low i q j)
  spell (g.atom {u = u} {e = e} {h = h} {p = p} q) low = from_brackets u e h p low (λ rest stops. (suc d, let z = positive_height q in omega arith, postfix_split (u ++ rest) ∙ ap (λ s. and_then s (brackets d inner (suc d))) ((spell q low).alone rest stops)))
  spell (g.select {o = o} {c = c} {u = u} {v = v} {m = m} {i = i} {h = h} {k = k} {p = p} {q = q} y z r j) low = from_brackets _ _ _ _ low (λ rest stops.
      let before = (spell y (omega arith)).bracketed refl ((o ∷ (v ++ c ∷ [])) ++ rest) (record { looser = rw z.same (omega arith) }) in
      let go = select_reads before.0 o c m i h k p q v rest before.1 low z r j in
      (go.0, go.1, ap (layer d inner Postfix) (append_assoc u (o ∷ (v ++ c ∷ [])) rest) ∙ before.2 ∙ go.2))
  spell (g.store {o = o} {b = b} {c = c} {u = u} {v = v} {w = w} {m = m} {i = i} {e = e} {h = h} {k = k} {j = l} {p = p} {q = q} {r = r} y z x a f j) low = from_brackets _ _ _ _ low (λ rest stops.
      let before = (spell y (omega arith)).bracketed refl ((o ∷ (v ++ b ∷ (w ++ c ∷ []))) ++ rest) (record { looser = rw z.same (omega arith) }) in
      let go = store_reads before.0 o b c m i e h k l p q r v w rest before.1 low z x a f j in
      (go.0, go.1, ap (layer d inner Postfix) (append_assoc u (o ∷ (v ++ b ∷ (w ++ c ∷ []))) rest) ∙ before.2 ∙ go.2))
  spell (g.postfix {u = u} q) low = no_spine _ _ _ _ _ refl refl (λ rest stops. prefix_postfix (u ++ rest) _ (postfix_first rest refl q) ((spell q low).alone rest (record { looser = stops.looser })))
  spell (g.unary {t = t} {f = f} {u = u} {e = e} {h = h} {p = p} i q) low = no_spine _ _ _ _ _ refl refl (λ rest stops. in_prefix t f u rest e h p low i.operator q stops)
  spell (g.only {l = l} {u = u} {e = e} {h = h} {p = p} has q) low = from_spine l u e h p low has (λ rest stops. (suc d, let z = positive_height q in omega arith, layer_chain l has (u ++ rest) ∙ ap (λ s. and_then s (turns d inner (suc d) l)) ((spell q low).alone rest stops)))
  spell (g.repeat {l = l} {t = t} {f = f} {u = u} {v = v} {a = a} {b = b} {h = h} {k = k} {p = i} {q = j} p o q) low =
      let has : has_operand l ≡ true = repeated_has l (class t) f o.operator in
      from_spine l _ _ _ _ low has (λ rest stops.
      let before = (spell p (omega arith)).spine has (t ∷ v ++ rest) (record { looser = repeated_rank l (class t) f o.operator }) in
      let go = turns_read before.0 l f t a b h k i j v rest before.1 o.operator low q stops in
      (go.0, go.1, ap (layer d inner l) (append_assoc u (t ∷ v) rest) ∙ before.2 ∙ go.2))
  spell (g.sum {u = u} {e = e} {h = h} {p = p} q) low = no_spine _ _ _ _ _ refl refl (λ rest stops. relation_alone (u ++ rest) rest (e, h, p) ((spell q low).alone rest (record { looser = let z = stops.looser in omega arith })) stops)
  spell (g.compare {t = t} {f = f} {u = u} {v = v} {a = a} {b = b} {h = h} {k = k} {p = i} {q = j} p o q) low = no_spine _ _ _ _ _ refl refl (λ rest stops.
      ap (layer d inner Relation) (append_assoc u (t ∷ v) rest) ∙
      relation_more (u ++ (t ∷ v ++ rest)) t f a b h k i j v rest ((spell p (omega arith)).alone (t ∷ v ++ rest) (record { looser = compares_rank (class t) f o.operator })) o.operator low q stops)
  spell (g.all {u = u} {e = e} {h = h} {p = p} q) low = no_spine _ _ _ _ _ refl refl (λ rest stops.
      after_relation Conjunction (u ++ rest) rest (e, h, p) (layer_chain Conjunction refl (u ++ rest)) (λ x ts r. by_all x (e, h, p) ts rest (class_of (ahead ts)) refl stops.looser r) ((spell q low).alone rest (record { looser = stops.looser })))
  spell (g.any {u = u} {e = e} {h = h} {p = p} q) low = no_spine _ _ _ _ _ refl refl (λ rest stops.
      after_relation Disjunction (u ++ rest) rest (e, h, p) (layer_chain Disjunction refl (u ++ rest)) (λ x ts r. by_any x (e, h, p) ts rest (class_of (ahead ts)) refl stops.looser r) ((spell q low).alone rest (record { looser = stops.looser })))
  spell (g.last {u = u} {e = e} {h = h} {p = p} q) low = no_spine _ _ _ _ _ refl refl (λ rest stops. right_alone (u ++ rest) rest (e, h, p) ((spell q low).alone rest (record { looser = let z = stops.looser in omega arith })) stops)
  spell (g.right {t = t} {u = u} {v = v} {a = a} {b = b} {h = h} {k = k} {p = i} {q = j} p o q) low = no_spine _ _ _ _ _ refl refl (λ rest stops.
      ap (layer d inner Right) (append_assoc u (t ∷ v) rest) ∙
      right_more (u ++ (t ∷ v ++ rest)) t a b h k i j v rest ((spell p (omega arith)).alone (t ∷ v ++ rest) (before_implies t (v ++ rest) o)) o.same low q stops)
  spell (g.implies {u = u} {e = e} {h = h} {p = p} q) low = no_spine _ _ _ _ _ refl refl (λ rest stops.
      after_junction (λ x ts. right_by d inner x (class_of (ahead ts)) ts) (u ++ rest) rest (e, h, p) (λ x ts r. by_right x (e, h, p) ts rest (class_of (ahead ts)) refl stops.looser r)
      (sym (right_split (u ++ rest)) ∙ (spell q low).alone rest (record { looser = stops.looser })))
  spell (g.explied {u = u} {e = e} {h = h} {p = p} q) low = no_spine _ _ _ _ _ refl refl (λ rest stops.
      after_junction (turns d inner (suc d) Explied) (u ++ rest) rest (e, h, p) (λ x ts r. by_explied x (e, h, p) ts rest (class_of (ahead ts)) refl stops.looser r)
      (sym (layer_chain Explied refl (u ++ rest)) ∙ (spell q low).alone rest (record { looser = stops.looser })))

-- What is spelled is read.
pub read_complete : (d : ℕ) (l : Level) (u : Tokens) (e : Expr) (h : ℕ) (p : Place) (rest : Tokens) → Phrase l u e h p → h ≤ d → Stops l rest → read d l (u ++ rest) ≡ Got (e, h, p) rest
unfolding read
read_complete zero l u e h p rest q low stops = absurd (let z = positive_height q in omega arith)
read_complete (suc d) l u e h p rest q low stops = (spell d (read d) (read_complete d) q low).alone rest stops
