-- The readers of attributes and claims read what is one within its height, and all of it.
use Rattle.std.proofs.Common.{◌≡◌, ℕ, suc, ◌<◌, ◌≤◌, max, true, false, [], ◌∷◌, ◌++◌, length, refl, ap, sym, ◌∙◌, subst, arith, append_assoc}
use Rattle.std.proofs.lemmas.List.{append-nil}
use Rattle.sd_base.specs.declared.Place.{Place}
use Rattle.sd_base.specs.Value.{Text}
use Rattle.sd_lex.specs.declared.Token.{Token}
use Rattle.sd_ast.specs.declared.Expr.{Expr}
use Rattle.sd_parse.specs.declared.class.TokenClass.{TokenClass}
use Rattle.sd_parse.specs.declared.class.TokenClass.TheVariants as s
use Rattle.sd_parse.specs.TokenClasses.{class}
use Rattle.sd_parse.specs.Grammar.{Tokens, Whole, Is, IsName}
use Rattle.sd_parse.specs.Clauses as c
use Rattle.sd_parse.specs.Clauses.{Expression, Datum, Data, Attribute, Attributes, Claim}
use Rattle.sd_parse.specs.Reading.{Got, and_then, ahead, class_of, begins, read}
use Rattle.sd_parse.specs.ReadingRows.{is, keep}
use Rattle.sd_parse.specs.ReadingClauses.{expression, datum_by, datum, next_datum, more_data, contents_by, contents, attribute, attributes, claim}
use Rattle.sd_parse.proofs.Texts as r
use Rattle.sd_parse.proofs.Texts.{Wanted, wanted, Named, named, Nothing, settle, Both, both, Repeat, same_is}
use Rattle.sd_parse.proofs.ExpressionAnswers.{Within}
use Rattle.sd_parse.proofs.Heights.{positive_height}
use Rattle.sd_parse.proofs.ExpressionComplete.{rank, Stops, read_complete, phrase_first, want_reads, name_reads, same_classes}
use Rattle.sd_parse.proofs.Lists.{all_complete}
use Rattle.sd_parse.proofs.Rows.{Low, Next, next, next_first, next_some, other_class}

-- ---- expressions

pub expression_first : {u : Tokens} {e : Expr} {h : ℕ} (rest : Tokens) → Expression u e h → begins (class_of (ahead (u ++ rest))) ≡ true
expression_first rest (c.whole p) = phrase_first rest p

pub expression_high : {u : Tokens} {e : Expr} {h : ℕ} → Expression u e h → 1 ≤ h
expression_high (c.whole p) = positive_height p

pub to_expression : (d : ℕ) (u : Tokens) (x : Expr) → Both (Within d Whole) (λ e. Nothing e.0) u x → Low Expression d u x
to_expression d u x (both {u = v} {x = e} w n) = settle n (λ z x. Low Expression d (v ++ z) x) (subst (λ z. Low Expression d z e.0) (sym (append-nil v)) (record { height = e.1; spelt = c.whole w.phrase; low = w.low }))

pub expression_complete : (d : ℕ) (u : Tokens) (e : Expr) (h : ℕ) (rest : Tokens) → Expression u e h → h ≤ d → Stops Whole rest → expression d (u ++ rest) ≡ Got e rest
unfolding expression
expression_complete d u e h rest (c.whole {p = p} q) low stops =
    let w : read d Whole (u ++ rest) ≡ Got (e, h, p) rest = read_complete d Whole u e h p rest q low stops in
    rw w refl

-- a class that goes on with no expression
pub stops_at : (x : TokenClass) (rest : Tokens) → class_of (ahead rest) ≡ x → 7 < rank x → Stops Whole rest
stops_at x rest e l = record { looser = subst (λ y. 7 < rank y) (sym e) l }

pub stops_at_comma : (rest : Tokens) → is s.Comma (class_of (ahead rest)) ≡ true → Stops Whole rest
stops_at_comma rest e = stops_at s.Comma rest (same_is (class_of (ahead rest)) s.Comma e) (omega arith)

-- an expression begins with none of these classes
pub begins_other : (x y : TokenClass) → begins x ≡ true → begins y ≡ false → x ≡ y → ⊥
begins_other x y e f g = let z : begins y ≡ true = ap begins (sym g) ∙ e in cc

-- ---- attributes

-- what leaves nothing
abbrev pub DatumText : Tokens → Unit {0} → ℕ → Type 0
DatumText u x h = Datum u h

abbrev pub DataText : Tokens → Unit {0} → ℕ → Type 0
DataText u x h = Data u h

abbrev pub AttributeText : Tokens → Unit {0} → ℕ → Type 0
AttributeText u x h = Attribute u h

abbrev pub AttributesText : ℕ → Tokens → Unit {0} → Type 0
AttributesText limit u x = Attributes limit u

datum_first : {u : Tokens} {h : ℕ} (rest : Tokens) → Datum u h → class_of (ahead (u ++ rest)) ≡ s.CloseBrace → ⊥
datum_first rest (c.expression {u = u} f) e = begins_other (class_of (ahead (u ++ rest))) s.CloseBrace (expression_first rest f) refl e
datum_first rest (c.text i) e = let z : s.Text ≡ s.CloseBrace = sym i.same ∙ e in cc

data_first : {u : Tokens} {h : ℕ} (rest : Tokens) → Data u h → class_of (ahead (u ++ rest)) ≡ s.CloseBrace → ⊥
data_first rest (c.one f) e = datum_first rest f e
data_first rest (c.more {c = t} {u = u} {v = v} f i m) e = datum_first (t ∷ (v ++ rest)) f (ap (λ z. class_of (ahead z)) (sym (append_assoc u (t ∷ v) rest)) ∙ e)

module _ (d : ℕ) where
  pub to_text : (u : Tokens) (x : Unit {0}) → Both (Wanted s.Text) (λ _. Nothing tt) u x → Low DatumText d u x
  to_text u x (both (wanted {t = t} i) n) = settle n (λ z x. Low DatumText d (t ∷ z) x) (record { height = 0; spelt = c.text i; low = omega arith })

  pub to_datum : (u : Tokens) (x : Unit {0}) → Both (Low Expression d) (λ _. Nothing tt) u x → Low DatumText d u x
  to_datum u x (both {u = v} w n) = settle n (λ z x. Low DatumText d (v ++ z) x) (subst (λ z. Low DatumText d z tt) (sym (append-nil v)) (record { height = w.height; spelt = c.expression w.spelt; low = w.low }))

  pub to_next : (u : Tokens) (x : Unit {0}) → Both (Wanted s.Comma) (λ _. Low DatumText d) u x → Next (Low DatumText d) u x
  to_next u x (both (wanted i) f) = next i f

  pub data_of : {u v : Tokens} {x acc y : Unit {0}} → Low DatumText d u x → Repeat (Next (Low DatumText d)) (is s.Comma) keep acc v y → Low DataText d (u ++ v) tt
  data_of {u = u} f r.none = subst (λ z. Low DataText d z tt) (sym (append-nil u)) (record { height = f.height; spelt = c.one f.spelt; low = f.low })
  data_of {u = u} f (r.more (next {u = v} {x = x} i g) m) = let w = data_of {u = v} {x = x} g m in record { height = max f.height w.height; spelt = c.more f.spelt i w.spelt; low = let y = f.low in let z = w.low in omega arith }

  -- what stands in an attribute after its name
  pub data Contents : Tokens → Unit {0} → Type 0 where
    empty : Contents [] tt
    given : {u : Tokens} → Low DataText d u tt → Contents u tt

  pub to_given : (u : Tokens) (x : Unit {0}) → Both (Low DatumText d) (λ _. Repeat (Next (Low DatumText d)) (is s.Comma) keep tt) u x → Contents u x
  to_given w x (both {u = u} {v = v} f m) = given (data_of f m)

  pub attribute_of : {o n e : Token} {x : Text} {u : Tokens} {y : Unit {0}} → Is s.OpenAttribute o → IsName x n → Contents u y → Is s.CloseBrace e → Low AttributeText d (o ∷ n ∷ (u ++ e ∷ [])) tt
  attribute_of i j empty k = record { height = 0; spelt = c.bare i j k; low = omega arith }
  attribute_of i j (given w) k = record { height = w.height; spelt = c.full i j w.spelt k; low = w.low }

  pub to_attribute : (u : Tokens) (x : Unit {0}) → Both (Wanted s.OpenAttribute) (λ _. Both Named (λ _. Both Contents (λ _. Both (Wanted s.CloseBrace) (λ _. Nothing tt)))) u x → Low AttributeText d u x
  to_attribute u x (both (wanted {t = o} i) (both (named {t = n} j) (both {u = v} w (both (wanted {t = e} k) m)))) = settle m (λ z x. Low AttributeText d (o ∷ n ∷ (v ++ e ∷ z)) x) (attribute_of i j w k)

  pub attributes_of : {u : Tokens} {acc y : Unit {0}} → Repeat (Low AttributeText d) (is s.OpenAttribute) keep acc u y → Attributes d u
  attributes_of r.none = c.none
  attributes_of (r.more f m) = c.more f.spelt f.low (attributes_of m)

  -- ---- what is spelled is read

  datum_other : (x : TokenClass) (ts : Tokens) → begins x ≡ true → datum_by d x ts ≡ and_then (expression d ts) (λ _ ts. Got tt ts)
  datum_other s.Text ts e = absurd (cc)
  datum_other _ ts e = refl

  datum_reads : (u : Tokens) (h : ℕ) (rest : Tokens) → Datum u h → h ≤ d → Stops Whole rest → datum d (u ++ rest) ≡ Got tt rest
  unfolding datum
  datum_reads u h rest (c.expression {e = e} f) low stops = datum_other (class_of (ahead (u ++ rest))) (u ++ rest) (expression_first rest f) ∙ rw (expression_complete d u e h rest f low stops) refl
  datum_reads u h rest (c.text {t = t} i) low stops = ap (λ x. datum_by d x (t ∷ rest)) i.same

  next_reads : (u : Tokens) (x : Unit {0}) (rest : Tokens) → Next (Low DatumText d) u x → Stops Whole rest → next_datum d (u ++ rest) ≡ Got x rest
  unfolding next_datum
  next_reads w tt rest (next {u = u} i f) stops = datum_reads u f.height rest f.spelt f.low stops

  repeat_data : {t : Token} {u : Tokens} {h : ℕ} → Is s.Comma t → Data u h → h ≤ d → Repeat (Next (Low DatumText d)) (is s.Comma) keep (tt {0}) (t ∷ u) (tt {0})
  repeat_data {t = t} i (c.one {u = u} {h = h} f) low = subst (λ z. Repeat (Next (Low DatumText d)) (is s.Comma) keep (tt {0}) (t ∷ z) (tt {0})) (append-nil u) (r.more {x = tt {0}} (next i (record { height = h; spelt = f; low = low })) r.none)
  repeat_data {t = t} i (c.more {c = e} {h = h} f j m) low = r.more {x = tt {0}} (next i (record { height = h; spelt = f; low = omega arith })) (repeat_data {t = e} j m (omega arith))

  more_reads : {u : Tokens} (rest : Tokens) → class_of (ahead rest) ≡ s.CloseBrace → Repeat (Next (Low DatumText d)) (is s.Comma) keep (tt {0}) u (tt {0}) → more_data d (u ++ rest) ≡ Got tt rest
  unfolding more_data
  more_reads rest e m = all_complete (Next (Low DatumText d)) (is s.Comma) (next_datum d) keep (Stops Whole) (next_some (Low DatumText d) (datum d)) (next_first (Low DatumText d) (datum d)) stops_at_comma next_reads
      rest (stops_at s.CloseBrace rest e (omega arith)) (other_class (class_of (ahead rest)) s.Comma (λ f. let z : s.CloseBrace ≡ s.Comma = sym e ∙ f in cc)) m

  contents_other : (x : TokenClass) (ts : Tokens) → (x ≡ s.CloseBrace → ⊥) → contents_by d x ts ≡ and_then (datum d ts) (λ _. more_data d)
  contents_other s.CloseBrace ts f = absurd (f refl)
  contents_other _ ts f = refl

  data_reads : {u : Tokens} {h : ℕ} (rest : Tokens) → Data u h → h ≤ d → class_of (ahead rest) ≡ s.CloseBrace → and_then (datum d (u ++ rest)) (λ _. more_data d) ≡ Got tt rest
  data_reads rest (c.one {u = u} {h = h} f) low e = rw (datum_reads u h rest f low (stops_at s.CloseBrace rest e (omega arith))) (more_reads rest e r.none)
  data_reads rest (c.more {c = t} {u = u} {v = v} {h = h} f i m) low e =
      let first : datum d (u ++ t ∷ (v ++ rest)) ≡ Got tt (t ∷ (v ++ rest)) = datum_reads u h (t ∷ (v ++ rest)) f (omega arith) (stops_at s.Comma (t ∷ (v ++ rest)) i.same (omega arith)) in
      simp append_assoc (rw (first) (more_reads rest e (repeat_data i m (omega arith))))

  attribute_reads : (u : Tokens) (x : Unit {0}) (rest : Tokens) → Low AttributeText d u x → attribute d (u ++ rest) ≡ Got x rest
  unfolding attribute contents
  attribute_reads u tt rest f = by_text f.spelt f.low
    where
      by_text : {u : Tokens} {h : ℕ} → Attribute u h → h ≤ d → attribute d (u ++ rest) ≡ Got tt rest
      by_text (c.bare {o = o} {n = n} {c = e} {x = x} i j k) low =
          let none : contents_by d (class e) (e ∷ rest) ≡ Got tt (e ∷ rest) = ap (λ y. contents_by d y (e ∷ rest)) k.same in
          rw (name_reads x n (e ∷ rest) j, none, want_reads s.CloseBrace e rest k) refl
      by_text (c.full {o = o} {n = n} {c = e} {x = x} {u = v} i j m k) low =
          let split : (v ++ e ∷ []) ++ rest ≡ v ++ e ∷ rest = append_assoc v (e ∷ []) rest in
          let some : contents_by d (class_of (ahead (v ++ e ∷ rest))) (v ++ e ∷ rest) ≡ Got tt (e ∷ rest) = contents_other (class_of (ahead (v ++ e ∷ rest))) (v ++ e ∷ rest) (data_first (e ∷ rest) m) ∙ data_reads (e ∷ rest) m low k.same in
          rw (split, name_reads x n (v ++ e ∷ rest) j, some, want_reads s.CloseBrace e rest k) refl

  attribute_first : (u : Tokens) (x : Unit {0}) (rest : Tokens) → Low AttributeText d u x → is s.OpenAttribute (class_of (ahead (u ++ rest))) ≡ true
  attribute_first u x rest f = by_text f.spelt
    where
      by_text : {u : Tokens} {h : ℕ} → Attribute u h → is s.OpenAttribute (class_of (ahead (u ++ rest))) ≡ true
      by_text (c.bare {o = o} i j k) = same_classes (class o) s.OpenAttribute i.same
      by_text (c.full {o = o} i j m k) = same_classes (class o) s.OpenAttribute i.same

  attribute_some : (u : Tokens) (x : Unit {0}) → Low AttributeText d u x → 0 < length u
  attribute_some u x f = by_text f.spelt
    where
      by_text : {u : Tokens} {h : ℕ} → Attribute u h → 0 < length u
      by_text (c.bare i j k) = omega arith
      by_text (c.full i j m k) = omega arith

  repeat_attributes : {u : Tokens} → Attributes d u → Repeat (Low AttributeText d) (is s.OpenAttribute) keep (tt {0}) u (tt {0})
  repeat_attributes c.none = r.none
  repeat_attributes (c.more {h = h} f low m) = r.more {x = tt {0}} (record { height = h; spelt = f; low = low }) (repeat_attributes m)

  -- What is spelled is read.
  pub attributes_complete : {u : Tokens} (rest : Tokens) → is s.OpenAttribute (class_of (ahead rest)) ≡ false → Attributes d u → attributes d (u ++ rest) ≡ Got tt rest
  unfolding attributes
  attributes_complete rest stops m = all_complete (Low AttributeText d) (is s.OpenAttribute) (attribute d) keep (λ _. Unit {0}) attribute_some attribute_first (λ rest e. tt) (λ u x rest f e. attribute_reads u x rest f) rest tt stops (repeat_attributes m)

-- no expression begins with an attribute
pub not_attribute : (x : TokenClass) → begins x ≡ true → is s.OpenAttribute x ≡ false
not_attribute x e = other_class x s.OpenAttribute (begins_other x s.OpenAttribute e refl)

-- ---- claims

module _ (limit d : ℕ) (word : TokenClass) where
  pub to_claim : (u : Tokens) (x : Place × Expr) → Both (Wanted word) (λ p. Both (AttributesText limit) (λ _. Both (Low Expression d) (λ e. Both (Wanted s.Semi) (λ _. Nothing (p, e))))) u x → Low (Claim limit word) d u x
  to_claim u x (both (wanted {t = t} i) (both {u = a} b (both {u = v} {x = e} w (both (wanted {t = k} j) n)))) =
      settle n (λ z x. Low (Claim limit word) d (t ∷ (a ++ (v ++ k ∷ z))) x) (record { height = w.height; spelt = c.claim i b w.spelt j; low = w.low })

  pub claim_complete : {u : Tokens} {x : Place × Expr} {h : ℕ} (rest : Tokens) → Claim limit word u x h → h ≤ d → claim limit d word (u ++ rest) ≡ Got x rest
  unfolding claim
  claim_complete rest (c.claim {t = t} {c = k} {a = a} {u = u} {e = e} {h = h} i b f j) low =
      let first : attributes limit (a ++ (u ++ k ∷ rest)) ≡ Got tt (u ++ k ∷ rest) = attributes_complete limit (u ++ k ∷ rest) (not_attribute (class_of (ahead (u ++ k ∷ rest))) (expression_first (k ∷ rest) f)) b in
      let second : expression d (u ++ k ∷ rest) ≡ Got e (k ∷ rest) = expression_complete d u e h (k ∷ rest) f low (stops_at s.Semi (k ∷ rest) j.same (omega arith)) in
      simp append_assoc (rw (want_reads word t (a ++ (u ++ k ∷ rest)) i, first, second, want_reads s.Semi k rest j) refl)

pub claim_first : {limit : ℕ} {word : TokenClass} {u : Tokens} {x : Place × Expr} {h : ℕ} (rest : Tokens) → Claim limit word u x h → class_of (ahead (u ++ rest)) ≡ word
claim_first rest (c.claim i b f j) = i.same

pub claim_high : {limit : ℕ} {word : TokenClass} {u : Tokens} {x : Place × Expr} {h : ℕ} → Claim limit word u x h → 1 ≤ h
claim_high (c.claim i b f j) = expression_high f

pub claim_some : {limit : ℕ} {word : TokenClass} {u : Tokens} {x : Place × Expr} {h : ℕ} → Claim limit word u x h → 0 < length u
claim_some (c.claim i b f j) = omega arith
