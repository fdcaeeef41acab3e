-- The readers of names read names with commas between them, and all of them.
use Rattle.std.proofs.Common.{◌≡◌, ℕ, false, List, [], ◌∷◌, ◌++◌, refl, arith}
use Rattle.sd_base.specs.Value.{Text}
use Rattle.sd_lex.specs.declared.Token.{Token}
use Rattle.sd_parse.specs.declared.class.TokenClass.TheVariants as s
use Rattle.sd_parse.specs.Grammar.{Tokens, IsName}
use Rattle.sd_parse.specs.Rows as w
use Rattle.sd_parse.specs.Rows.{Commas}
use Rattle.sd_parse.specs.Statements as st
use Rattle.sd_parse.specs.Statements.{Names}
use Rattle.sd_parse.specs.Reading.{Got, ahead, class_of}
use Rattle.sd_parse.specs.ReadingRows.{is, plain_name, names}
use Rattle.sd_parse.specs.ReadingRows as reading
use Rattle.sd_parse.proofs.Texts.{Named, named, Nothing, settle, Both, both}
use Rattle.sd_parse.proofs.ExpressionComplete.{name_reads, name_class}
use Rattle.sd_parse.proofs.Lists.{Many, none}
use Rattle.sd_parse.proofs.Rows.{Low, Next, commas_of, of_commas, commas_complete, more_complete}

-- one name
pub data NameText : Tokens → Text → ℕ → Type 0 where
  name_text : {t : Token} {x : Text} → IsName x t → NameText (t ∷ []) x 0

-- the names that follow a name, each after a comma
abbrev pub NextNames : Tokens → List Text → Type 0
NextNames = Many (Next (Low NameText 0))

pub to_plain : (u : Tokens) (x : Text) → Both Named (λ y. Nothing y.0) u x → Low NameText 0 u x
to_plain u x (both (named {t = t} i) n) = settle n (λ z x. Low NameText 0 (t ∷ z) x) (record { height = 0; spelt = name_text i; low = omega arith })

pub names_of : {u : Tokens} {xs : List Text} {h : ℕ} → Commas NameText u xs h → Names u xs
names_of (w.one (name_text i)) = st.one i
names_of (w.more (name_text i) j m) = st.more i j (names_of m)

pub first_name : {t : Token} {x : Text} {u : Tokens} {xs : List Text} → IsName x t → NextNames u xs → Names (t ∷ u) (x ∷ xs)
first_name i m = let w = commas_of NameText 0 (record { height = 0; spelt = name_text i; low = omega arith }) m in names_of w.spelt

plain_name_reads : (u : Tokens) (x : Text) (h : ℕ) (rest : Tokens) → NameText u x h → plain_name (u ++ rest) ≡ Got x rest
unfolding plain_name
plain_name_reads u x h rest (name_text {t = t} i) = rw (name_reads x t rest i) refl

pub commas_names : {u : Tokens} {xs : List Text} → Names u xs → Low (Commas NameText) 0 u xs
commas_names (st.one i) = record { height = 0; spelt = w.one (name_text i); low = omega arith }
commas_names (st.more i j m) = let y = commas_names m in record { height = _; spelt = w.more (name_text i) j y.spelt; low = let z = y.low in omega arith }

pub names_complete : {u : Tokens} {xs : List Text} (rest : Tokens) → is s.Comma (class_of (ahead rest)) ≡ false → Names u xs → names (u ++ rest) ≡ Got xs rest
names_complete rest stops m = let y = commas_names m in commas_complete NameText 0 plain_name (λ _. Unit {0}) (λ rest e. tt) (λ u x h rest f low e. plain_name_reads u x h rest f) rest tt stops y.spelt y.low

pub more_names_complete : {u : Tokens} {xs : List Text} (rest : Tokens) → is s.Comma (class_of (ahead rest)) ≡ false → NextNames u xs → (acc : List Text) → reading.more plain_name acc (u ++ rest) ≡ Got (acc ++ xs) rest
more_names_complete rest stops m acc = more_complete (Low NameText 0) plain_name (λ _. Unit {0}) (λ rest e. tt) (λ u x rest f e. plain_name_reads u x f.height rest f.spelt) rest tt stops m acc

-- names as the first and those that follow
pub data FirstName : Tokens → List Text → Type 0 where
  first_of : {t : Token} {x : Text} {u : Tokens} {xs : List Text} → IsName x t → NextNames u xs → FirstName (t ∷ u) (x ∷ xs)

pub split_names : {u : Tokens} {xs : List Text} → Names u xs → FirstName u xs
split_names (st.one i) = first_of i none
split_names (st.more i j m) = let y = commas_names m in first_of i (of_commas NameText 0 j y.spelt y.low)

pub names_first : {u : Tokens} {xs : List Text} (rest : Tokens) → Names u xs → class_of (ahead (u ++ rest)) ≡ s.Name
names_first rest (st.one {t = t} {x = x} i) = name_class x t i
names_first rest (st.more {t = t} {x = x} i j m) = name_class x t i
