-- A line has a word and fields, and its text shows both.
use Rattle.std.proofs.Common.{◌≡◌, ℕ, ◌^◌, ◌<◌, List, [], ◌∷◌, ◌++◌, refl, sym, ap, ◌∙◌, arith}
use Rattle.std.specs.Prelude.{Option, Some, None, codes}
use Rattle.std.specs.Fmt.{decimal}
use Rattle.std.proofs.lemmas.Option.{some_pair_parts, same_Some}
use Rattle.hex.specs.Hex.{encode_lower}
use Rattle.sd_kernel.specs.declared.Step.TheVariants.{Term, Split, Order, Ite, Chain, Close, Rows as RowsStep}
use Rattle.sd_kernel.specs.declared.NodeLine.TheVariants.{Eq, Le, Read, Diff}
use Rattle.sd_kernel.specs.declared.RowLine.TheVariants.{Fact, Back, Add, Cut}
use Rattle.sd_cert.specs.declared.keyword.Keyword.{Keyword}
use Rattle.sd_cert.specs.declared.keyword.Keyword.TheVariants as word
use Rattle.sd_cert.specs.declared.line.CertState.{CertState}
use Rattle.sd_cert.specs.declared.line.Line.{Line}
use Rattle.sd_cert.specs.declared.line.Line.TheVariants.{Version, Old, New, Settings, Pairs, Pair, Candidate, Step as StepLine, Rows, Row, End}
use Rattle.sd_cert.specs.Fields.{IsDigest, AreNumbers, numbers_text}
use Rattle.sd_cert.specs.Keywords.{front_of, keyword_in, keywords}
use Rattle.sd_cert.specs.Lines.{line_text, IsLine, state_text}
use Rattle.sd_cert.specs.NumberLines.{word_and_numbers}
use Rattle.sd_cert.proofs.NumberLemmas.{small-numbers}

-- ---- words

-- no word is a front of another
own-keyword : (k : Keyword) (rest : List ℕ) → keyword_in keywords (front_of k ++ rest) ≡ Some (k, rest)
own-keyword word.Version rest = refl
own-keyword _ rest = refl

one-keyword : (j k : Keyword) (xs ys : List ℕ) → front_of j ++ xs ≡ front_of k ++ ys → (j ≡ k) × (xs ≡ ys)
one-keyword j k xs ys e = some_pair_parts j k xs ys (sym (own-keyword j xs) ∙ ap (keyword_in keywords) e ∙ own-keyword k ys)

no-keyword : (k : Keyword) (xs : List ℕ) → front_of k ++ xs ≡ codes "end" → ⊥
no-keyword k xs e = absurd (let h = own-keyword k xs in let j = ap (keyword_in keywords) e in cc)

-- ---- forms

-- what follows the word of a line
pub data Fields : Type 0 where
  digest : List ℕ → Fields
  pair : ℕ → CertState → Fields
  numbers : List ℕ → Fields

abbrev pub fields_text : Fields → List ℕ
fields_text (digest d) = encode_lower d
fields_text (pair i s) = decimal i ++ state_text s
fields_text (numbers ns) = numbers_text ns

abbrev pub AreFields : Fields → Type 0
AreFields (digest d) = IsDigest d
AreFields (pair i s) = i < 2 ^ 32
AreFields (numbers ns) = AreNumbers ns

abbrev pub Form : Type 0
Form = Option (Keyword × Fields)

abbrev pub with_numbers : Option (Keyword × List ℕ) → Form
with_numbers None = None
with_numbers (Some f) = Some (f.0, numbers f.1)

abbrev pub form_of : Line → Form
form_of (Old d) = Some (word.Old, digest d)
form_of (New d) = Some (word.New, digest d)
form_of (Settings d) = Some (word.Settings, digest d)
form_of (Pair i s) = Some (word.Pair, pair i s)
form_of l = with_numbers (word_and_numbers l)

abbrev pub word_of : Form → Option Keyword
word_of None = None
word_of (Some f) = Some f.0

abbrev pub form_text : Form → List ℕ
form_text None = codes "end"
form_text (Some f) = front_of f.0 ++ fields_text f.1

abbrev pub IsForm : Form → Type 0
IsForm None = Unit {0}
IsForm (Some f) = AreFields f.1

pub text-of_form : (l : Line) → IsLine l → line_text l ≡ form_text (form_of l)
text-of_form (StepLine (Term (Eq a b))) h = refl
text-of_form (StepLine (RowsStep rows)) h = absurd h
text-of_form (Row (Fact k)) h = refl
text-of_form _ h = refl

pub form-fits : (l : Line) → IsLine l → IsForm (form_of l)
form-fits (Version n) h = (h, tt)
form-fits (Pairs n) h = (h, tt)
form-fits (Candidate k) h = (omega arith, tt)
form-fits (StepLine (Term (Eq a b))) h = (omega (arith, h.0), (omega (arith, h.1), tt))
form-fits (StepLine (Term _)) h = (omega (arith, h.0), (omega (arith, h.1), tt))
form-fits (StepLine (Order e l r)) h = (omega (arith, h.0), (omega (arith, h.1), (omega (arith, h.2), tt)))
form-fits (StepLine (Ite t e)) h = (omega (arith, h.0), (omega (arith, h.1), tt))
form-fits (StepLine (Chain e fs)) h = small-numbers e fs h.0 h.1
form-fits (StepLine (RowsStep rows)) h = absurd h
form-fits (StepLine _) h = (omega arith, tt)
form-fits (Rows n) h = (h, tt)
form-fits (Row (Add a m b n)) h = (omega (arith, h.0), (h.1, (omega (arith, h.2), (h.3, tt))))
form-fits (Row _) h = (omega arith, tt)
form-fits End h = tt
form-fits _ h = h

-- ---- the line of a form

-- the line of this word and these fields
abbrev pub line_with : Keyword → Fields → Option Line
line_with word.Old (digest d) = Some (Old d)
line_with word.New (digest d) = Some (New d)
line_with word.Settings (digest d) = Some (Settings d)
line_with word.Pair (pair i s) = Some (Pair i s)
line_with word.Version (numbers (n ∷ [])) = Some (Version n)
line_with word.Pairs (numbers (n ∷ [])) = Some (Pairs n)
line_with word.Candidate (numbers (k ∷ [])) = Some (Candidate k)
line_with word.TermEq (numbers (a ∷ b ∷ [])) = Some (StepLine (Term (Eq a b)))
line_with word.TermLe (numbers (a ∷ b ∷ [])) = Some (StepLine (Term (Le a b)))
line_with word.TermRead (numbers (a ∷ b ∷ [])) = Some (StepLine (Term (Read a b)))
line_with word.TermDiff (numbers (a ∷ b ∷ [])) = Some (StepLine (Term (Diff a b)))
line_with word.Split (numbers (t ∷ [])) = Some (StepLine (Split t))
line_with word.Order (numbers (e ∷ l ∷ r ∷ [])) = Some (StepLine (Order e l r))
line_with word.Ite (numbers (t ∷ e ∷ [])) = Some (StepLine (Ite t e))
line_with word.Chain (numbers (e ∷ fs)) = Some (StepLine (Chain e fs))
line_with word.Close (numbers (k ∷ [])) = Some (StepLine (Close k))
line_with word.Rows (numbers (n ∷ [])) = Some (Rows n)
line_with word.Fact (numbers (k ∷ [])) = Some (Row (Fact k))
line_with word.Back (numbers (k ∷ [])) = Some (Row (Back k))
line_with word.Add (numbers (a ∷ m ∷ b ∷ n ∷ [])) = Some (Row (Add a m b n))
line_with word.Cut (numbers (a ∷ [])) = Some (Row (Cut a))
line_with _ _ = None

abbrev line_of : Form → Option Line
line_of None = Some End
line_of (Some f) = line_with f.0 f.1

line-of_form : (l : Line) → IsLine l → line_of (form_of l) ≡ Some l
line-of_form (StepLine (Term (Eq a b))) h = refl
line-of_form (StepLine (RowsStep rows)) h = absurd h
line-of_form (Row (Fact k)) h = refl
line-of_form _ h = refl

-- which fields follow a word
pub data Kind : Type 0 where
  of_digests : Kind
  of_pairs : Kind
  of_numbers : Kind

abbrev pub kind : Fields → Kind
kind (digest d) = of_digests
kind (pair i s) = of_pairs
kind (numbers ns) = of_numbers

abbrev pub kind_of : Keyword → Kind
kind_of word.Old = of_digests
kind_of word.New = of_digests
kind_of word.Settings = of_digests
kind_of word.Pair = of_pairs
kind_of _ = of_numbers

kind-with : (f : Fields) (k : Keyword) (l : Line) → line_with k f ≡ Some l → kind f ≡ kind_of k
kind-with (digest d) word.Old l e = refl
kind-with (digest d) _ l e = cc
kind-with (pair i s) word.Pair l e = refl
kind-with (pair i s) _ l e = cc
kind-with (numbers ns) word.Old l e = absurd (cc)
kind-with (numbers ns) _ l e = cc

-- what the text of a line shows where it begins with a word
pub record Shows (k : Keyword) (fields : List ℕ) (l : Line) : Type 0 where
  pub shown : Fields
  pub form : form_of l ≡ Some (k, shown)
  pub fit : AreFields shown
  pub text : fields ≡ fields_text shown
  pub line : line_with k shown ≡ Some l
  pub own_kind : kind shown ≡ kind_of k

pub shows : (k : Keyword) (fields : List ℕ) (l : Line) → IsLine l → front_of k ++ fields ≡ line_text l → Shows k fields l
shows k fields l h e = go (form_of l) refl (form-fits l h) (e ∙ text-of_form l h)
  where
    go : (o : Form) → form_of l ≡ o → IsForm o → front_of k ++ fields ≡ form_text o → Shows k fields l
    go None is fit e = absurd (no-keyword k fields e)
    go (Some (j, f)) is fit e =
        let parts = one-keyword k j fields (fields_text f) e in
        let form : form_of l ≡ Some (k, f) = is ∙ ap (λ (w : Keyword). Some (w, f)) (sym parts.0) in
        let line : line_with k f ≡ Some l = sym (ap line_of form) ∙ line-of_form l h in
        record { shown = f; form = form; fit = fit; text = parts.1; line = line; own_kind = kind-with f k l line }

-- the text shows the line, where it shows each kind of fields
module _ (one-digest : (c d : List ℕ) → IsDigest c → IsDigest d → encode_lower c ≡ encode_lower d → c ≡ d)
    (one-pair : (i j : ℕ) (s t : CertState) → i < 2 ^ 32 → j < 2 ^ 32 → decimal i ++ state_text s ≡ decimal j ++ state_text t → pair i s ≡ pair j t)
    (one-numbers : (ns ms : List ℕ) → AreNumbers ns → AreNumbers ms → numbers_text ns ≡ numbers_text ms → ns ≡ ms) where
  one-fields : (f g : Fields) → AreFields f → AreFields g → kind f ≡ kind g → fields_text f ≡ fields_text g → f ≡ g
  one-fields (digest c) (digest d) p q k e = ap digest (one-digest c d p q e)
  one-fields (pair i s) (pair j t) p q k e = one-pair i j s t p q e
  one-fields (numbers ns) (numbers ms) p q k e = ap numbers (one-numbers ns ms p q e)
  one-fields _ _ p q k e = absurd (cc)

  pub one-line : (l m : Line) → IsLine l → IsLine m → line_text l ≡ line_text m → l ≡ m
  one-line l m f g e = go (form_of l) (form-fits l f) (line-of_form l f) (sym (text-of_form l f))
    where
      go : (o : Form) → IsForm o → line_of o ≡ Some l → form_text o ≡ line_text l → l ≡ m
      go (Some (k, x)) fit is text =
          let s = shows k (fields_text x) m g (text ∙ e) in
          let same = one-fields x s.shown fit s.fit (kind-with x k l is ∙ sym s.own_kind) s.text in
          same_Some l m (sym is ∙ ap (line_with k) same ∙ s.line)
      go None fit is text = same_Some l m (sym is ∙ last (form_of m) (text ∙ e ∙ text-of_form m g) ∙ line-of_form m g)
        where
          last : (o : Form) → codes "end" ≡ form_text o → Some End ≡ line_of o
          last None t = refl
          last (Some (k, x)) t = absurd (no-keyword k (fields_text x) (sym t))
