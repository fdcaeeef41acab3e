-- Lines have no line feeds, so a text has one first line at most.
use Rattle.std.proofs.Common.{◌≡◌, ℕ, ◌==◌, Bool, true, false, List, [], ◌∷◌, ◌++◌, get_or, sym, refl, ap, ◌∙◌, arith, append_assoc}
use Rattle.std.specs.Prelude.{Some, None}
use Rattle.std.specs.Fmt.{decimal}
use Rattle.std.proofs.lemmas.List.Folds.{list_any_none}
use Rattle.hex.specs.Hex.{encode_lower, is_hex_digit}
use Rattle.hex.proofs.HexLemmas.{decode_of-encode_lower, decode_of-ok}
use borrow.Author.Tests.{eqb-true}
use Rattle.sd_cert.specs.declared.line.CertState.TheVariants.{Open, Refused}
use Rattle.sd_cert.specs.declared.line.CertState.{CertState}
use Rattle.sd_cert.specs.declared.keyword.Keyword.{Keyword}
use Rattle.sd_cert.specs.declared.keyword.Keyword.TheVariants as word
use Rattle.sd_cert.specs.declared.line.Line.{Line}
use Rattle.sd_cert.specs.Fields.{IsDigest}
use Rattle.sd_cert.specs.Keywords.{front_of}
use Rattle.sd_cert.specs.Lines.{line_text, IsLine, state_text}
use Rattle.sd_cert.specs.Text.{has_feed, lines_text, BeginsWithoutLine}
use Rattle.sd_cert.proofs.ByteLemmas.{no_byte-append, first-unique}
use Rattle.sd_cert.proofs.NumberLemmas.{no_feed-decimal, no_feed-numbers}
use Rattle.sd_cert.proofs.FormLemmas.{Fields, digest, pair, numbers, fields_text, AreFields, Form, IsForm, form_of, form_text, form-fits, text-of_form}

-- ---- no line feed in a line

no_feed-digest : (d : List ℕ) → IsDigest d → has_feed (encode_lower d) ≡ false
no_feed-digest d h = list_any_none (λ b. b == 10) (encode_lower d) (λ k e l. go (get_or (encode_lower d) k e) ((decode_of-ok (encode_lower d) d (decode_of-encode_lower d h.bytes)).1 k e l))
  where
    go : (c : ℕ) → is_hex_digit c ≡ true → (c == 10) ≡ false
    go c k = test (c == 10) refl
      where
        test : (t : Bool) → (c == 10) ≡ t → (c == 10) ≡ false
        test true e = absurd (let f = ap is_hex_digit (eqb-true c 10 e) in cc)
        test false e = e

no_feed-state : (s : CertState) → has_feed (state_text s) ≡ false
no_feed-state Open = refl
no_feed-state Refused = refl

no_feed-fields : (f : Fields) → AreFields f → has_feed (fields_text f) ≡ false
no_feed-fields (digest d) h = no_feed-digest d h
no_feed-fields (pair i s) h = no_byte-append 10 (decimal i) (state_text s) (no_feed-decimal i (omega arith)) (no_feed-state s)
no_feed-fields (numbers ns) h = no_feed-numbers ns h

no_feed-front : (k : Keyword) → has_feed (front_of k) ≡ false
no_feed-front word.Version = refl
no_feed-front _ = refl

pub no_feed : (l : Line) → IsLine l → has_feed (line_text l) ≡ false
no_feed l h = ap has_feed (text-of_form l h) ∙ go (form_of l) (form-fits l h)
  where
    go : (o : Form) → IsForm o → has_feed (form_text o) ≡ false
    go None f = refl
    go (Some (k, x)) f = no_byte-append 10 (front_of k) (fields_text x) (no_feed-front k) (no_feed-fields x f)

-- ---- one first line

pub first_line-unique : (xs ys us vs : List ℕ) → has_feed xs ≡ false → has_feed us ≡ false → xs ++ 10 ∷ ys ≡ us ++ 10 ∷ vs → (xs ≡ us) × (ys ≡ vs)
first_line-unique = first-unique 10

pub without_form : (text front rest : List ℕ) → text ≡ front ++ 10 ∷ rest → has_feed front ≡ false → ((l : Line) → IsLine l → front ≡ line_text l → ⊥) → BeginsWithoutLine text
without_form text front rest whole h none l more f e = none l f (first_line-unique front rest (line_text l) more h (no_feed l f) (sym whole ∙ e)).0

pub lines_text-append : (ls ms : List Line) → lines_text (ls ++ ms) ≡ lines_text ls ++ lines_text ms
lines_text-append [] ms = refl
lines_text-append (l ∷ ls) ms = ap (λ t. line_text l ++ 10 ∷ t) (lines_text-append ls ms) ∙ sym (append_assoc (line_text l) (10 ∷ lines_text ls) (lines_text ms))

pub whole-push : (text rest after : List ℕ) (ls : List Line) (l : Line) → text ≡ lines_text ls ++ rest → rest ≡ line_text l ++ 10 ∷ after → text ≡ lines_text (ls ++ l ∷ []) ++ after
whole-push text rest after ls l h e =
    h ∙ ap (λ t. lines_text ls ++ t) (e ∙ sym (append_assoc (line_text l) (10 ∷ []) after))
    ∙ sym (append_assoc (lines_text ls) (line_text l ++ 10 ∷ []) after) ∙ ap (λ t. t ++ after) (sym (lines_text-append ls (l ∷ [])))
