-- A line is read as what its spelling came from.
use Rattle.std.proofs.Common.{◌≡◌, ℕ, suc, ◌+◌, ◌^◌, ◌<◌, List, [], ◌∷◌, ◌++◌, length, get_or, drop, refl, sym, ap, ◌∙◌, subst, arith, add-one}
use Rattle.std.specs.Prelude.{Option, Some, None, IfSome, codes}
use Rattle.std.proofs.lemmas.Option.{some_pair_parts, same_Some, none-some}
use Rattle.std.proofs.lemmas.List.{append_cancel_right}
use Rattle.std.specs.Option.{option_map}
use Rattle.std.specs.Fmt.{decimal}
use Rattle.std.proofs.Math.Seq.{drop-cons}
use Rattle.hex.specs.Hex.{encode_lower}
use Rattle.sd_cert.specs.declared.keyword.Keyword.{Keyword}
use Rattle.sd_cert.specs.declared.keyword.Keyword.TheVariants as word
use Rattle.sd_cert.specs.declared.line.CertState.{CertState}
use Rattle.sd_cert.specs.declared.line.CertState.TheVariants.{Open, Refused}
use Rattle.sd_cert.specs.declared.line.Line.{Line}
use Rattle.sd_cert.specs.declared.line.Line.TheVariants.{Old, New, Settings, Pair}
use Rattle.sd_cert.specs.Fields.{IsReadAs, IsDigest, AreNumbers, numbers_text, after_front}
use Rattle.sd_cert.specs.Keywords.{front_of, with_rest, keyword_in, keywords}
use Rattle.sd_cert.specs.Lines.{line_text, IsLine, pair_fields, IsPairField, state_text}
use Rattle.sd_cert.specs.NumberLines.{word_and_numbers}
use Rattle.sd_cert.proofs.FieldLemmas.{after_front-some}
use Rattle.sd_cert.proofs.FormLemmas.{Fields, digest, pair, numbers, fields_text, AreFields, with_numbers, form_of, word_of, form_text, text-of_form, line_with, of_digests, kind, kind_of, shows}

-- ---- keywords

keyword_in-some : (ks : List Keyword) (text : List ℕ) (k : Keyword) (rest : List ℕ) → keyword_in ks text ≡ Some (k, rest) → text ≡ front_of k ++ rest
keyword_in-some [] text k rest h = absurd (cc)
keyword_in-some (j ∷ ks) text k rest h = go (after_front (front_of j) text) refl h (λ e. keyword_in-some ks text k rest e)
  where
    go : (o : Option (List ℕ)) → after_front (front_of j) text ≡ o → with_rest j o (keyword_in ks text) ≡ Some (k, rest) → (keyword_in ks text ≡ Some (k, rest) → text ≡ front_of k ++ rest) → text ≡ front_of k ++ rest
    go None e f more = more f
    go (Some found) e f more =
        let parts = some_pair_parts j k found rest f
        in after_front-some (front_of j) text found e ∙ ap (λ x. front_of x ++ found) parts.0 ∙ ap (λ t. front_of k ++ t) parts.1

pub keyword-step : (ks : List Keyword) (text : List ℕ) (i : ℕ) (d : Keyword) (Q : Option (Keyword × List ℕ)) → i < length ks → after_front (front_of (get_or ks i d)) text ≡ None → keyword_in (drop i ks) text ≡ Q → keyword_in (drop (i + 1) ks) text ≡ Q
keyword-step ks text i d Q within none h =
    rw add-one (sym (ap (λ o. with_rest (get_or ks i d) o (keyword_in (drop (suc i) ks) text)) none) ∙ sym (ap (λ t. keyword_in t text) (drop-cons ks i d within)) ∙ h)

pub keyword-found : (ks : List Keyword) (text rest : List ℕ) (i : ℕ) (d : Keyword) (Q : Option (Keyword × List ℕ)) → i < length ks → after_front (front_of (get_or ks i d)) text ≡ Some rest → keyword_in (drop i ks) text ≡ Q → Some (get_or ks i d, rest) ≡ Q
keyword-found ks text rest i d Q within found h =
    sym (ap (λ o. with_rest (get_or ks i d) o (keyword_in (drop (suc i) ks) text)) found) ∙ sym (ap (λ t. keyword_in t text) (drop-cons ks i d within)) ∙ h

pub line_by_keyword : (text : List ℕ) (k : Keyword) (rest : List ℕ) (r : Option Line) → keyword_in keywords text ≡ Some (k, rest) → IsReadAs line_text IsLine (front_of k ++ rest) r → IsReadAs line_text IsLine text r
line_by_keyword text k rest r h read = subst (λ (t : List ℕ). IsReadAs line_text IsLine t r) (sym (keyword_in-some keywords text k rest h)) read

-- ---- what is made of something that was read

read-made : {X Y S T : Type 0} (spelling : X → S) (Fits : X → Type 0) (text : S) (r : Option X) (spelled : Y → T) (Suits : Y → Type 0) (whole : T) (make : X → Y) → ((x : X) → Fits x → text ≡ spelling x → Suits (make x) × (whole ≡ spelled (make x)))
    → ((y : Y) → Suits y → whole ≡ spelled y → (x : X) × Fits x × (text ≡ spelling x) × (make x ≡ y)) → IsReadAs spelling Fits text r → IsReadAs spelled Suits whole (option_map make r)
read-made {X} {Y} spelling Fits text r spelled Suits whole make to from read =
    (found r read.0, λ y f e. let x = from y f e in ap (option_map make) (read.1 x.0 x.1 x.2) ∙ ap (λ (z : Y). Some z) x.3)
  where
    found : (o : Option X) → IfSome o (λ x. Fits x × (text ≡ spelling x)) → IfSome (option_map make o) (λ y. Suits y × (whole ≡ spelled y))
    found None h = tt
    found (Some x) h = to x h.0 h.1

-- ---- pairs

last_of : ℕ → List ℕ → ℕ
last_of d [] = d
last_of d (x ∷ xs) = last_of x xs

last_of-append : (d : ℕ) (xs : List ℕ) (y : ℕ) (ys : List ℕ) → last_of d (xs ++ y ∷ ys) ≡ last_of y ys
unfolding last_of
last_of-append d [] y ys = refl
last_of-append d (x ∷ xs) y ys = last_of-append x xs y ys

-- two ends of states are two
pub open_not_refused : (xs ys : List ℕ) → xs ++ codes " open" ≡ ys ++ codes " refused" → ⊥
unfolding last_of
open_not_refused xs ys e =
    let a = last_of-append 0 xs 32 (111 ∷ 112 ∷ 101 ∷ 110 ∷ [])
    in let b = last_of-append 0 ys 32 (114 ∷ 101 ∷ 102 ∷ 117 ∷ 115 ∷ 101 ∷ 100 ∷ [])
    in absurd (omega (arith, sym a ∙ ap (last_of 0) e ∙ b))

pub pair_is : (s : CertState) (fields number : List ℕ) (r : Option ℕ) → fields ≡ number ++ state_text s → IsReadAs decimal (λ n. n < 2 ^ 32) number r → IsReadAs pair_fields IsPairField fields (option_map {U = ℕ × CertState} (λ n. (n, s)) r)
pair_is s fields number r e =
    read-made decimal (λ n. n < 2 ^ 32) number r pair_fields IsPairField fields (λ n. (n, s)) (λ n f h. (f, e ∙ ap (λ t. t ++ state_text s) h)) (λ p f h. same s p.1 p.0 f (sym e ∙ h))
  where
    same : (s t : CertState) (n : ℕ) → n < 2 ^ 32 → number ++ state_text s ≡ decimal n ++ state_text t → (m : ℕ) × (m < 2 ^ 32) × (number ≡ decimal m) × (◌≡◌ {A = ℕ × CertState} (m, s) (n, t))
    same Open Open n f h = (n, f, append_cancel_right number (decimal n) (codes " open") h, refl)
    same Refused Refused n f h = (n, f, append_cancel_right number (decimal n) (codes " refused") h, refl)
    same Open Refused n f h = absurd (open_not_refused number (decimal n) h)
    same Refused Open n f h = absurd (open_not_refused (decimal n) number (sym h))

-- ---- lines by their forms

module _ (fields : List ℕ) (r : Option (List ℕ)) (read : IsReadAs encode_lower IsDigest fields r) where
  digest-read : (k : Keyword) (make : List ℕ → Line) → kind_of k ≡ of_digests → ((d : List ℕ) → line_with k (digest d) ≡ Some (make d)) → ((d : List ℕ) → IsDigest d → IsLine (make d)) → ((d : List ℕ) → line_text (make d) ≡ front_of k ++ encode_lower d) → IsReadAs line_text IsLine (front_of k ++ fields) (option_map make r)
  digest-read k make own line fits text =
      read-made encode_lower IsDigest fields r line_text IsLine (front_of k ++ fields) make (λ d f h. (fits d f, ap (λ t. front_of k ++ t) h ∙ sym (text d)))
      (λ l f h. let s = shows k fields l f h in only l s.shown s.fit s.text s.line (s.own_kind ∙ own)) read
    where
      only : (l : Line) (f : Fields) → AreFields f → fields ≡ fields_text f → line_with k f ≡ Some l → kind f ≡ of_digests → (d : List ℕ) × IsDigest d × (fields ≡ encode_lower d) × (make d ≡ l)
      only l (digest d) fit e is own = (d, fit, e, same_Some (make d) l (sym (line d) ∙ is))
      only l _ fit e is own = absurd (cc)

  pub old_is : IsReadAs line_text IsLine (codes "old " ++ fields) (option_map Old r)
  old_is = digest-read word.Old Old refl (λ d. refl) (λ d h. h) (λ d. refl)

  pub new_is : IsReadAs line_text IsLine (codes "new " ++ fields) (option_map New r)
  new_is = digest-read word.New New refl (λ d. refl) (λ d h. h) (λ d. refl)

pub pair_line_is : (fields : List ℕ) (r : Option (ℕ × CertState)) → IsReadAs pair_fields IsPairField fields r → IsReadAs line_text IsLine (codes "pair " ++ fields) (option_map (λ p. Pair p.0 p.1) r)
pair_line_is fields r =
    read-made pair_fields IsPairField fields r line_text IsLine (codes "pair " ++ fields) (λ p. Pair p.0 p.1) (λ p f h. (f, ap (λ t. codes "pair " ++ t) h))
    (λ l f h. let s = shows word.Pair fields l f h in only l s.shown s.fit s.text s.line)
  where
    only : (l : Line) (f : Fields) → AreFields f → fields ≡ fields_text f → line_with word.Pair f ≡ Some l → (p : ℕ × CertState) × IsPairField p × (fields ≡ pair_fields p) × (Pair p.0 p.1 ≡ l)
    only l (pair i s) fit e is = ((i, s), fit, e, same_Some (Pair i s) l is)
    only l _ fit e is = absurd (cc)

-- ---- lines of numbers

form-numbers : (l : Line) (k : Keyword) (ns : List ℕ) → word_and_numbers l ≡ Some (k, ns) → form_of l ≡ Some (k, numbers ns)
form-numbers (Old d) k ns e = absurd (cc)
form-numbers (New d) k ns e = absurd (cc)
form-numbers (Settings d) k ns e = absurd (cc)
form-numbers (Pair i s) k ns e = absurd (cc)
form-numbers _ k ns e = ap with_numbers e

module _ (k : Keyword) (old : k ≡ word.Old → ⊥) (new : k ≡ word.New → ⊥) (settings : k ≡ word.Settings → ⊥) (no_pair : k ≡ word.Pair → ⊥) where
  numbered-form : (l : Line) (f : Fields) → form_of l ≡ Some (k, f) → (ns : List ℕ) × (f ≡ numbers ns) × (word_and_numbers l ≡ Some (k, ns))
  numbered-form (Old d) f e = absurd (old (sym (same_Some word.Old k (ap word_of e))))
  numbered-form (New d) f e = absurd (new (sym (same_Some word.New k (ap word_of e))))
  numbered-form (Settings d) f e = absurd (settings (sym (same_Some word.Settings k (ap word_of e))))
  numbered-form (Pair i s) f e = absurd (no_pair (sym (same_Some word.Pair k (ap word_of e))))
  numbered-form l f e = go (word_and_numbers l) refl e
    where
      go : (o : Option (Keyword × List ℕ)) → word_and_numbers l ≡ o → with_numbers o ≡ Some (k, f) → (ns : List ℕ) × (f ≡ numbers ns) × (word_and_numbers l ≡ Some (k, ns))
      go None is h = absurd (cc)
      go (Some (j, ns)) is h =
          let parts = some_pair_parts j k (numbers ns) f h
          in (ns, sym parts.1, is ∙ ap (λ (w : Keyword). Some (w, ns)) parts.0)

  module _ (fields : List ℕ) (r : Option (List ℕ)) (read : IsReadAs numbers_text AreNumbers fields r) where
    -- the numbers of a line with this word are those that were read
    read-numbers : (l : Line) → IsLine l → front_of k ++ fields ≡ line_text l → (ns : List ℕ) × (r ≡ Some ns) × (word_and_numbers l ≡ Some (k, ns))
    read-numbers l h e =
        let s = shows k fields l h e in
        let parts = numbered-form l s.shown s.form in
        (parts.0, read.1 parts.0 (subst AreFields parts.1 s.fit) (s.text ∙ ap fields_text parts.1), parts.2)

    pub no_numbers : r ≡ None → IsReadAs line_text IsLine (front_of k ++ fields) None
    no_numbers is = (tt, λ l h e. let p = read-numbers l h e in absurd (none-some p.0 (sym is ∙ p.1)))

    pub numbers_are : (ns : List ℕ) (o : Option Line) → r ≡ Some ns → IsReadAs word_and_numbers IsLine (Some (k, ns)) o → IsReadAs line_text IsLine (front_of k ++ fields) o
    numbers_are ns o is line = (found o line.0, λ l h e. let p = read-numbers l h e in line.1 l h (ap (λ (ms : List ℕ). Some (k, ms)) (same_Some ns p.0 (sym is ∙ p.1)) ∙ sym p.2))
      where
        spelled : (AreNumbers ns) × (fields ≡ numbers_text ns)
        spelled = subst (λ (x : Option (List ℕ)). IfSome x (λ ms. (AreNumbers ms) × (fields ≡ numbers_text ms))) is read.0

        found : (p : Option Line) → IfSome p (λ l. IsLine l × (Some (k, ns) ≡ word_and_numbers l)) → IfSome p (λ l. IsLine l × (front_of k ++ fields ≡ line_text l))
        found None h = tt
        found (Some l) h = (h.0, ap (λ t. front_of k ++ t) spelled.1 ∙ sym (ap form_text (form-numbers l k ns (sym h.1))) ∙ sym (text-of_form l h.0))
