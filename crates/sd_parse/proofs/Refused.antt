-- Where the code finds the token that is refused.
use Rattle.std.proofs.Common.{◌≡◌, ℕ, zero, suc, ◌+◌, ◌-◌, ◌≤◌, true, false, [], ◌∷◌, ◌++◌, length, length-append, drop, take, refl, ap, sym, ◌∙◌, subst, arith}
use Rattle.sd_base.specs.declared.Place.{Place}
use Rattle.sd_parse.specs.Grammar.{Tokens}
use Rattle.sd_parse.specs.Programs.{Spells}
use Rattle.sd_parse.specs.Refusals.{IsSyntax, IsDeep, place_of}
use Rattle.sd_parse.specs.Answer.{IsStar, Rising, star_at}
use Rattle.sd_parse.specs.Reading.{Fault, Syntax, Deep, Bad}
use Rattle.sd_parse.specs.ReadingPrograms.{program}
use Rattle.sd_parse.proofs.Local.{rest_of}
use Rattle.sd_parse.proofs.ProgramWidening.{widen_program}
use Rattle.sd_parse.proofs.ProgramExact.{program_syntax, program_deep}
use Rattle.sd_parse.proofs.Stars.{star_yes, star_no, drop_before}

take_all : (n : ℕ) (ts : Tokens) → length ts ≤ n → take n ts ≡ ts
take_all zero [] low = refl
take_all (suc n) [] low = refl
take_all zero (t ∷ ts) low = absurd (omega arith)
take_all (suc n) (t ∷ ts) low = ap (λ ts. t ∷ ts) (take_all n ts (omega arith))

module _ (ts rest : Tokens) (end : Place) (k : Fault) (e : program 200 ts ≡ Bad k rest) where
  abbrev before : Tokens
  before = ((widen_program 200).local.suffix ts).0

  split : ts ≡ before ++ rest
  split = ((widen_program 200).local.suffix ts).1 ∙ ap (λ s. before ++ rest_of s) e

  size : length ts ≡ length before + length rest
  size = ap length split ∙ length-append before rest

  pub fits : (left : ℕ) → left ≡ length rest → left ≤ length ts
  fits left same = let z = size in omega arith

  module _ (left at : ℕ) (same : left ≡ length rest) (here : at ≡ length ts - left) where
    stands : at ≡ length before
    stands = let z = size in omega arith

    pub ahead_is : take (length ts - at) (drop at ts) ≡ rest
    ahead_is =
        let dropped : drop at ts ≡ rest = ap (λ n. drop n ts) stands ∙ ap (drop (length before)) split ∙ drop_before before rest in
        let long : length rest ≤ length ts - at = let z = size in let y = stands in omega arith in
        ap (take (length ts - at)) dropped ∙ take_all (length ts - at) rest long

    place_is : (place : Place) → place ≡ place_of end (take (length ts - at) (drop at ts)) → place ≡ place_of end rest
    place_is place p = p ∙ ap (place_of end) ahead_is

    pub is_star : (place : Place) → place ≡ place_of end (take (length ts - at) (drop at ts)) → star_at ts at ≡ true → IsStar ts place
    is_star place p seen = subst (IsStar ts) (sym (place_is place p)) (star_yes ts before end rest split (ap (star_at ts) (sym stands) ∙ seen))

    pub no_star : (place : Place) → place ≡ place_of end (take (length ts - at) (drop at ts)) → Rising 0 ts end.byte → star_at ts at ≡ false → IsStar ts place → ⊥
    no_star place p rise none h = star_no ts before end rest split rise (ap (star_at ts) (sym stands) ∙ none) (subst (IsStar ts) (place_is place p) h)

    pub is_syntax : (place : Place) → place ≡ place_of end (take (length ts - at) (drop at ts)) → k ≡ Syntax → IsSyntax Spells 200 ts end place
    is_syntax place p f = subst (IsSyntax Spells 200 ts end) (sym (place_is place p)) (program_syntax 200 (omega arith) ts end rest (e ∙ ap (λ k. Bad k rest) f))

    pub is_deep : (place : Place) → place ≡ place_of end (take (length ts - at) (drop at ts)) → k ≡ Deep → IsDeep Spells 200 ts place
    is_deep place p f = subst (IsDeep Spells 200 ts) (sym (place_is place p)) (program_deep 200 (omega arith) ts end rest (e ∙ ap (λ k. Bad k rest) f))
