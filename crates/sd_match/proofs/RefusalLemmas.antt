-- Names that both programs declare.
use Rattle.std.proofs.Common.{◌≡◌, ◌∙◌, sym, ap, refl, ℕ, suc, Bool, true, false, List, [], ◌∷◌}
use Rattle.std.specs.Prelude.{◌&&◌, not, Option, Some, if◌then◌else◌}
use Rattle.std.specs.Bool.{beq}
use Rattle.std.specs.Option.{option_map}
use Rattle.sd_base.specs.declared.Var.{Var}
use Rattle.sd_base.specs.declared.Sort.{Sort}
use Rattle.sd_base.specs.Value.{Text, same_text}
use Rattle.sd_core.specs.declared.Function.{Function}
use Rattle.sd_core.specs.Formed.{declared_as}
use Rattle.sd_match.specs.Places.{first_named}
use Rattle.sd_match.specs.Refusals.{sort_named, is_other_sort, function_from}
use Rattle.sd_match.proofs.KeptLemmas.{kept_from, kept_named}

sort_named-is : (ys : List Var) (f : Text) → sort_named ys f ≡ option_map (λ y. y.sort) (first_named (λ y. y.name) ys f)
sort_named-is [] f = refl
sort_named-is (y ∷ ys) f = go (same_text f y.name) (sort_named-is ys f)
  where
    go : (b : Bool) → sort_named ys f ≡ option_map (λ y. y.sort) (first_named (λ y. y.name) ys f) → (if b then Some y.sort else sort_named ys f) ≡ option_map (λ y. y.sort) (if b then Some y else first_named (λ y. y.name) ys f)
    go true h = refl
    go false h = h

pub is_other_sort-named : (s : Sort) (ys : List Var) (f : Text) (found : Option Var) → found ≡ first_named (λ y. y.name) ys f → is_other_sort s (option_map (λ y. y.sort) found) ≡ is_other_sort s (sort_named ys f)
is_other_sort-named s ys f found is = ap (λ o. is_other_sort s (option_map (λ y. y.sort) o)) is ∙ ap (is_other_sort s) (sym (sort_named-is ys f))

-- ---- functions and constants

abbrev pub is_as : Bool → Function → Bool
is_as constant g = beq g.constant constant

abbrev pub function_name : Function → Text
function_name g = g.name

pub beq-same : (b : Bool) → beq b b ≡ true
beq-same true = refl
beq-same false = refl

beq-true : (b : Bool) → beq b true ≡ b
beq-true true = refl
beq-true false = refl

beq-false : (b : Bool) → beq b false ≡ not b
beq-false true = refl
beq-false false = refl

pub function_kept : (constant : Bool) (n : ℕ) (gs : List Function) (f : Text) → function_from constant n gs f ≡ kept_from (is_as constant) function_name n gs f
function_kept constant n [] f = refl
function_kept constant n (g ∷ gs) f = ap (λ o. if beq g.constant constant && same_text f g.name then Some n else o) (function_kept constant (suc n) gs f)

pub declared_kept : (constant : Bool) (gs : List Function) (f : Text) → declared_as constant gs f ≡ kept_named (is_as constant) function_name gs f
declared_kept true [] f = refl
declared_kept false [] f = refl
declared_kept true (g ∷ gs) f = λ k. if sym (beq-true g.constant) k && same_text f g.name then Some g else declared_kept true gs f k
declared_kept false (g ∷ gs) f = λ k. if sym (beq-false g.constant) k && same_text f g.name then Some g else declared_kept false gs f k
