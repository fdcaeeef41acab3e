-- A valuation whose symbols have the values of a list, by their numbers.
use Rattle.std.proofs.Common.{◌≡◌, ℕ, suc, List, [], ◌∷◌, ◌++◌, length, get_or, subst, ◌∙◌, arith, append_assoc, length-append}
use Rattle.std.specs.Prelude.{false}
use Rattle.std.proofs.Math.Seq.{get_or-append_seam}
use Rattle.std.proofs.lemmas.List.{length-map}
use Rattle.sd_base.specs.declared.Var.{Var}
use Rattle.sd_base.specs.Value.{Value, Truth}
use Rattle.sd_base.specs.Meaning.{Interpretation}
use Rattle.sd_core.specs.Formed.{sorts_of}
use Rattle.sd_core.specs.Meanings.{HaveSorts}
use Rattle.sd_term.specs.Truth.{Valuation}
use Rattle.sd_vcgen.specs.Laws.{Carries}
use Rattle.sd_vcgen.proofs.Logs.{sorted-length}

pub vars-length : (vars : List Var) (xs : List Value) → HaveSorts (sorts_of vars) xs → length xs ≡ length vars
vars-length vars xs h = sorted-length (sorts_of vars) xs h ∙ length-map vars (λ x. x.sort)

abbrev pub carrier : Interpretation → List Value → Valuation
carrier I xs = record { symbol = λ k. get_or xs k (Truth false); by = I }

carries-rest : (I : Interpretation) (before xs : List Value) → Carries (carrier I (before ++ xs)) (length before) xs
carries-rest I before [] = tt
carries-rest I before (x ∷ xs) =
    let moved = subst (λ (ys : List Value). Carries (carrier I ys) (length (before ++ x ∷ [])) xs) (append_assoc before (x ∷ []) xs) (carries-rest I (before ++ x ∷ []) xs) in
    let longer : length (before ++ x ∷ []) ≡ suc (length before) = length-append before (x ∷ []) ∙ omega arith in
    (get_or-append_seam before x xs (Truth false), subst (λ (k : ℕ). Carries (carrier I (before ++ x ∷ xs)) k xs) longer moved)

pub carries-all : (I : Interpretation) (xs : List Value) → Carries (carrier I xs) 0 xs
carries-all I xs = carries-rest I [] xs
