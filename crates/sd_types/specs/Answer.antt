-- Checks one after another, and what a call that makes them answers.
use Rattle.std.specs.Prelude.{◌≡◌, ◌≢◌, List, [], ◌∷◌, Result, Ok, Err, IfOk, IfErr, OnOk}
use Rattle.sd_types.specs.declared.refusal.TypeError.{TypeError}
use Rattle.sd_types.specs.declared.refusal.TypeError.TheVariants.{NoMemory}

-- the first refusal, or what the second makes of the first
abbrev pub and_then : {A B : Type 0} → Result A TypeError → (A → Result B TypeError) → Result B TypeError
and_then (Ok a) f = f a
and_then (Err e) f = Err e

-- the first refusal of two checks
abbrev pub both : {B : Type 0} → Result (Unit {0}) TypeError → Result B TypeError → Result B TypeError
both a b = and_then a (λ _. b)

-- the first refusal among those of the elements
abbrev pub each : {A : Type 0} → (A → Result (Unit {0}) TypeError) → List A → Result (Unit {0}) TypeError
each f [] = Ok tt
each f (x ∷ xs) = both (f x) (each f xs)

-- what the elements give, in order, or the first refusal
abbrev pub all_of : {A B : Type 0} → (A → Result B TypeError) → List A → Result (List B) TypeError
all_of f [] = Ok []
all_of f (x ∷ xs) = and_then (f x) (λ b. and_then (all_of f xs) (λ bs. Ok (b ∷ bs)))

-- the answer is the defined one, or memory ran out
pub record Answers {A : Type 0} (defined answer : Result A TypeError) : Type 0 where
  pub ok : IfOk answer (λ a. defined ≡ Ok a)
  pub err : IfErr answer (λ e. e ≢ NoMemory → defined ≡ Err e)

-- the same of a call that leaves what is defined in place of the old value
pub record Leaves {A : Type 0} (defined : Result A TypeError) (new : A)
    (answer : Result (Unit {0}) TypeError) : Type 0 where
  pub ok : OnOk answer (defined ≡ Ok new)
  pub err : IfErr answer (λ e. e ≢ NoMemory → defined ≡ Err e)
