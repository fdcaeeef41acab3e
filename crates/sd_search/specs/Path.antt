-- the splits of a branch, and what they leave open
use Rattle.std.specs.Prelude.{◌≡◌, ◌⊎◌, ℕ, true, false, cond, List, [], ◌∷◌, ◌++◌}
use Rattle.std.specs.List.{AllByRecursion}
use Rattle.sd_term.specs.declared.cube.Literal.{Literal}
use Rattle.sd_kernel.specs.Known.{Trail}

-- the second branches that wait for the splits of a path, the latest first; a literal that is true is the first branch
-- of its split
abbrev pub waiting : Trail → Trail → List Trail
waiting before [] = []
waiting before (f ∷ fs) = waiting (before ++ f ∷ []) fs ++ cond f.1 ((before ++ (f.0, false) ∷ []) ∷ []) []

-- the literals were searched before the path: they part from it at a term that is true in them and false on the path
abbrev pub IsBehind : Trail → Trail → Type 0
IsBehind [] ls = ⊥
IsBehind (f ∷ fs) [] = ⊥
IsBehind (f ∷ fs) (l ∷ ls) = ((l.0 ≡ f.0) × (l.1 ≡ true) × (f.1 ≡ false)) ⊎ ((l ≡ f) × IsBehind fs ls)

-- the same, or they go on from the path
abbrev pub IsPast : Trail → Trail → Type 0
IsPast [] ls = Unit {0}
IsPast (f ∷ fs) [] = ⊥
IsPast (f ∷ fs) (l ∷ ls) = ((l.0 ≡ f.0) × (l.1 ≡ true) × (f.1 ≡ false)) ⊎ ((l ≡ f) × IsPast fs ls)

-- all literals are the second branches of their splits
abbrev pub AllSecond : List Literal → Type 0
AllSecond path = AllByRecursion (λ (l : Literal). l.value ≡ false) path

-- the last split with an open second branch is turned to it
pub record IsTurned (old new : List Literal) : Type 0 where
  pub front : List Literal
  pub term : ℕ
  pub done : List Literal
  pub old_is : old ≡ front ++ record { term = term; value = true } ∷ done
  pub new_is : new ≡ front ++ record { term = term; value = false } ∷ []
  pub all_second : AllSecond done
