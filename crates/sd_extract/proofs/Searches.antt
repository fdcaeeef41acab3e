-- The cases of a search for the first thing that passes a test.
use Rattle.std.proofs.Common.{◌≡◌, Option, Some, None, Bool, true, false, cond, refl}
use Rattle.std.proofs.lemmas.Option.{same_Some}

-- it is the one at the front, or it is found later
pub first_or_later : {X Q : Type 0} (test : Bool) (x v : X) (rest : Option X) → cond test (Some x) rest ≡ Some v → (test ≡ true → x ≡ v → Q) → (test ≡ false → rest ≡ Some v → Q) → Q
first_or_later true x v rest h here later = here refl (same_Some x v h)
first_or_later false x v rest h here later = later refl h

-- nothing is found later either
pub none_later : {X : Type 0} (test : Bool) (x : X) (rest : Option X) → cond test (Some x) rest ≡ None → (test ≡ false) × (rest ≡ None)
none_later true x rest h = absurd (cc)
none_later false x rest h = (refl, h)

-- what another search finds later, it finds with the same front
pub same_front : {X : Type 0} (test : Bool) (x : X) (rest other o : Option X) → cond test (Some x) rest ≡ o → (rest ≡ o → other ≡ o) → cond test (Some x) other ≡ o
same_front true x rest other o h more = h
same_front false x rest other o h more = more h
