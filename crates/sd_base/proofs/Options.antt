-- Options, beside what std has: none-some and same_Some are in its lemmas.
use Rattle.std.proofs.Common.{◌≡◌, refl, true, Option, None, Some, is_none}

pub none-is : {A : Type 0} (o : Option A) → is_none o ≡ true → o ≡ None
none-is None h = refl
none-is (Some x) h = absurd (cc)
