-- What adding a name to a set does.
use Rattle.std.proofs.Common.{◌≡◌, Bool, true, false, cond, List, ◌∷◌, refl, ap, ◌∙◌}
use Rattle.std.specs.Prelude.{◌||◌}
use Rattle.std.specs.Cmp.Lexicographic.{nat_list_eq_equiv}
use Rattle.sd_base.specs.Value.{Text, same_text}
use Rattle.sd_types.specs.Names.{is_among, HaveSame}

in_front : (a b : Bool) → cond a true b ≡ (a || b)
in_front true b = refl
in_front false b = refl

pub have_same-added : (old new : List Text) (k x : Text) → k ≡ x → ((q : Text) → is_among new q ≡ cond (same_text k q) true (is_among old q)) → HaveSame new (x ∷ old)
have_same-added old new k x e h q =
    h q ∙ in_front (same_text k q) (is_among old q)
    ∙ ap (λ b. b || is_among old q) (nat_list_eq_equiv.symm k q ∙ ap (same_text q) e)
