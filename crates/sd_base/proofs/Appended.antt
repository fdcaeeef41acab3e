-- What is known after several pieces.
use Rattle.std.proofs.Common.{◌≡◌, ◌∙◌, ap, refl, ℕ, ◌+◌, List, ◌++◌, take, drop, append_assoc}
use Rattle.std.specs.Prelude.{Option, None, Some}
use Rattle.std.proofs.Math.Seq.{take-add}
use Rattle.sd_base.specs.Outside.{appended}

-- two texts one after the other
pub appended-append : (known : Option (List ℕ)) (a b : List ℕ) → appended (appended known a) b ≡ appended known (a ++ b)
appended-append None a b = refl
appended-append (Some bytes) a b = ap Some (append_assoc bytes a b)

-- a piece more of a text
pub appended-take-more : (known now next : Option (List ℕ)) (text piece : List ℕ) (done count : ℕ) → piece ≡ drop done text → now ≡ appended known (take done text) → next ≡ appended now (take count piece) → next ≡ appended known (take (done + count) text)
appended-take-more known now next text piece done count same before after =
    after ∙ (ap (λ p. appended now (take count p)) same ∙ (ap (λ t. appended t (take count (drop done text))) before ∙ (appended-append known (take done text) (take count (drop done text)) ∙ ap (λ t. appended known t) (rw take-add refl))))
