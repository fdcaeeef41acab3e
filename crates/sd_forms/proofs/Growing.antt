-- forms stay as they are where terms are appended
use Rattle.std.proofs.Common.{◌≡◌, List, [], ◌∷◌, ◌++◌, refl, true}
use Rattle.sd_term.specs.Tree.{Tree, leaf, call, head_of, at_parts, below, subterms}
use Rattle.sd_term.specs.Numbering.{has, AllIn}
use Rattle.sd_term.proofs.Numbers.{AllIn-left, AllIn-right}
use Rattle.sd_forms.specs.LinearForms.{place_of, form_by, form_of}
use Rattle.sd_forms.proofs.Places.{place_of-append}

at_parts-append : (terms more : List Tree) (t : Tree) → AllIn terms (below t)
    → at_parts (λ u fs. form_by (head_of u) (place_of (terms ++ more) u) fs) t ≡ at_parts (λ u fs. form_by (head_of u) (place_of terms u) fs) t
at_parts-append terms more (leaf h) a = refl
at_parts-append terms more (call f x) a =
    let left : AllIn terms (below f) = AllIn-left terms (below f) (below x ++ x ∷ []) a in
    let right : AllIn terms (below x ++ x ∷ []) = AllIn-right terms (below f) (below x ++ x ∷ []) a in
    let under : AllIn terms (below x) = AllIn-left terms (below x) (x ∷ []) right in
    let here : has terms x ≡ true = (AllIn-right terms (below x) (x ∷ []) right).0 in
    λ i. at_parts-append terms more f left i ++ form_by (head_of x) (place_of-append terms more x here i) (at_parts-append terms more x under i) ∷ []

-- the form of a tree whose subterms are among the terms
pub form_of-append : (terms more : List Tree) (t : Tree) → AllIn terms (subterms t) → form_of (terms ++ more) t ≡ form_of terms t
form_of-append terms more t a =
    let under : AllIn terms (below t) = AllIn-left terms (below t) (t ∷ []) a in
    let here : has terms t ≡ true = (AllIn-right terms (below t) (t ∷ []) a).0 in
    λ i. form_by (head_of t) (place_of-append terms more t here i) (at_parts-append terms more t under i)
