-- the form of a node's tree, from the forms of its parts
use Rattle.std.proofs.Common.{◌≡◌, ℕ, suc, subst, ◌<◌, ◌≤◌, List, [], ◌∷◌, map, take, get_or, All, refl, sym, ap, ◌∙◌, length, arith, pos, slice_get, None}
use Rattle.sd_term.specs.declared.node.Head.{Head}
use Rattle.sd_term.specs.declared.node.Head.TheVariants.{Num}
use Rattle.sd_term.specs.declared.node.TermNode.{TermNode}
use Rattle.sd_term.specs.Heads.{True, Add, Sub, Mul, Neg}
use Rattle.sd_base.proofs.Lists.{get_or-map_none}
use Rattle.std.proofs.lemmas.List.{get_or-map, get_or-take, length-take}
use Rattle.sd_term.specs.Tree.{Tree, leaf, head_of}
use Rattle.sd_term.specs.Closed.{IsClosed}
use Rattle.sd_term.specs.Distinct.{AreDistinct}
use Rattle.sd_term.proofs.Numbers.{has-at}
use Rattle.sd_forms.specs.Laws.{KeepsValue}
use Rattle.sd_forms.proofs.FormMeaning.{form_of-value}
use Rattle.sd_forms.proofs.Places.{place_of-at}
use Rattle.sd_term.specs.Bank.{tree_at, tree_of, PartsBelow}
use Rattle.sd_term.proofs.Folds.{head_of-node, at_parts-node}
use Rattle.sd_rows.specs.declared.form.Form.{Form}
use Rattle.sd_rows.specs.Forms.{constant}
use Rattle.sd_forms.specs.LinearForms.{place_of, form_at, form_by, form_of}

pub form_of-node : (terms : List Tree) (node : TermNode)
    → form_of terms (tree_of terms node) ≡ form_by node.head (place_of terms (tree_of terms node)) (map (λ n. form_of terms (tree_at terms n)) node.parts)
form_of-node terms node = λ i. form_by (head_of-node terms node i) (place_of terms (tree_of terms node)) (at_parts-node (λ u fs. form_by (head_of u) (place_of terms u) fs) terms node i)

-- no head looks further than the second part
pub form_by-two : (h : Head) (k : ℕ) (fs : List Form) → form_by h k fs ≡ form_by h k (form_at fs 0 ∷ form_at fs 1 ∷ [])
form_by-two (Num n) k fs = refl
form_by-two Add k fs = refl
form_by-two Sub k fs = refl
form_by-two Neg k fs = refl
form_by-two Mul k fs = refl
form_by-two _ k fs = refl

-- what a table of the forms of the first terms has at the parts of a later one
pub forms-parts : (f : Tree → Form) (ts : List Tree) (n : ℕ) (ps : List ℕ) → n ≤ length ts → All (λ p. p < n) ps
    → map (λ p. form_at (map f (take n ts)) p) ps ≡ map (λ p. f (tree_at ts p)) ps
forms-parts f ts n [] l a = refl
forms-parts f ts n (p ∷ ps) l a =
    let lt : p < n = a 0 0 (omega arith) in
    let here : form_at (map f (take n ts)) p ≡ f (tree_at ts p) =
    get_or-map f (take n ts) p (leaf True) (constant (pos 0)) (omega (arith, length-take {A = Tree})) ∙ ap f (get_or-take n ts p (leaf True) lt) in
    λ i. here i ∷ forms-parts f ts n ps l (λ k d h. a (suc k) d (omega (arith, h))) i

-- the part that is not there
pub form_at-none : (g : ℕ → Form) (ps : List ℕ) (k : ℕ) → slice_get ps k ≡ None → form_at (map g ps) k ≡ constant (pos 0)
form_at-none g ps k e = get_or-map_none g ps k (constant (pos 0)) e

pub form_of-next : (terms : List Tree) (forms : List Form) (node : TermNode) (id : ℕ) → id < length terms → AreDistinct terms → tree_of terms node ≡ tree_at terms id → PartsBelow id node
    → forms ≡ map (form_of terms) (take id terms)
    → form_of terms (tree_at terms id) ≡ form_by node.head id (form_at (map (λ p. form_at forms p) node.parts) 0 ∷ form_at (map (λ p. form_at forms p) node.parts) 1 ∷ [])
form_of-next terms forms node id h distinct at below is =
    let ps : map (λ p. form_at forms p) node.parts ≡ map (λ p. form_of terms (tree_at terms p)) node.parts =
    ap (λ fs. map (λ p. form_at fs p) node.parts) is ∙ forms-parts (form_of terms) terms id node.parts (omega arith) below in
    let place : place_of terms (tree_of terms node) ≡ id = ap (place_of terms) at ∙ place_of-at terms id distinct h in
    ap (form_of terms) (sym at)
    ∙ form_of-node terms node
    ∙ (λ i. form_by node.head (place i) (sym ps i))
    ∙ form_by-two node.head id (map (λ p. form_at forms p) node.parts)

-- the form of a term, in the table of all forms
pub forms-value : (terms : List Tree) (forms : List Form) (k : ℕ) → IsClosed terms → forms ≡ map (form_of terms) terms → k < length terms → KeepsValue terms (tree_at terms k) (form_at forms k)
forms-value terms forms k c is h =
    subst (KeepsValue terms (tree_at terms k)) (sym (ap (λ fs. form_at fs k) is ∙ get_or-map (form_of terms) terms k (leaf True) (constant (pos 0)) h))
    (form_of-value terms (tree_at terms k) c (has-at terms (tree_at terms k) k h refl))

pub form-read : (terms : List Tree) (forms : List Form) (p : ℕ) (f : Form) → forms ≡ map (form_of terms) terms → p < length terms → f ≡ get_or forms p f → f ≡ form_of terms (tree_at terms p)
form-read terms forms p f is h e = e ∙ ap (λ fs. get_or fs p f) is ∙ get_or-map (form_of terms) terms p (leaf True) f h
