-- a choice with a known condition, and its equality with the part that it chooses
use Rattle.std.proofs.Common.{◌≡◌, ℕ, ◌<◌, List, [], ◌∷◌, length, get_or, refl, sym, ap, ◌∙◌, subst, Bool, true, false, Option, Some, None}
use Rattle.std.proofs.lemmas.Option.{same_Some}
use Rattle.sd_base.specs.declared.sort.Sort.{Bool as Truth}
use Rattle.sd_kernel.specs.declared.step.Step.TheVariants.{Split, Term, Ite as ChooseBranch}
use Rattle.sd_kernel.specs.declared.step.NodeLine.TheVariants.{Eq as EqLine}
use Rattle.sd_term.specs.Heads.{Ite}
use Rattle.sd_term.specs.Tree.{Tree, tree, head_of}
use Rattle.sd_term.specs.Bank.{tree_at}
use Rattle.sd_term.specs.Numbering.{has}
use Rattle.sd_term.specs.Sorts.{sort_of, IsWellSorted, AllWellSorted}
use Rattle.sd_forms.specs.FactRows.{part_at}
use Rattle.sd_kernel.specs.Known.{Trail, known, has_fact}
use Rattle.sd_kernel.specs.Steps.{is_ite_head, chosen_part}
use Rattle.sd_cube.specs.Required.{IsChoice, IsThere, IsRequired, choice as asks_choice, eq_tree, choice_eq}
use Rattle.sd_term.proofs.Numbers.{has-at}
use Rattle.sd_euf.specs.declared.choices.Choice.{Choice}
use Rattle.sd_euf.specs.Judged.{HasValues, Breaks, Asks, IsChoiceOf, chosen_number, ChoiceHolds}
use Rattle.sd_euf.proofs.Shapes.{tree-got, value-at}
use Rattle.sd_euf.proofs.Outcomes.{plain-eq, closes_branch, eq-outcome, choice-outcome}
use Rattle.sd_kernel.proofs.Lookups.{sorted-at}

-- a choice by its number, with the value of its condition and the number of the part that it chooses
pub record AtChoice (terms : List Tree) (values : List (Option Bool)) (id : ℕ) (choice : Choice) (v : Bool) (part : ℕ) : Type 0 where
  pub below : id < length terms
  pub sorted : AllWellSorted terms
  pub parts : IsChoiceOf terms (tree_at terms id) choice
  pub condition : get_or values choice.condition None ≡ Some v
  pub chosen : part ≡ chosen_number choice v

chosen-is : (terms : List Tree) (t : Tree) (choice : Choice) (v : Bool) → IsChoiceOf terms t choice → tree_at terms (chosen_number choice v) ≡ chosen_part t v
chosen-is terms t choice true p = sym (ap (λ u. part_at u 1) p.is)
chosen-is terms t choice false p = sym (ap (λ u. part_at u 2) p.is)

pub chosen-below : (terms : List Tree) (t : Tree) (choice : Choice) (v : Bool) → IsChoiceOf terms t choice → chosen_number choice v < length terms
chosen-below terms t choice true p = p.first
chosen-below terms t choice false p = p.second

sort-chosen : (t c a b : Tree) (v : Bool) → t ≡ tree Ite (c ∷ a ∷ b ∷ []) → IsWellSorted t → sort_of t ≡ sort_of (chosen_part t v)
sort-chosen t c a b v e w = go v
  where
    all : IsWellSorted (tree Ite (c ∷ a ∷ b ∷ []))
    all = subst IsWellSorted e w

    same : sort_of a ≡ sort_of b
    same = let k : sort_of c ∷ sort_of a ∷ sort_of b ∷ [] ≡ Truth ∷ all.1.0 ∷ all.1.0 ∷ [] = all.1.1 in cc

    go : (b : Bool) → sort_of t ≡ sort_of (chosen_part t b)
    go true = ap sort_of e ∙ sym (ap (λ u. sort_of (part_at u 1)) e)
    go false = ap sort_of e ∙ same ∙ sym (ap (λ u. sort_of (part_at u 2)) e)

module _ (terms : List Tree) (values : List (Option Bool)) (id : ℕ) (choice : Choice) (v : Bool) (part : ℕ) (h : AtChoice terms values id choice v part) where
  is-choice : IsChoice (tree_at terms id)
  is-choice = (ap (λ u. is_ite_head (head_of u)) h.parts.is, h.parts.plain)

  part-is : tree_at terms part ≡ chosen_part (tree_at terms id) v
  part-is = ap (tree_at terms) h.chosen ∙ chosen-is terms (tree_at terms id) choice v h.parts

  eq-is : eq_tree (tree_at terms id) (tree_at terms part) ≡ choice_eq (tree_at terms id) v
  eq-is = ap (eq_tree (tree_at terms id)) part-is

  condition-known : (trail : Trail) → HasValues terms trail values → known trail (part_at (tree_at terms id) 0) ≡ Some v
  condition-known trail e = ap (λ u. known trail (part_at u 0)) h.parts.is ∙ sym (value-at terms trail values choice.condition e h.parts.condition) ∙ h.condition

  required : (trail : Trail) → HasValues terms trail values → IsRequired terms trail (choice_eq (tree_at terms id) v)
  required trail e = asks_choice (tree_at terms id) v (has-at terms (tree_at terms id) id h.below refl) is-choice (condition-known trail e)

  pub choice-absent : has terms (eq_tree (tree_at terms id) (tree_at terms part)) ≡ false → Asks terms values (Term (EqLine id part))
  choice-absent a trail e =
      let x : Tree = tree_at terms id in
      let y : Tree = tree_at terms part in
      let sorts : sort_of x ≡ sort_of y = sort-chosen x (tree_at terms choice.condition) (tree_at terms choice.first) (tree_at terms choice.second) v h.parts.is (sorted-at terms id h.sorted h.below) ∙ ap sort_of (sym part-is) in
      let below : part < length terms = subst (λ n. n < length terms) (sym h.chosen) (chosen-below terms x choice v h.parts) in
      (eq_tree x y, subst (IsRequired terms trail) (sym eq-is) (required trail e), eq-outcome terms trail id part x y (tree-got terms id h.below) (tree-got terms part below) sorts a)

  pub choice-unknown : (n : ℕ) → n < length terms → tree_at terms n ≡ eq_tree (tree_at terms id) (tree_at terms part) → get_or values n None ≡ None → Asks terms values (Split n)
  choice-unknown n b is k trail e = (b, subst (IsRequired terms trail) (sym (is ∙ eq-is)) (required trail e), sym (value-at terms trail values n e b) ∙ k)

  pub choice-true : (n : ℕ) → n < length terms → tree_at terms n ≡ eq_tree (tree_at terms id) (tree_at terms part) → get_or values n None ≡ Some true
      → (trail : Trail) → HasValues terms trail values → ChoiceHolds terms (tree_at terms id) trail
  choice-true n b is k trail e w x q =
      let same : v ≡ x = same_Some v x (sym (condition-known trail e) ∙ q) in
      subst (λ y. IsThere terms trail (choice_eq (tree_at terms id) y) true) same
      (has-at terms (choice_eq (tree_at terms id) v) n b (is ∙ eq-is), ap (known trail) (sym (is ∙ eq-is)) ∙ sym (value-at terms trail values n e b) ∙ k)

  pub choice-false : (n : ℕ) → n < length terms → tree_at terms n ≡ eq_tree (tree_at terms id) (tree_at terms part) → get_or values n None ≡ Some false → Breaks terms values (ChooseBranch id n)
  choice-false n b is k trail e =
      let x : Tree = tree_at terms id in
      let eq : tree_at terms n ≡ choice_eq x v = is ∙ eq-is in
      let wrong : known trail (choice_eq x v) ≡ Some false = ap (known trail) (sym eq) ∙ sym (value-at terms trail values n e b) ∙ k in
      closes_branch terms trail (tree_at terms n) true (ChooseBranch id n)
      (choice-outcome terms trail id n x (tree_at terms n) v (tree-got terms id h.below) (tree-got terms n b) is-choice.0 eq (condition-known trail e))
      (subst (λ u. has_fact trail u false ≡ true) (sym eq) (plain-eq trail x (chosen_part x v) false h.parts.plain wrong))
