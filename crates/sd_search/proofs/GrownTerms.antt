-- the terms of a search: well sorted, needed and with their parts, and how they grow
use Rattle.std.proofs.Common.{◌≡◌, List, [], ◌∷◌, ◌++◌, length, refl, ap, ◌∙◌, subst, Bool, true, false, not, inl, inr, slice_get}
use Rattle.sd_term.specs.declared.node.TermNode.{TermNode}
use Rattle.sd_term.specs.Tree.{Tree, tree}
use Rattle.sd_term.specs.Bank.{tree_of, grown, PartsBelow}
use Rattle.sd_term.specs.Numbering.{has, numbered}
use Rattle.sd_term.specs.Sorts.{sort_of, IsWellSorted, AllWellSorted}
use Rattle.sd_term.proofs.Numbers.{has-more, has-cases, AllIn-more, numbered-facts}
use Rattle.sd_term.specs.Closed.{IsClosed}
use Rattle.sd_kernel.specs.declared.step.NodeLine.{NodeLine}
use Rattle.sd_kernel.specs.declared.step.Step.TheVariants.{Term}
use Rattle.sd_kernel.specs.declared.step.StepCause.TheVariants.{Shape, Known}
use Rattle.sd_kernel.specs.Known.{Trail}
use Rattle.sd_kernel.specs.Steps.{Outcome, leaves, named, needs, outcome, fits, line_head, first_part, second_part, numbers_next}
use Rattle.sd_cube.specs.Required.{IsRequired, choice, order, back}
use Rattle.sd_cube.specs.Needed.{IsNeeded, term as is_term, choice as is_choice, order as is_order, back as is_back}
use Rattle.sd_cube.specs.OpenCube.{AreExtra}
use Rattle.sd_search.specs.Terms.{AreTerms}
use Rattle.sd_term.proofs.ClosedTerms.{IsClosed-numbered, IsClosed-more}
use Rattle.sd_kernel.proofs.Needs.{named-leaves, needs-leaves}
use Rattle.sd_kernel.proofs.Members.{has-get, sorted-in, sorted-append}
use Rattle.sd_kernel.proofs.Grows.{fits-well}
use Rattle.sd_kernel.proofs.Refuted.{numbered-sorted}

-- the terms of the facts
pub first-terms : (facts : List Tree) → AllWellSorted facts → AreTerms facts (numbered facts)
first-terms facts w = record {
  sorted = numbered-sorted facts w;
  closed = IsClosed-numbered facts;
  needed = λ t h. is_term t h;
  there = numbered-facts facts;
}

-- ---- a new term

last-same : (a : List Tree) (t u : Tree) (bs cs : List Trail) → leaves (a ++ t ∷ []) bs ≡ leaves (a ++ u ∷ []) cs → t ≡ u
last-same a t u bs cs e = go a (terms-same (a ++ t ∷ []) (a ++ u ∷ []) e)
  where
    terms-same : (x y : List Tree) → leaves x bs ≡ leaves y cs → x ≡ y
    terms-same x y f = cc

    go : (x : List Tree) → x ++ t ∷ [] ≡ x ++ u ∷ [] → t ≡ u
    go [] f = cc
    go (v ∷ x) f = go x (tail-same v (x ++ t ∷ []) (x ++ u ∷ []) f)
      where
        tail-same : (w : Tree) (p q : List Tree) → w ∷ p ≡ w ∷ q → p ≡ q
        tail-same w p q g = cc

not-true : (b : Bool) → not b ≡ true → b ≡ false
not-true true e = let f : false ≡ true = e in cc
not-true false e = refl

-- a term that is numbered next
pub record IsNew (terms : List Tree) (t : Tree) : Type 0 where
  pub lacks : has terms t ≡ false
  pub sorted : IsWellSorted t
  pub closed : IsClosed (terms ++ t ∷ [])

pub new-term : (terms : List Tree) (trail : Trail) (line : NodeLine) (t : Tree) → AllWellSorted terms → IsClosed terms → outcome terms trail (Term line) ≡ leaves (terms ++ t ∷ []) (trail ∷ []) → IsNew terms t
new-term terms trail line t w c e =
    let next : Tree → Tree → Outcome = λ a b. needs (fits line (sort_of a) (sort_of b)) Shape (numbers_next terms trail (tree (line_head line) (a ∷ b ∷ []))) in
    let one = named-leaves (slice_get terms (first_part line)) (λ a. named (slice_get terms (second_part line)) (next a)) (terms ++ t ∷ []) (trail ∷ []) e in
    let two = named-leaves (slice_get terms (second_part line)) (next one.0) (terms ++ t ∷ []) (trail ∷ []) one.2 in
    let u : Tree = tree (line_head line) (one.0 ∷ two.0 ∷ []) in
    let three = needs-leaves (fits line (sort_of one.0) (sort_of two.0)) Shape (numbers_next terms trail u) (terms ++ t ∷ []) (trail ∷ []) two.2 in
    let four = needs-leaves (not (has terms u)) Known (leaves (terms ++ u ∷ []) (trail ∷ [])) (terms ++ t ∷ []) (trail ∷ []) three.1 in
    let same : u ≡ t = last-same terms u t (trail ∷ []) (trail ∷ []) four.1 in
    let p : has terms one.0 ≡ true = has-get terms (first_part line) one.0 one.1 in
    let q : has terms two.0 ≡ true = has-get terms (second_part line) two.0 two.1 in
    subst (IsNew terms) same (record {
      lacks = not-true (has terms u) four.0;
      sorted = fits-well line one.0 two.0 (sorted-in terms one.0 w p) (sorted-in terms two.0 w q) three.0;
      closed = IsClosed-more terms u c (p, (q, tt));
    })

-- whether a term is numbered next doesn't depend on the facts
pub term-outcome : (terms : List Tree) (b c : Trail) (line : NodeLine) (t : Tree) → outcome terms b (Term line) ≡ leaves (terms ++ t ∷ []) (b ∷ []) → outcome terms c (Term line) ≡ leaves (terms ++ t ∷ []) (c ∷ [])
term-outcome terms b c line t e =
    let next : Trail → Tree → Tree → Outcome = λ x a d. needs (fits line (sort_of a) (sort_of d)) Shape (numbers_next terms x (tree (line_head line) (a ∷ d ∷ []))) in
    let one = named-leaves (slice_get terms (first_part line)) (λ a. named (slice_get terms (second_part line)) (next b a)) (terms ++ t ∷ []) (b ∷ []) e in
    let two = named-leaves (slice_get terms (second_part line)) (next b one.0) (terms ++ t ∷ []) (b ∷ []) one.2 in
    let u : Tree = tree (line_head line) (one.0 ∷ two.0 ∷ []) in
    let three = needs-leaves (fits line (sort_of one.0) (sort_of two.0)) Shape (numbers_next terms b u) (terms ++ t ∷ []) (b ∷ []) two.2 in
    let four = needs-leaves (not (has terms u)) Known (leaves (terms ++ u ∷ []) (b ∷ [])) (terms ++ t ∷ []) (b ∷ []) three.1 in
    ap (λ o. named o (λ a. named (slice_get terms (second_part line)) (next c a))) one.1
    ∙ ap (λ o. named o (next c one.0)) two.1
    ∙ ap (λ q. needs q Shape (numbers_next terms c u)) three.0
    ∙ ap (λ q. needs q Known (leaves (terms ++ u ∷ []) (c ∷ []))) four.0
    ∙ ap (λ v. leaves (terms ++ v ∷ []) (c ∷ [])) (last-same terms u t (b ∷ []) (b ∷ []) four.1)

-- what is asked for is needed
pub required-needed : (facts terms : List Tree) (b : Trail) (t : Tree) → AreTerms facts terms → IsRequired terms b t → IsNeeded facts t
required-needed facts terms b _ w (choice t v h c k) = is_choice t v (w.needed t h) c
required-needed facts terms b _ w (order e h i k n) = is_order e (w.needed e h) i
required-needed facts terms b _ w (back e h i k n) = is_back e (w.needed e h) i

pub grown-terms : (facts terms : List Tree) (t : Tree) → AreTerms facts terms → IsNew terms t → IsNeeded facts t → AreTerms facts (terms ++ t ∷ [])
grown-terms facts terms t w n h = record {
  sorted = sorted-append terms (t ∷ []) w.sorted (n.sorted, tt);
  closed = n.closed;
  needed = λ u k. elim (has-cases terms t u k) as (λ _. IsNeeded facts u) [ inl l ↦ w.needed u l | inr l ↦ subst (IsNeeded facts) l h ];
  there = AllIn-more terms (terms ++ t ∷ []) facts (λ u k. has-more terms (t ∷ []) u k) w.there;
}

-- the extra terms with one more
pub extra-last : (facts base : List Tree) (ns : List TermNode) (n : TermNode) → AreExtra facts base ns → PartsBelow (length (grown base ns)) n → has (grown base ns) (tree_of (grown base ns) n) ≡ false
    → IsWellSorted (tree_of (grown base ns) n) → IsNeeded facts (tree_of (grown base ns) n) → AreExtra facts base (ns ++ n ∷ [])
extra-last facts base [] n a p h w k = (p, h, w, k, tt)
extra-last facts base (m ∷ ns) n a p h w k = (a.0, a.1, a.2, a.3, extra-last facts (base ++ tree_of base m ∷ []) ns n a.4 p h w k)
