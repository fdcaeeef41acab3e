use Rattle.std.proofs.Common.{◌≡◌, ℕ, ◌<◌, List, [], ◌∷◌, length, sym, ap, ◌∙◌, subst, Bool, true, false, not, Option, Some, slice_get, ◌++◌}
use Rattle.std.specs.Prelude.{IfSome}
use Rattle.sd_term.specs.declared.node.Op.{Op}
use Rattle.sd_term.specs.declared.node.Head.TheVariants.{Op as Plain}
use Rattle.sd_term.specs.Tree.{Tree, tree}
use Rattle.sd_term.specs.Bank.{tree_at}
use Rattle.sd_term.specs.Numbering.{has}
use Rattle.sd_term.specs.Sorts.{sort_of, IsWellSorted}
use Rattle.sd_kernel.specs.declared.step.StepCause.TheVariants.{Shape, Known}
use Rattle.sd_kernel.specs.declared.step.NodeLine.{NodeLine}
use Rattle.sd_kernel.specs.declared.step.Step.TheVariants.{Term}
use Rattle.sd_term.proofs.Numbers.{has-at}
use Rattle.sd_kernel.specs.Known.{Trail}
use Rattle.sd_kernel.specs.Steps.{outcome, line_head, fits, named, needs, leaves, numbers_next, first_part, second_part}
use Rattle.sd_kernel.specs.Effects.{pair_of, outcome_of}
use Rattle.sd_kernel.proofs.Needs.{after_term}
use Rattle.sd_kernel.proofs.Grows.{fits-well}
use Rattle.sd_kernel.proofs.Lookups.{are_in, get-tree, none-holds, in-first, in-second, sorted-at}
use Rattle.sd_kernel.proofs.term.term_effect.Goals as goal

term-made : (terms : List Tree) (trail : Trail) (line : NodeLine) (i j : ℕ) (o : Op) → slice_get terms (first_part line) ≡ Some (tree_at terms i) → slice_get terms (second_part line) ≡ Some (tree_at terms j)
    → fits line (sort_of (tree_at terms i)) (sort_of (tree_at terms j)) ≡ true → Plain o ≡ line_head line → (q : Bool) → has terms (pair_of terms o i j) ≡ q
    → outcome terms trail (Term line) ≡ needs (not q) Known (leaves (terms ++ pair_of terms o i j ∷ []) (trail ∷ []))
term-made terms trail line i j o first second fit op q test =
    (λ u. named (first u) (λ x. named (second u) (after_term terms trail line x)))
    ∙ (λ u. needs (fit u) Shape (numbers_next terms trail (tree (sym op u) (tree_at terms i ∷ tree_at terms j ∷ []))))
    ∙ ap (λ b. needs (not b) Known (leaves (terms ++ pair_of terms o i j ∷ []) (trail ∷ []))) test

pub returns-in-Some-clause-effect : goal.returns-in-Some-clause-effect
returns-in-Some-clause-effect c = λ trail.
    let terms = c.args.terms.now in
    let numbers : are_in terms (c.first_of-first.result ∷ c.second_of-second.result ∷ []) ≡ true = sym c.are_numbers.ensures ∙ c.if-not-are_numbers.false in
    let first : slice_get terms (first_part c.args.line) ≡ Some (tree_at terms c.new-first.result) =
    ap (slice_get terms) (sym c.first_of-first.ensures) ∙ get-tree terms c.first_of-first.result (in-first terms c.first_of-first.result (c.second_of-second.result ∷ []) numbers) ∙ ap (λ n. Some (tree_at terms n)) (sym c.new-first.ensures) in
    let second : slice_get terms (second_part c.args.line) ≡ Some (tree_at terms c.new-second.result) =
    ap (slice_get terms) (sym c.second_of-second.ensures) ∙ get-tree terms c.second_of-second.result (in-second terms c.first_of-first.result c.second_of-second.result [] numbers) ∙ ap (λ n. Some (tree_at terms n)) (sym c.new-second.ensures) in
    let fit : fits c.args.line (sort_of (tree_at terms c.new-first.result)) (sort_of (tree_at terms c.new-second.result)) ≡ true = (λ i. fits c.args.line (sym c.sort.ensures i) (sym c.sort-2.ensures i)) ∙ sym c.fits.ensures ∙ c.if-not-fits.false in
    let pair : Tree = pair_of terms c.op_of-op.result c.new-first.result c.new-second.result in
    let below = subst (λ (r : Option ℕ). IfSome r (λ id. id < length terms)) c.in-Some.is c.in_ok-find_pair.ensures.below in
    let found = subst (λ (r : Option ℕ). IfSome r (λ id. tree_at terms id ≡ pair)) c.in-Some.is c.in_ok-find_pair.ensures.tree in
    term-made terms trail c.args.line c.new-first.result c.new-second.result c.op_of-op.result first second fit c.op_of-op.ensures true (has-at terms pair c.in-Some.field-0 below found)
    ∙ sym (ap (outcome_of terms trail) c.bad-in-Some.ensures)

pub returns-in-None-clause-effect : goal.returns-in-None-clause-effect
returns-in-None-clause-effect c = λ trail.
    let terms = c.args.terms.now in
    let numbers : are_in terms (c.first_of-first.result ∷ c.second_of-second.result ∷ []) ≡ true = sym c.are_numbers.ensures ∙ c.if-not-are_numbers.false in
    let first : slice_get terms (first_part c.args.line) ≡ Some (tree_at terms c.new-first.result) =
    ap (slice_get terms) (sym c.first_of-first.ensures) ∙ get-tree terms c.first_of-first.result (in-first terms c.first_of-first.result (c.second_of-second.result ∷ []) numbers) ∙ ap (λ n. Some (tree_at terms n)) (sym c.new-first.ensures) in
    let second : slice_get terms (second_part c.args.line) ≡ Some (tree_at terms c.new-second.result) =
    ap (slice_get terms) (sym c.second_of-second.ensures) ∙ get-tree terms c.second_of-second.result (in-second terms c.first_of-first.result c.second_of-second.result [] numbers) ∙ ap (λ n. Some (tree_at terms n)) (sym c.new-second.ensures) in
    let fit : fits c.args.line (sort_of (tree_at terms c.new-first.result)) (sort_of (tree_at terms c.new-second.result)) ≡ true = (λ i. fits c.args.line (sym c.sort.ensures i) (sym c.sort-2.ensures i)) ∙ sym c.fits.ensures ∙ c.if-not-fits.false in
    let pair : Tree = pair_of terms c.op_of-op.result c.new-first.result c.new-second.result in
    term-made terms trail c.args.line c.new-first.result c.new-second.result c.op_of-op.result first second fit c.op_of-op.ensures false (none-holds c.in_ok-find_pair.field-0 (has terms pair ≡ false) c.in_ok-find_pair.ensures.none c.in-None.is)

pub returns-in-None-clause-fits : goal.returns-in-None-clause-fits
returns-in-None-clause-fits c =
    let terms = c.args.terms.now in
    let numbers : are_in terms (c.first_of-first.result ∷ c.second_of-second.result ∷ []) ≡ true = sym c.are_numbers.ensures ∙ c.if-not-are_numbers.false in
    let first : c.new-first.result < length terms = subst (λ n. n < length terms) (sym c.new-first.ensures) (in-first terms c.first_of-first.result (c.second_of-second.result ∷ []) numbers) in
    let second : c.new-second.result < length terms = subst (λ n. n < length terms) (sym c.new-second.ensures) (in-second terms c.first_of-first.result c.second_of-second.result [] numbers) in
    let a = tree_at terms c.new-first.result in
    let b = tree_at terms c.new-second.result in
    let fit : fits c.args.line (sort_of a) (sort_of b) ≡ true = (λ i. fits c.args.line (sym c.sort.ensures i) (sym c.sort-2.ensures i)) ∙ sym c.fits.ensures ∙ c.if-not-fits.false in (
      first,
      second,
      none-holds c.in_ok-find_pair.field-0 _ c.in_ok-find_pair.ensures.none c.in-None.is,
      subst (λ h. IsWellSorted (tree h (a ∷ b ∷ []))) (sym c.op_of-op.ensures) (fits-well c.args.line a b (sorted-at terms c.new-first.result c.requires.sorted first) (sorted-at terms c.new-second.result c.requires.sorted second) fit),
    )
