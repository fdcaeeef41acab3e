use Rattle.std.proofs.Common.{◌≡◌, ◌∙◌, Bool, [], ◌∷◌, ap, sym, subst}
use Rattle.std.specs.Prelude.{if◌then◌else◌}
use Rattle.sd_base.proofs.SortLemmas.{same_sort-test}
use Rattle.sd_core.specs.Formed.{same_sort}
use Rattle.sd_term.specs.Bank.{tree_at}
use Rattle.sd_term.specs.Build.{not_of, eq_of}
use Rattle.sd_term.specs.Sorts.{sort_of}
use Rattle.sd_vcgen.proofs.Numbers.{extends_then}
use Rattle.sd_product.specs.Numbers.{Adds}
use Rattle.sd_product.proofs.Numbers.{adds_one, adds_none}
use Rattle.sd_product.proofs.apart.put_if_differing.Goals as goal

pub returns-in_ok-push : goal.returns-in_ok-push
returns-in_ok-push c =
    let a = c.args.bank.now in
    let b = c.eq.new.self in
    let d = c.not.new.self in
    let left = tree_at a c.args.left in
    let right = tree_at a c.args.right in
    let t = not_of (eq_of left right) in
    let test : c.is_same_sort.result ≡ same_sort (sort_of left) (sort_of right) = same_sort-test _ _ c.is_same_sort.result c.is_same_sort.ensures ∙ (λ i. same_sort (c.sort.ensures i) (c.sort-2.ensures i)) in
    subst (λ (r : Bool). Adds a c.args.facts.now d c.push.new.self (if r then t ∷ [] else [])) (sym (sym test ∙ c.if-is_same_sort.true))
    (adds_one a c.args.facts.now d c.push.new.self c.in_ok-id.id t c.requires.facts (extends_then a b d c.in_ok-same.ensures.kept c.in_ok-id.ensures.kept) (record { within = c.in_ok-id.ensures.number; tree = c.in_ok-id.ensures.tree ∙ ap not_of c.in_ok-same.ensures.tree }) c.in_ok-push.ensures.ok)

pub returns-else-is_same_sort : goal.returns-else-is_same_sort
returns-else-is_same_sort c =
    let a = c.args.bank.now in
    let left = tree_at a c.args.left in
    let right = tree_at a c.args.right in
    let t = not_of (eq_of left right) in
    let test : c.is_same_sort.result ≡ same_sort (sort_of left) (sort_of right) = same_sort-test _ _ c.is_same_sort.result c.is_same_sort.ensures ∙ (λ i. same_sort (c.sort.ensures i) (c.sort-2.ensures i)) in
    subst (λ (r : Bool). Adds a c.args.facts.now a c.args.facts.now (if r then t ∷ [] else [])) (sym (sym test ∙ c.if-is_same_sort.false)) (adds_none a c.args.facts.now c.requires.facts)
