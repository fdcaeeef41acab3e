use Rattle.std.proofs.Common.{◌<◌, ℕ, Option, None, get_or, length, refl, sym, ap, ◌∙◌, subst}
use Rattle.std.proofs.lemmas.Bool.{iff_false}
use Rattle.sd_term.specs.Bank.{tree_at}
use Rattle.sd_euf.specs.Judged.{pair_tree}
use Rattle.sd_euf.specs.Table.{IsLastLeft}
use Rattle.sd_euf.proofs.Shapes.{has-none}
use Rattle.sd_euf.proofs.TableLemmas.{AreUpTo, room, up-to-last, up-to-earlier, less-room}
use Rattle.sd_euf.proofs.find.find.Goals as goal

pub places-init : goal.places-init
places-init c =
    up-to-last c.args.terms.now (tree_at c.args.terms.now c.args.left) (pair_tree c.args.op (tree_at c.args.terms.now c.args.left) (tree_at c.args.terms.now c.args.right)) (get_or c.as_slice.result.now c.number-first.result None)
    (tree_at c.args.terms.now c.args.right, refl)
    (subst (λ (q : Option ℕ). IsLastLeft c.args.terms.now (tree_at c.args.terms.now c.args.left) (length c.args.terms.now) q) (sym (λ i. get_or (c.as_slice.ensures i) (c.number-first.ensures i) None))
    (c.requires.table.last_is c.args.left c.requires.left))

pub places-smaller : goal.places-smaller
places-smaller c =
    let here = subst (λ (o : Option ℕ). AreUpTo c.args.terms.now (tree_at c.args.terms.now c.args.left) (pair_tree c.args.op (tree_at c.args.terms.now c.args.left) (tree_at c.args.terms.now c.args.right)) o) c.in-Some.is c.places.invariant in
    let before = subst (λ ls. IsLastLeft c.args.terms.now (tree_at c.args.terms.now c.args.left) c.in-Some.number (get_or ls c.in-Some.number None)) (sym c.as_slice-in-Some.ensures)
    (c.requires.table.earlier_is c.in-Some.number here.0 (tree_at c.args.terms.now c.args.left) here.1) in
    subst (λ (o : Option ℕ). room (get_or c.as_slice-in-Some.result.now c.in-Some.number None) < room o) (sym c.in-Some.is)
    (less-room c.args.terms.now (tree_at c.args.terms.now c.args.left) c.in-Some.number (get_or c.as_slice-in-Some.result.now c.in-Some.number None) before)

pub places-preserved : goal.places-preserved
places-preserved c =
    let here = subst (λ (o : Option ℕ). AreUpTo c.args.terms.now (tree_at c.args.terms.now c.args.left) (pair_tree c.args.op (tree_at c.args.terms.now c.args.left) (tree_at c.args.terms.now c.args.right)) o) c.in-Some.is c.places.invariant in
    let before = subst (λ ls. IsLastLeft c.args.terms.now (tree_at c.args.terms.now c.args.left) c.in-Some.number (get_or ls c.in-Some.number None)) (sym c.as_slice-in-Some.ensures)
    (c.requires.table.earlier_is c.in-Some.number here.0 (tree_at c.args.terms.now c.args.left) here.1) in
    up-to-earlier c.args.terms.now (tree_at c.args.terms.now c.args.left) (pair_tree c.args.op (tree_at c.args.terms.now c.args.left) (tree_at c.args.terms.now c.args.right)) c.in-Some.number
    (get_or c.as_slice-in-Some.result.now c.in-Some.number None) (tree_at c.args.terms.now c.args.right, refl) here
    (λ e. iff_false c.is_pair.ensures c.if-is_pair.false (ap (tree_at c.args.terms.now) c.new-id.ensures ∙ e)) before

pub returns-clause-none : goal.returns-clause-none
returns-clause-none c =
    let none = subst (λ (o : Option ℕ). AreUpTo c.args.terms.now (tree_at c.args.terms.now c.args.left) (pair_tree c.args.op (tree_at c.args.terms.now c.args.left) (tree_at c.args.terms.now c.args.right)) o) c.in_default.is c.places.invariant in
    has-none c.args.terms.now (pair_tree c.args.op (tree_at c.args.terms.now c.args.left) (tree_at c.args.terms.now c.args.right)) none
