use Rattle.std.proofs.lemmas.Bool.{iff_false}
use Rattle.sd_term.specs.Bank.{tree_at}
use Rattle.sd_euf.proofs.Joined.{other-left, other-right, no-other}
use Rattle.sd_euf.proofs.links.neighbour.Goals as goal

pub returns-then-same_term-clause-some : goal.returns-then-same_term-clause-some
returns-then-same_term-clause-some c =
    other-left (tree_at c.args.terms.now c.args.id) (tree_at c.args.terms.now c.in-Some.pair.left) (tree_at c.args.terms.now c.in-Some.pair.right) (tree_at c.args.terms.now c.args.here)
    c.in-Some.ensures.pair.is (c.same_term.ensures.0 c.if-same_term.true)

pub returns-then-same_term-2-clause-some : goal.returns-then-same_term-2-clause-some
returns-then-same_term-2-clause-some c =
    other-right (tree_at c.args.terms.now c.args.id) (tree_at c.args.terms.now c.in-Some.pair.left) (tree_at c.args.terms.now c.in-Some.pair.right) (tree_at c.args.terms.now c.args.here)
    c.in-Some.ensures.pair.is (c.same_term-2.ensures.0 c.if-same_term-2.true)

pub returns-clause-none : goal.returns-clause-none
returns-clause-none c = λ e t o.
    no-other (tree_at c.args.terms.now c.args.id) (tree_at c.args.terms.now c.in-Some.pair.left) (tree_at c.args.terms.now c.in-Some.pair.right) (tree_at c.args.terms.now c.args.here) t
    c.in-Some.ensures.pair.is (iff_false c.same_term.ensures c.if-same_term.false) (iff_false c.same_term-2.ensures c.if-same_term-2.false) o
