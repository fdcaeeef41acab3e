use Rattle.std.proofs.Common.{◌≡◌, Some, sym, ap, ◌∙◌, arith, true, false}
use Rattle.sd_term.specs.Bank.{tree_at}
use Rattle.sd_kernel.proofs.Lookups.{eq-long}
use Rattle.sd_kernel.proofs.ChainSteps.{across-first, across-second, across-none}
use Rattle.sd_kernel.proofs.chain.across.Goals as goal

pub part-first-requires-clause-place : goal.part-first-requires-clause-place
part-first-requires-clause-place c = omega (arith, eq-long c.args.terms.now c.args.link c.requires.sorted c.requires.link (sym c.is_eq.ensures ∙ c.if-not-is_eq.false))

pub part-second-requires-clause-place : goal.part-second-requires-clause-place
part-second-requires-clause-place c = omega (arith, eq-long c.args.terms.now c.args.link c.requires.sorted c.requires.link (sym c.is_eq.ensures ∙ c.if-not-is_eq.false))

pub returns-then-same_term-clause-tree : goal.returns-then-same_term-clause-tree
returns-then-same_term-clause-tree c =
    ap Some c.part-second.ensures.tree
    ∙ sym (across-first (tree_at c.args.terms.now c.args.link) (tree_at c.args.terms.now c.args.side) (sym c.is_eq.ensures ∙ c.if-not-is_eq.false) (sym c.part-first.ensures.tree ∙ c.same_term.ensures.0 c.if-same_term.true))

pub returns-then-same_term-2-clause-tree : goal.returns-then-same_term-2-clause-tree
returns-then-same_term-2-clause-tree c =
    ap Some c.part-first.ensures.tree
    ∙ sym (across-second (tree_at c.args.terms.now c.args.link) (tree_at c.args.terms.now c.args.side) (sym c.is_eq.ensures ∙ c.if-not-is_eq.false)
    (λ e. let f : false ≡ true = sym c.if-same_term.false ∙ c.same_term.ensures.1 (c.part-first.ensures.tree ∙ e) in cc)
    (sym c.part-second.ensures.tree ∙ c.same_term-2.ensures.0 c.if-same_term-2.true))

pub returns-clause-tree : goal.returns-clause-tree
returns-clause-tree c =
    sym (across-none (tree_at c.args.terms.now c.args.link) (tree_at c.args.terms.now c.args.side) (sym c.is_eq.ensures ∙ c.if-not-is_eq.false)
    (λ e. let f : false ≡ true = sym c.if-same_term.false ∙ c.same_term.ensures.1 (c.part-first.ensures.tree ∙ e) in cc)
    (λ e. let f : false ≡ true = sym c.if-same_term-2.false ∙ c.same_term-2.ensures.1 (c.part-second.ensures.tree ∙ e) in cc))
