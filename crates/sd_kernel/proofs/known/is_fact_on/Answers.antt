use Rattle.std.proofs.Common.{◌≡◌, sym, ◌∙◌, true, false}
use Rattle.sd_term.specs.Bank.{tree_at}
use Rattle.sd_kernel.proofs.Tables.{on-yes, on-no}
use Rattle.sd_kernel.proofs.known.is_fact_on.Goals as goal

pub returns-then-same_term : goal.returns-then-same_term
returns-then-same_term c = on-yes (tree_at c.args.terms.now c.args.fact.now.term) (tree_at c.args.terms.now c.args.id) c.args.fact.now.value c.args.value (c.same_term.ensures.0 c.if-same_term.true)

pub returns-else-same_term : goal.returns-else-same_term
returns-else-same_term c =
    c.if-same_term.false ∙ on-no (tree_at c.args.terms.now c.args.fact.now.term) (tree_at c.args.terms.now c.args.id) c.args.fact.now.value c.args.value
    (λ e. let f : false ≡ true = sym c.if-same_term.false ∙ c.same_term.ensures.1 e in cc)
