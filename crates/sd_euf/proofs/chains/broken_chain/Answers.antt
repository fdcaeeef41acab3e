use Rattle.std.proofs.Common.{◌≡◌, ℕ, List, [], sym, subst, Option, IfSome}
use Rattle.sd_term.specs.Bank.{tree_at}
use Rattle.sd_euf.specs.Judged.{Breaks}
use Rattle.sd_euf.specs.Links.{IsChain}
use Rattle.sd_euf.proofs.ChainLemmas.{chain-breaks}
use Rattle.sd_euf.proofs.chains.broken_chain.Goals as goal

pub returns-clause-broken : goal.returns-clause-broken
returns-clause-broken c =
    let chain = subst (λ (o : Option (List ℕ)). IfSome o (λ ns. IsChain c.args.terms.now c.args.values.now (tree_at c.args.terms.now c.in-Some.sides.left) ns (tree_at c.args.terms.now c.in-Some.sides.right)))
    c.in-Some-found.is c.in_ok-found.ensures.chain in
    let short = subst (λ (o : Option (List ℕ)). IfSome o (λ ns. tree_at c.args.terms.now c.in-Some.sides.left ≡ tree_at c.args.terms.now c.in-Some.sides.right → ns ≡ []))
    c.in-Some-found.is c.in_ok-found.ensures.short in
    subst (Breaks c.args.terms.now c.args.values.now) (sym c.chain_step.ensures)
    (chain-breaks c.args.terms.now c.args.values.now c.args.id c.in-Some.sides c.in-Some-found.chain c.requires.sorted c.in-Some.ensures.some c.in-Some.ensures.pair chain short)
