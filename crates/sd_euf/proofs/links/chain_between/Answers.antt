use Rattle.std.proofs.Common.{ap, subst, sym, ◌∙◌, ◌≡◌}
use Rattle.sd_term.specs.Bank.{tree_at}
use Rattle.sd_euf.specs.Links.{IsChain, IsReached, AreLinks, reached_at}
use Rattle.sd_euf.proofs.Joined.{joined-back}
use Rattle.sd_euf.proofs.LinkLemmas.{chain-none, reaches-all}
use Rattle.sd_euf.proofs.links.chain_between.Goals as goal

pub returns-then-same_term-clause-chain : goal.returns-then-same_term-clause-chain
returns-then-same_term-clause-chain c =
    chain-none c.args.terms.now c.args.values.now (tree_at c.args.terms.now c.args.from) (tree_at c.args.terms.now c.args.to) c.new.result c.new.ensures (c.same_term.ensures.0 c.if-same_term.true)

pub returns-in_default-clause-none : goal.returns-in_default-clause-none
returns-in_default-clause-none c = λ trail v j.
    let back = joined-back c.args.terms.now trail (tree_at c.args.terms.now c.args.from) (tree_at c.args.terms.now c.args.to) j in
    c.in_default.ensures.none (subst (λ ls. IsReached c.args.terms.now ls (tree_at c.args.terms.now c.args.from)) (sym c.as_slice.ensures)
    (reaches-all c.args.terms.now c.args.values.now c.in_ok-links.links trail v c.in_ok-links.ensures.reached (tree_at c.args.terms.now c.args.to) back.0 (tree_at c.args.terms.now c.args.from) back.1 back.2
    (record { at = 0; within = c.in_ok-links.ensures.links.some; is = ap (tree_at c.args.terms.now) c.in_ok-links.ensures.root })))

pub returns-clause-chain : goal.returns-clause-chain
returns-clause-chain c =
    let links = subst (λ ls. AreLinks c.args.terms.now c.args.values.now ls) (sym c.as_slice-2.ensures) c.in_ok-links.ensures.links in
    let from : reached_at c.args.terms.now c.as_slice-2.result.now c.in-Some.at ≡ tree_at c.args.terms.now c.args.from =
    ap (λ ls. reached_at c.args.terms.now ls c.in-Some.at) (c.as_slice-2.ensures ∙ sym c.as_slice.ensures) ∙ c.in-Some.ensures.some in
    let to : reached_at c.args.terms.now c.as_slice-2.result.now 0 ≡ tree_at c.args.terms.now c.args.to =
    ap (λ ls. reached_at c.args.terms.now ls 0) c.as_slice-2.ensures ∙ ap (tree_at c.args.terms.now) c.in_ok-links.ensures.root in
    subst (λ t. IsChain c.args.terms.now c.args.values.now t c.in_ok-chain.chain (tree_at c.args.terms.now c.args.to)) from
    (subst (λ t. IsChain c.args.terms.now c.args.values.now (reached_at c.args.terms.now c.as_slice-2.result.now c.in-Some.at) c.in_ok-chain.chain t) to (c.in_ok-chain.ensures c.args.terms.now c.args.values.now links))
