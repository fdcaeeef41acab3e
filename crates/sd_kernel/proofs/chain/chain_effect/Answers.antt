use Rattle.std.proofs.Common.{refl, sym, ap, ◌∙◌, map, true}
use Rattle.std.specs.List.{list_all}
use Rattle.sd_term.specs.Bank.{tree_at}
use Rattle.sd_kernel.specs.declared.step.StepCause.TheVariants.{Shape, Value}
use Rattle.sd_kernel.specs.Facts.{trail_of}
use Rattle.sd_kernel.specs.Known.{known, is_known}
use Rattle.sd_kernel.specs.Steps.{needs, adds}
use Rattle.sd_kernel.specs.Effects.{outcome_of}
use Rattle.sd_kernel.proofs.ChainSteps.{chain-number, chain-shaped, chain-made}
use Rattle.sd_kernel.proofs.chain.chain_effect.Goals as goal

pub returns-then-not-are_numbers-2-clause-effect : goal.returns-then-not-are_numbers-2-clause-effect
returns-then-not-are_numbers-2-clause-effect c =
    let terms = c.args.terms.now in
    let trail = trail_of terms c.args.trail.now in
    chain-number terms trail c.args.equality c.args.equality c.args.links.now (sym c.are_numbers.ensures ∙ c.if-not-are_numbers.false) refl (sym c.are_numbers-2.ensures ∙ c.if-not-are_numbers-2.true)
    ∙ sym (ap (outcome_of terms trail) c.bad-then-not-are_numbers-2.ensures)

pub returns-then-not-is_chain-clause-effect : goal.returns-then-not-is_chain-clause-effect
returns-then-not-is_chain-clause-effect c =
    let terms = c.args.terms.now in
    let trail = trail_of terms c.args.trail.now in
    chain-shaped terms trail c.args.equality c.new-equality.result c.args.links.now (sym c.are_numbers.ensures ∙ c.if-not-are_numbers.false) c.new-equality.ensures
    (sym c.are_numbers-2.ensures ∙ c.if-not-are_numbers-2.false) c.is_chain.result c.is_chain.ensures
    ∙ ap (λ b. needs b Shape (needs (list_all (λ u. is_known (known trail u) true) (map (λ n. tree_at terms n) c.args.links.now)) Value (adds terms trail (tree_at terms c.new-equality.result) true))) c.if-not-is_chain.true
    ∙ sym (ap (outcome_of terms trail) c.bad-then-not-is_chain.ensures)

pub returns-then-not-are_true-clause-effect : goal.returns-then-not-are_true-clause-effect
returns-then-not-are_true-clause-effect c =
    let terms = c.args.terms.now in
    let trail = trail_of terms c.args.trail.now in
    chain-made terms trail c.args.equality c.new-equality.result c.args.links.now (sym c.are_numbers.ensures ∙ c.if-not-are_numbers.false) c.new-equality.ensures
    (sym c.are_numbers-2.ensures ∙ c.if-not-are_numbers-2.false) c.is_chain.result c.is_chain.ensures c.if-not-is_chain.false c.as_slice.result.now (c.as_slice.ensures ∙ c.in_ok-values.ensures) c.are_true.result c.are_true.ensures
    ∙ ap (λ b. needs b Value (adds terms trail (tree_at terms c.new-equality.result) true)) c.if-not-are_true.true ∙ sym (ap (outcome_of terms trail) c.bad-then-not-are_true.ensures)

pub returns-clause-effect : goal.returns-clause-effect
returns-clause-effect c =
    let terms = c.args.terms.now in
    let trail = trail_of terms c.args.trail.now in
    chain-made terms trail c.args.equality c.new-equality.result c.args.links.now (sym c.are_numbers.ensures ∙ c.if-not-are_numbers.false) c.new-equality.ensures
    (sym c.are_numbers-2.ensures ∙ c.if-not-are_numbers-2.false) c.is_chain.result c.is_chain.ensures c.if-not-is_chain.false c.as_slice.result.now (c.as_slice.ensures ∙ c.in_ok-values.ensures) c.are_true.result c.are_true.ensures
    ∙ ap (λ b. needs b Value (adds terms trail (tree_at terms c.new-equality.result) true)) c.if-not-are_true.false
