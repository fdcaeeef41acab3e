use Rattle.std.proofs.Common.{◌≡◌, ◌++◌, ◌∷◌, [], map, take, sym, ap, ◌∙◌, subst, arith}
use Rattle.std.proofs.lemmas.List.{map_more}
use Rattle.sd_term.specs.Heads.{True}
use Rattle.sd_term.specs.Tree.{leaf}
use Rattle.sd_term.specs.Bank.{tree_at}
use Rattle.sd_kernel.specs.Known.{Trail, known}
use Rattle.sd_kernel.specs.Facts.{trail_of}
use Rattle.sd_kernel.specs.FirstFacts.{HasFirstFacts}
use Rattle.sd_kernel.proofs.known.known_values.Goals as goal

pub loop-i-preserved : goal.loop-i-preserved
loop-i-preserved c =
    let trail : Trail = trail_of c.args.terms.now c.args.trail.now in
    let before : c.as_slice-in-loop-i.result.now ≡ map (λ t. known trail t) (take c.new-id.result c.args.terms.now) = c.as_slice-in-loop-i.ensures ∙ c.loop-i.invariant ∙ ap (λ n. map (λ t. known trail t) (take n c.args.terms.now)) (sym c.new-id.ensures) in
    let one : c.known_value-value.result ≡ known trail (tree_at c.args.terms.now c.loop-i.i) = c.known_value-value.ensures trail (subst (HasFirstFacts c.args.terms.now trail) (sym c.as_slice.ensures) c.in_ok-firsts.ensures) before ∙ ap (λ n. known trail (tree_at c.args.terms.now n)) c.new-id.ensures in
    c.in_ok-push.ensures.ok ∙ (λ j. c.loop-i.invariant j ++ one j ∷ [])
    ∙ sym (map_more (λ t. known trail t) c.args.terms.now c.loop-i.i (leaf True) (omega (arith, c.loop-i-test.true, c.len-i-end.ensures.value)))
