use Rattle.std.proofs.Common.{◌≡◌, drop, map, [], ◌∷◌}
use Rattle.sd_term.specs.Bank.{tree_at}
use Rattle.sd_kernel.specs.Proof.{judged, start}
use Rattle.sd_kernel.proofs.walk.judge.Given as goal

abbrev pub invariant-loop-step : goal.invariant-loop-step
invariant-loop-step l =
    judged l.walk l.line (drop l.step-index l.steps) ≡ judged (l.fn.terms, start (map (λ f. tree_at l.fn.terms f) l.facts) ∷ []) 0 l.steps
