use Rattle.std.proofs.Common.{◌≡◌, ◌<◌, drop, map, length}
use Rattle.sd_term.specs.Bank.{tree_at}
use Rattle.sd_kernel.specs.Steps.{leads}
use Rattle.sd_kernel.proofs.chain.leads.Given as goal

abbrev pub invariant-loop-link : goal.invariant-loop-link
invariant-loop-link l = record {
  below : l.side < length l.terms;
  rest : leads (tree_at l.terms l.side) (map (λ n. tree_at l.terms n) (drop l.link-index l.links)) (tree_at l.terms l.last)
      ≡ leads (tree_at l.terms l.fn.first) (map (λ n. tree_at l.terms n) l.links) (tree_at l.terms l.last);
}
