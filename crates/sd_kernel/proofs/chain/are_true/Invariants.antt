use Rattle.std.proofs.Common.{◌≡◌, drop, true}
use Rattle.std.specs.List.{list_all}
use Rattle.sd_kernel.specs.Known.{is_known, known_at}
use Rattle.sd_kernel.proofs.chain.are_true.Given as goal

abbrev pub invariant-loop-link : goal.invariant-loop-link
invariant-loop-link l = list_all (λ n. is_known (known_at l.values n) true) (drop l.link-index l.links) ≡ list_all (λ n. is_known (known_at l.values n) true) l.links
