use Rattle.std.proofs.Common.{sym, None}
use Rattle.sd_kernel.specs.Known.{known_at}
use Rattle.sd_kernel.proofs.Tables.{get_or-map-none}
use Rattle.sd_kernel.proofs.known.part_known.Goals as goal

pub returns-in-None : goal.returns-in-None
returns-in-None c = sym (get_or-map-none (λ p. known_at c.args.values.now p) c.args.node.now.parts c.args.place None (sym c.in-None.ensures.value))
