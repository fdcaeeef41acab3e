use Rattle.std.proofs.Common.{◌∙◌}
use Rattle.sd_match.proofs.LeastLemmas.{first_lacking-is}
use Rattle.sd_match.proofs.tables.first_unmatched_of.Goals as goal

pub returns : goal.returns
returns c = first_lacking-is c.args.program.now c.args.other.now c.deref.result.now c.as_slice.result.now c.in_ok-entries.entries.items (c.deref.ensures.value ∙ c.in_ok-partners.ensures) c.as_slice.ensures c.in_ok-entries.ensures
