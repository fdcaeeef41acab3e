use Rattle.std.proofs.Common.{◌∙◌}
use Rattle.sd_match.proofs.PairLemmas.{shared-within}
use Rattle.sd_match.proofs.pairs.outputs_of.Goals as goal

pub modified_globals-requires : goal.modified_globals-requires
modified_globals-requires c = shared-within c.args.old.now.globals c.args.new.now.globals c.len.result c.len-2.result c.deref.result.now (c.deref.ensures.value ∙ c.requires.shared) c.len.ensures c.len-2.ensures
