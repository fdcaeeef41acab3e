use Rattle.std.proofs.Common.{length, sym, ap, ◌∙◌}
use Rattle.sd_cand.proofs.TableLemmas.{length-live_of}
use Rattle.sd_cand.proofs.live.LiveTable.count.Goals as goal

pub returns : goal.returns
returns c = sym (length-live_of c.self.inside.count c.self.inside.words.items) ∙ ap length c.self.view_is
