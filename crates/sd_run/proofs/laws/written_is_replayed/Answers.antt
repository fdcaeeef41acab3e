use Rattle.sd_run.proofs.ReplayedLemmas.{written_is_replayed}
use Rattle.sd_run.proofs.laws.written_is_replayed.Goals as goal

pub returns : goal.returns
returns c = written_is_replayed c.one_answer.ensures
