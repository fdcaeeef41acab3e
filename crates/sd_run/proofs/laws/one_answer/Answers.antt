use Rattle.sd_run.proofs.OneAnswerLemmas.{one_answer}
use Rattle.sd_run.proofs.laws.one_answer.Goals as goal

pub returns : goal.returns
returns c = one_answer c.one_table.ensures c.one_fault.ensures.one
