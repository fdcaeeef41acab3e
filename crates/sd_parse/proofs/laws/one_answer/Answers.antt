use Rattle.sd_parse.proofs.AnswerLaws.{one_answer}
use Rattle.sd_parse.proofs.laws.one_answer.Goals as goal

pub returns : goal.returns
returns c = one_answer
