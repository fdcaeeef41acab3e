use Rattle.sd_parse.proofs.AnswerLaws.{some_answer}
use Rattle.sd_parse.proofs.laws.some_answer.Goals as goal

pub returns : goal.returns
returns c = some_answer
