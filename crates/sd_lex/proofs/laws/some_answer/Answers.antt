use Rattle.sd_lex.proofs.Fronts.{some_answer}
use Rattle.sd_lex.proofs.laws.some_answer.Goals as goal

pub returns : goal.returns
returns c = some_answer
