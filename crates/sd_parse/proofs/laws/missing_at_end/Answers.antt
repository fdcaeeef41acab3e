use Rattle.sd_parse.proofs.AnswerLaws.{missing_at_end}
use Rattle.sd_parse.proofs.laws.missing_at_end.Goals as goal

pub returns : goal.returns
returns c = missing_at_end
