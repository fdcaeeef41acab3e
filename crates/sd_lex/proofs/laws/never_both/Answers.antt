use Rattle.sd_lex.proofs.Unique as unique
use Rattle.sd_lex.proofs.laws.never_both.Goals as goal

pub returns : goal.returns
returns c = λ at text a b p q. unique.not_both p q
