use Rattle.sd_lex.proofs.Unique as unique
use Rattle.sd_lex.proofs.laws.one_list.Goals as goal

pub returns : goal.returns
returns c = λ at text a b p q. unique.one_list p q
