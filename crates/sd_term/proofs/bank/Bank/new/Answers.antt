use Rattle.sd_term.proofs.Shared.{IsBank-none}
use Rattle.sd_term.proofs.bank.Bank.new.Goals as goal

pub invariant_of-result : goal.invariant_of-result
invariant_of-result c = IsBank-none c.new.result.keys c.new-2.result.items c.new.ensures.empty c.new-2.ensures.items
