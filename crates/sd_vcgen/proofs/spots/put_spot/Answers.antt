use Rattle.std.proofs.Common.{sym, subst, IfOk}
use Rattle.sd_term.specs.Tree.{Tree}
use Rattle.sd_vcgen.specs.Numbers.{Denotes}
use Rattle.sd_vcgen.proofs.Numbers.{number_at-none}
use Rattle.sd_vcgen.proofs.spots.put_spot.Goals as goal

pub returns-in-None-clause-term : goal.returns-in-None-clause-term
returns-in-None-clause-term c =
    subst (λ (t : Tree). IfOk c.put_truth.result (λ id. Denotes c.put_truth.new.bank id t)) (sym (number_at-none c.args.bank.now c.args.spots.now c.args.spot (sym c.in-None.ensures))) c.put_truth.ensures.term
