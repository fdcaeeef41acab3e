use Rattle.sd_product.proofs.FactLemmas.{adds_all}
use Rattle.sd_product.proofs.facts.put_program_axioms.Goals as goal

pub returns : goal.returns
returns c = adds_all c.args.bank.now c.args.facts.now c.put_axioms.new.bank c.in_ok-axioms.axioms c.append.new.self _ c.requires c.in_ok-axioms.ensures.kept c.in_ok-axioms.ensures.terms c.in_ok-append.ensures
