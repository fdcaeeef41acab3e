use Rattle.sd_extract.specs.Extract.{var_in}
use Rattle.sd_extract.proofs.CodeLists.{filter_next}
use Rattle.sd_extract.proofs.modified.vars_of.Goals as goal

pub loop-name-preserved : goal.loop-name-preserved
loop-name-preserved c =
    filter_next (var_in c.args.globals.now.vars) c.args.names.now c.loop-name.name-index c.name-item.result c.loop-name.out c.push_var.new.out _ c.loop-name-test.true c.name-item.is c.in_ok-push_var.ensures c.loop-name.invariant
