use Rattle.sd_linear.proofs.Naming.{names-first, names-second, names-cut}
use Rattle.sd_linear.proofs.refutation.renumbered.Goals as goal

pub bounds-numbers-a : goal.bounds-numbers-a
bounds-numbers-a c = c.requires c.in-Add.a (names-first c.args.step c.in-Add.a c.in-Add.m c.in-Add.b c.in-Add.n c.in-Add.is)

pub bounds-numbers-b : goal.bounds-numbers-b
bounds-numbers-b c = c.requires c.in-Add.b (names-second c.args.step c.in-Add.a c.in-Add.m c.in-Add.b c.in-Add.n c.in-Add.is)

pub bounds-numbers-a-in-Cut : goal.bounds-numbers-a-in-Cut
bounds-numbers-a-in-Cut c = c.requires c.in-Cut.a (names-cut c.args.step c.in-Cut.a c.in-Cut.is)
