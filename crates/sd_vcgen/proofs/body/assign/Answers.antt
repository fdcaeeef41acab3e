use Rattle.std.proofs.Common.{◌∙◌, sym, rules}
use Rattle.std.proofs.lemmas.Slice.Zip.{zip_end}
use Rattle.sd_term.specs.Bank.{tree_at}
use Rattle.sd_vcgen.specs.Numbers.{store_of}
use Rattle.sd_vcgen.proofs.Loops.{assign_done}
use Rattle.sd_vcgen.proofs.body.assign.Goals as goal

pub returns-clause-spots : goal.returns-clause-spots
returns-clause-spots c =
    let a = c.args.bank.now in
    let long = zip_end c.args.targets.now c.args.news.now c.loop-target.yielded c.into_iter-target-iterator.result c.loop-target.target-iterator c.next.new.self c.next.result (search rules) (search rules) c.loop-target.yielded_by c.in-None.is c.next.ensures.steps in
    sym (assign_done (tree_at a) (tree_at a c.args.guard) (store_of c.loop-target.bank c.loop-target.spots) c.args.targets.now c.args.news.now _ long) ∙ c.loop-target.invariant.so_far
