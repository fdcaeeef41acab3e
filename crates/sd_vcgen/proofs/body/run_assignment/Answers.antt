use Rattle.sd_vcgen.specs.Numbers.{context_of}
use Rattle.sd_vcgen.proofs.Bodies.{assigned}
use Rattle.sd_vcgen.proofs.body.run_assignment.Goals as goal

pub returns-clause-state : goal.returns-clause-state
returns-clause-state c =
    let news = c.in_ok-news.ensures in
    let guard = c.in_ok-guard.ensures in
    let done = c.in_ok-assign.ensures in
    assigned (context_of c.args.context.now) c.as_slice-functions.result.now c.args.bank.now c.put_expressions.new.bank c.put_guard.new.bank c.assign.new.bank c.args.state.now c.assign.new.spots c.args.path c.in_ok-guard.guard c.args.targets.now c.args.rights.now c.in_ok-news.news c.as_slice.result.now
    c.as_slice-functions.ensures c.requires.state c.requires.path news.kept news.terms guard.kept guard.term done.kept done.within c.as_slice.ensures done.spots
