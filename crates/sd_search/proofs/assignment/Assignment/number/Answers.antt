use Rattle.std.proofs.Common.{ap, ◌∙◌, length, []}
use Rattle.sd_kernel.specs.Facts.{trail_of}
use Rattle.sd_search.proofs.Runs.{term-continues, term-terms, new-node}
use Rattle.sd_search.proofs.Assignments.{term-more}
use Rattle.sd_search.proofs.assignment.Assignment.number.Goals as goal

pub do_step-requires : goal.do_step-requires
do_step-requires c =
    let a = c.args.self.now in
    term-continues c.args.query.now a.walk a.facts [] a.extra [] c.requires.assignment.running c.args.line c.requires.required.0 (trail_of a.walk.0 a.trail) c.requires.required.1 c.requires.required.2

pub returns : goal.returns
returns c =
    let q = c.args.query.now in
    let a = c.args.self.now in
    let t = c.requires.required.0 in
    let b = trail_of a.walk.0 a.trail in
    let more = term-terms q a.walk a.facts [] a.extra [] c.requires.assignment.running c.args.line t b c.requires.required.1 c.requires.required.2 c.do_step.new.walk c.in_ok-do_step.ensures.walk in
    let node = new-node a.walk.0 c.terms-2.result.now t c.len-number.result c.in_ok-node.node (c.len-number.ensures.value ∙ ap length c.terms.ensures) (c.terms-2.ensures ∙ more) c.in_ok-node.ensures.parts c.in_ok-node.ensures.tree in
    term-more q a c.requires.assignment c.args.line t c.requires.required.1 c.requires.required.2 c.do_step.new.walk c.in_ok-node.node c.push.new.self c.in_ok-do_step.ensures.walk node.0 node.1 c.in_ok-push.ensures.ok
