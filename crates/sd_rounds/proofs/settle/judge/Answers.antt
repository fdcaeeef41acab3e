use Rattle.std.proofs.Common.{◌≡◌, subst}
use Rattle.std.specs.Prelude.{Some, slice_get}
use Rattle.sd_product.specs.Work.{PairedPrograms, queries_of}
use Rattle.sd_rounds.proofs.Settling.{found}
use Rattle.sd_rounds.proofs.settle.judge.Goals as goal

pub refute-requires-clause-truths : goal.refute-requires-clause-truths
refute-requires-clause-truths c = c.in_ok-query.ensures.truths

pub returns : goal.returns
returns c =
    let query = subst (λ (h : PairedPrograms). slice_get (queries_of h c.args.table.now) c.args.candidate ≡ Some c.in_ok-query.query) c.requires.bodies c.in_ok-query.ensures.query in
    found c.args.leaves (queries_of c.args.work.now c.args.table.now) c.args.candidate c.in_ok-query.query _ _ query c.finding_of.ensures c.in_ok-outcome.ensures.refuted c.in_ok-outcome.ensures.cube c.in_ok-outcome.ensures.spent
