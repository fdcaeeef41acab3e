use Rattle.std.proofs.lemmas.Result.{err_from_is_err_and}
use Rattle.sd_match.specs.Refusals.{refusal_of}
use Rattle.sd_product.proofs.ErrorLemmas.{tells, tells_nothing}
use Rattle.sd_product.proofs.work.Work.new.Goals as goal

pub returns-in_err-pairs-clause-refused : goal.returns-in_err-pairs-clause-refused
returns-in_err-pairs-clause-refused c =
    let p = err_from_is_err_and c.from_residual.result c.from_residual.ensures.1
    in rw p.1 (tells (refusal_of c.args.old c.args.new) c.in_err-pairs.field-0.0 p.0 p.2 c.in_err-pairs.ensures.refused)

pub returns-in_err-candidates-clause-refused : goal.returns-in_err-candidates-clause-refused
returns-in_err-candidates-clause-refused c =
    let p = err_from_is_err_and c.from_residual-in_err-candidates.result c.from_residual-in_err-candidates.ensures.1
    in rw p.1 (tells_nothing (refusal_of c.args.old c.args.new) p.0 p.2)

pub returns-in_err-work-clause-refused : goal.returns-in_err-work-clause-refused
returns-in_err-work-clause-refused c =
    let p = err_from_is_err_and c.from_residual-in_err-work.result c.from_residual-in_err-work.ensures.1
    in rw p.1 (tells_nothing (refusal_of c.args.old c.args.new) p.0 p.2)
