-- The pairs are judged one by one.
use Rattle.std.proofs.Common.{◌<◌, length, ap, arith}
use Rattle.std.proofs.lemmas.Result.{err_from_is_err_and}
use Rattle.sd_product.specs.Work.{pairs_in, queries_of}
use Rattle.sd_cert.proofs.Listing.{claims-count, ascend-own, fault-here, fault-later}
use Rattle.sd_cert.proofs.judge.judge_pairs.Goals as goal

pub bounds-claims-pair : goal.bounds-claims-pair
bounds-claims-pair c =
    omega (arith, claims-count c.args.work.now c.args.claims.now c.requires.fits, c.pairs-test.true, c.len-pair-end.ensures, ap length c.pairs-2.ensures)

pub judge_pair-requires-clause-ascend : goal.judge_pair-requires-clause-ascend
judge_pair-requires-clause-ascend c =
    let within : c.pairs.pair < length (pairs_in c.args.work.now) = omega (arith, c.pairs-test.true, c.len-pair-end.ensures, ap length c.pairs-2.ensures) in
    rw c.as_slice.ensures (ascend-own c.args.work.now c.args.claims.now c.requires.fits c.pairs.pair c.index-claims-pair.result within c.index-claims-pair.is)

pub returns-in_err-at : goal.returns-in_err-at
returns-in_err-at c =
    let h = c.args.work.now in
    let within : c.pairs.pair < length (pairs_in h) = omega (arith, c.pairs-test.true, c.len-pair-end.ensures, ap length c.pairs-2.ensures) in
    let p = err_from_is_err_and c.from_residual.result c.from_residual.ensures.1 in
    rw (p.1, p.2) (fault-here h c.args.claims.now c.requires.fits c.pairs.pair c.index-claims-pair.result within c.index-claims-pair.is (queries_of h c.args.table.now) _ c.pairs.at c.as_slice.result.now c.as_slice.ensures c.pairs.invariant _ c.in_err-at.ensures.fault)

pub pairs-preserved : goal.pairs-preserved
pairs-preserved c =
    let h = c.args.work.now in
    let within : c.pairs.pair < length (pairs_in h) = omega (arith, c.pairs-test.true, c.len-pair-end.ensures, ap length c.pairs-2.ensures) in
    fault-later h c.args.claims.now c.requires.fits c.pairs.pair c.index-claims-pair.result within c.index-claims-pair.is (queries_of h c.args.table.now) _ c.pairs.at c.as_slice.result.now c.as_slice.ensures c.pairs.invariant c.in_ok-at.at c.in_ok-at.ensures.fault c.in_ok-at.ensures.line
