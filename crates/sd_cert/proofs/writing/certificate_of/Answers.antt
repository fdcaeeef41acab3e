use Rattle.std.proofs.Common.{refl, arith}
use Rattle.sd_cert.proofs.WrittenLemmas.{fits-all}
use Rattle.sd_cert.proofs.writing.certificate_of.Goals as goal

pub returns-clause-certificate : goal.returns-clause-certificate
returns-clause-certificate c =
    let complete = fits-all c.args.headers.now c.args.proofs.now c.pairs.claims c.pairs.header-index c.pairs.first c.pairs.left.now (omega arith) c.pairs.invariant.total c.pairs.invariant.ascend c.pairs.invariant.rest in
    record { same_digests = refl; fits = complete.0; entries = complete.1 }
