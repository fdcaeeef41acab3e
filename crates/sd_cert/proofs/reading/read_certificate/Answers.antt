-- The lines of the bytes are those of the certificate.
use Rattle.sd_cert.proofs.AcceptLemmas.{only, read-whole}
use Rattle.sd_cert.proofs.reading.read_certificate.Goals as goal

pub returns-clause-found : goal.returns-clause-found
returns-clause-found c =
    (read-whole c.args.bytes.now c.in_ok-lines.lines c.as_slice.result.now c.in_ok-lines.rest.now c.certificate_in.result c.in_ok-lines.ensures c.as_slice.ensures c.certificate_in.ensures.found c.certificate_in.ensures.fault).0

pub returns-clause-only : goal.returns-clause-only
returns-clause-only c =
    let read = read-whole c.args.bytes.now c.in_ok-lines.lines c.as_slice.result.now c.in_ok-lines.rest.now c.certificate_in.result c.in_ok-lines.ensures c.as_slice.ensures c.certificate_in.ensures.found c.certificate_in.ensures.fault in
    only c.args.bytes.now c.certificate_in.result read.0 read.1

pub returns-clause-fault : goal.returns-clause-fault
returns-clause-fault c =
    (read-whole c.args.bytes.now c.in_ok-lines.lines c.as_slice.result.now c.in_ok-lines.rest.now c.certificate_in.result c.in_ok-lines.ensures c.as_slice.ensures c.certificate_in.ensures.found c.certificate_in.ensures.fault).1
