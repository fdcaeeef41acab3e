use Rattle.sd_cert.proofs.OneCertificate.{one_certificate}
use Rattle.sd_cert.proofs.laws.one_spelling.Goals as goal

pub returns : goal.returns
returns c = one_certificate
