-- The bytes spell one certificate, and the table is that of the certificate.
use Rattle.std.proofs.Common.{◌≡◌, sym, ap, ◌∙◌}
use Rattle.sd_cert.specs.declared.certificate.Certificate.{Certificate}
use Rattle.sd_cert.specs.Headers.{headers_of}
use Rattle.sd_cert.specs.Tables.{table_of}
use Rattle.sd_cert.proofs.OneCertificate.{one_certificate}
use Rattle.sd_cert.proofs.TableLemmas.{accepted-table}
use Rattle.sd_cert.proofs.laws.one_table.Goals as goal

pub returns : goal.returns
returns c h d bytes t u a b =
    let same : a.certificate ≡ b.certificate = one_certificate a.certificate b.certificate a.form b.form (sym a.text ∙ b.text) in
    accepted-table h d bytes t a ∙ ap (λ (c : Certificate). table_of (headers_of h) c.pairs) same ∙ sym (accepted-table h d bytes u b)
