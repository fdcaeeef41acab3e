-- The headers are those of the programs.
use Rattle.std.proofs.Common.{◌≡◌, ℕ, List, sym, ◌∙◌, subst}
use Rattle.std.specs.Prelude.{IfOk}
use Rattle.sd_product.specs.Inductive.{proved_of}
use Rattle.sd_cert.specs.declared.header.PairHeader.{PairHeader}
use Rattle.sd_cert.specs.Accepts.{Ascend}
use Rattle.sd_cert.specs.Headers.{headers_of}
use Rattle.sd_cert.specs.Written.{IsCertificateOf}
use Rattle.sd_cert.proofs.HeaderLemmas.{count-own}
use Rattle.sd_cert.proofs.writing.certificate_of_work.Goals as goal

pub certificate_of-requires : goal.certificate_of-requires
certificate_of-requires c =
    let own : c.as_slice.result.now ≡ headers_of c.args.work.now = c.as_slice.ensures.value ∙ c.in_ok-headers.ensures.headers in
    subst (λ (n : ℕ). Ascend 0 n (proved_of c.args.proofs.now)) (sym (count-own c.args.work.now c.as_slice.result.now own)) c.requires

pub returns-clause-certificate : goal.returns-clause-certificate
returns-clause-certificate c =
    let own : c.as_slice.result.now ≡ headers_of c.args.work.now = c.as_slice.ensures.value ∙ c.in_ok-headers.ensures.headers in
    subst (λ (ss : List PairHeader). IfOk c.certificate_of.result (IsCertificateOf ss c.args.digests.now c.args.proofs.now)) own c.certificate_of.ensures.certificate
