use Rattle.std.proofs.Common.{◌≡◌, ◌+◌, length, drop}
use Rattle.sd_product.specs.Inductive.{proved_of}
use Rattle.sd_cert.specs.Accepts.{Ascend}
use Rattle.sd_cert.specs.Headers.{count_of}
use Rattle.sd_cert.proofs.WrittenLemmas.{Continues}
use Rattle.sd_cert.proofs.writing.certificate_of.Given as goal

-- what is made of the pairs up to here, with what is made of those from here on, is the certificate
abbrev pub invariant-pairs : goal.invariant-pairs
invariant-pairs l = record {
  count : length l.claims ≡ l.header-index;
  total : l.first + count_of (drop l.header-index l.headers) ≡ count_of l.headers;
  ascend : Ascend l.first (count_of l.headers) (proved_of l.left);
  rest : Continues l.headers l.initial.proofs l.claims l.first (drop l.header-index l.headers) l.left;
}
