-- The headers of the pairs up to here.
use Rattle.std.proofs.Common.{◌≡◌, map, take}
use Rattle.sd_product.specs.Work.{pairs_in}
use Rattle.sd_cert.specs.Headers.{header_of}
use Rattle.sd_cert.proofs.header.headers_of.Given as goal

abbrev pub invariant-loop-i : goal.invariant-loop-i
invariant-loop-i l = l.headers.items ≡ map (header_of l.work) (take l.i (pairs_in l.work))
