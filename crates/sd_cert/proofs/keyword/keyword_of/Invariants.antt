use Rattle.std.proofs.Common.{◌≡◌, drop}
use Rattle.sd_cert.specs.Keywords.{keyword_in, keywords}
use Rattle.sd_cert.proofs.keyword.keyword_of.Given as goal

abbrev pub invariant-loop-keyword : goal.invariant-loop-keyword
invariant-loop-keyword l = keyword_in (drop l.keyword-index l.keyword-items) l.text ≡ keyword_in keywords l.text
