use Rattle.std.proofs.Common.{drop}
use Rattle.std.specs.Prelude.{map}
use Rattle.sd_vcgen.specs.Numbers.{site_at}
use Rattle.sd_product.specs.Query.{with_each}
use Rattle.sd_product.specs.Claims.{claims_of}
use Rattle.sd_product.proofs.Numbers.{Adding}
use Rattle.sd_product.proofs.calls.put_with_each.Given as goal

abbrev pub invariant-loop-new : goal.invariant-loop-new
invariant-loop-new l =
    Adding l.initial.bank l.initial.facts l.bank l.facts (with_each l.table (claims_of l.claims) (site_at l.initial.bank l.old) (map (site_at l.initial.bank) (drop l.new-index l.news))) (with_each l.table (claims_of l.claims) (site_at l.initial.bank l.old) (map (site_at l.initial.bank) l.news))
