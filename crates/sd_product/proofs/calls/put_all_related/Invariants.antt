use Rattle.std.proofs.Common.{drop}
use Rattle.std.specs.Prelude.{map}
use Rattle.sd_vcgen.specs.Numbers.{site_at}
use Rattle.sd_product.specs.Query.{all_related}
use Rattle.sd_product.specs.Claims.{claims_of}
use Rattle.sd_product.proofs.Numbers.{Adding}
use Rattle.sd_product.proofs.calls.put_all_related.Given as goal

abbrev pub invariant-loop-old : goal.invariant-loop-old
invariant-loop-old l =
    Adding l.initial.bank l.initial.facts l.bank l.facts (all_related l.table (claims_of l.claims) (map (site_at l.initial.bank) (drop l.old-index l.olds)) (map (site_at l.initial.bank) l.news)) (all_related l.table (claims_of l.claims) (map (site_at l.initial.bank) l.olds) (map (site_at l.initial.bank) l.news))
