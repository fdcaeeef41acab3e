use Rattle.std.proofs.Common.{drop}
use Rattle.std.specs.Prelude.{map}
use Rattle.sd_product.specs.Relations.{term_of}
use Rattle.sd_product.specs.Numbers.{store_at}
use Rattle.sd_product.proofs.Numbers.{Adding}
use Rattle.sd_product.proofs.relations.put_relations.Given as goal

abbrev pub invariant-loop-relation : goal.invariant-loop-relation
invariant-loop-relation l =
    Adding l.initial.bank l.initial.facts l.bank l.facts (map (term_of l.places (store_at l.initial.bank l.old) (store_at l.initial.bank l.new)) (drop l.relation-index l.relations)) (map (term_of l.places (store_at l.initial.bank l.old) (store_at l.initial.bank l.new)) l.relations)
