use Rattle.std.proofs.Common.{◌≡◌, ◌++◌, drop}
use Rattle.sd_product.specs.Numbering.{firsts_from}
use Rattle.sd_product.proofs.tables.first_numbers.Given as goal

abbrev pub invariant-lists : goal.invariant-lists
invariant-lists l = l.first.items ++ firsts_from l.number (drop l.place l.lists) ≡ firsts_from 0 l.lists
