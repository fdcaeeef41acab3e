use Rattle.std.proofs.Common.{◌∙◌, ◌+◌, ap}
use Rattle.sd_product.specs.Numbering.{firsts_from}
use Rattle.sd_product.proofs.PlaceLemmas.{one_first}
use Rattle.sd_product.proofs.tables.first_numbers.Goals as goal

pub lists-preserved : goal.lists-preserved
lists-preserved c = one_first c.args.lists.now c.lists.place c.index-lists-place.result c.lists.number c.in_ok-number.number c.lists.first.items c.push.new.self.items (firsts_from 0 c.args.lists.now) c.lists-test.true c.index-lists-place.is (c.in_ok-number.ensures ∙ ap (λ n. c.lists.number + n) c.len.ensures) c.in_ok-push.ensures.items c.lists.invariant
