use Rattle.std.proofs.Common.{sym}
use Rattle.sd_product.proofs.TableLemmas.{no_other}
use Rattle.sd_product.proofs.calls.pair_of.Goals as goal

pub returns-else-is_pair : goal.returns-else-is_pair
returns-else-is_pair c =
    no_other c.args.claims.now.pairs.now c.args.claims.now.pair_of_old.now c.args.old c.args.new c.in-Some.place c.is_pair.result c.requires.places (sym c.in-Some.ensures) c.if-is_pair.false c.is_pair.ensures
