use Rattle.std.proofs.Common.{◌∙◌, ap, length, arith}
use Rattle.std.specs.Prelude.{Some}
use Rattle.std.proofs.lemmas.List.{length-set}
use Rattle.sd_product.proofs.AscendingLemmas.{finds_more, finds_all}
use Rattle.sd_product.proofs.tables.pairs_by_old.Goals as goal

pub put_pair-requires : goal.put_pair-requires
put_pair-requires c = omega (arith, c.requires.within c.pairs.pair c.pair.result.now c.pair.ensures, c.pairs.invariant.long)

pub pairs-preserved : goal.pairs-preserved
pairs-preserved c = record {
  long = ap length c.put_pair.ensures ∙ (length-set c.pairs.entries.items c.pair.result.now.old (Some c.pairs.pair) ∙ c.pairs.invariant.long);
  found = finds_more c.pairs.pair c.args.procs c.pairs.entries.items c.put_pair.new.entries.items c.args.pairs.now c.pair.result.now c.requires c.pairs.invariant.long c.pair.ensures c.put_pair.ensures c.pairs.invariant.found;
}

pub returns : goal.returns
returns c = finds_all c.pairs.pair c.pairs.entries.items c.args.pairs.now (omega arith) c.pairs.invariant.found
