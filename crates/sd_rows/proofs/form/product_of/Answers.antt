use Rattle.sd_rows.proofs.FormLemmas.{product-read}
use Rattle.sd_rows.proofs.form.product_of.Goals as goal

pub returns : goal.returns
returns c = product-read c.args.a c.args.b c.ranges.a c.ranges.b c.requires.first c.requires.second
