use Rattle.std.proofs.lemmas.Slice.Eq.{strip_prefix_is}
use Rattle.std.proofs.lemmas.Bool.Decides.{Decides-eqb}
use Rattle.sd_cert.proofs.FieldLemmas.{after_is}
use Rattle.sd_cert.proofs.field.after.Goals as goal

pub returns : goal.returns
returns c = after_is c.args.text.now c.args.front.now c.strip_prefix.result (strip_prefix_is Decides-eqb c.args.text.now c.args.front.now c.strip_prefix.result c.strip_prefix.ensures.cases)
