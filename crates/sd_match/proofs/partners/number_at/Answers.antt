use Rattle.std.proofs.Common.{sym}
use Rattle.std.specs.Prelude.{None}
use Rattle.sd_match.proofs.ListLemmas.{get_or-none, get_or-some}
use Rattle.sd_match.proofs.partners.number_at.Goals as goal

pub returns-in-None : goal.returns-in-None
returns-in-None c = sym (get_or-none c.args.numbers.now c.args.place None (sym c.in-None.ensures))

pub returns-in-Some : goal.returns-in-Some
returns-in-Some c = sym (get_or-some c.args.numbers.now c.args.place c.in-Some.number.now None (sym c.in-Some.ensures))
