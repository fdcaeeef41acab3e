use Rattle.std.proofs.Common.{sym, ◌∙◌, ap, length}
use Rattle.sd_match.specs.Pairs.{loop_partner_at}
use Rattle.sd_match.proofs.PartnerLemmas.{loop_partner-is}
use Rattle.sd_match.proofs.partners.partner_after.Goals as goal

pub returns-in-Some-get : goal.returns-in-Some-get
returns-in-Some-get c =
    c.loop_partner.ensures ∙ ap (loop_partner_at c.args.new.now c.in-Some-get.root.now c.in-Some.number) c.number_at.ensures
    ∙ loop_partner-is c.args.old.now c.args.new.now (length c.args.partners.now) c.args.proc.now (c.in-Some.place, c.in-Some.number) c.in-Some-get.root.now c.args.partners.now c.requires.formed c.requires.proc c.in-Some.is (sym c.in-Some-get.ensures.value) c.requires.partners
