use Rattle.std.proofs.Common.{◌≡◌, ◌∙◌, ap, subst}
use Rattle.std.specs.Prelude.{map}
use Rattle.sd_term.specs.Bank.{tree_at}
use Rattle.sd_product.specs.Unique.{differ, present}
use Rattle.sd_product.specs.Numbers.{Adds}
use Rattle.sd_product.proofs.FactLemmas.{adds_later}
use Rattle.sd_product.proofs.apart.put_apart.Goals as goal

pub returns : goal.returns
returns c =
    let a = c.args.bank.now in
    let b = c.put_present.new.bank in
    let ids = c.in_ok-ids.ensures in
    let same : map (tree_at b) c.as_slice.result.now ≡ present c.args.terms.now c.args.constants.now = ap (map (tree_at b)) c.as_slice.ensures ∙ ids.terms.trees in
    adds_later a b c.args.facts.now c.put_all_differing.new.bank c.put_all_differing.new.facts (differ (present c.args.terms.now c.args.constants.now)) ids.kept c.requires
    (subst (Adds b c.args.facts.now c.put_all_differing.new.bank c.put_all_differing.new.facts) (ap differ same) c.in_ok-put_all_differing.ensures)
