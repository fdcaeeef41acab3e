use Rattle.std.proofs.Common.{◌∙◌}
use Rattle.sd_core.specs.Store.{read}
use Rattle.sd_term.specs.Build.{relation_of}
use Rattle.sd_vcgen.specs.Body.{nothing}
use Rattle.sd_product.proofs.Numbers.{store_later}
use Rattle.sd_product.proofs.relations.put_related.Goals as goal

pub returns-clause-term : goal.returns-clause-term
returns-clause-term c =
    let a = c.args.bank.now in
    let b = c.put_spot.new.bank in
    let old = c.in_ok-left.ensures in
    let new = c.in_ok-right.ensures in
    let left = new.kept.kept c.in_ok-left.left old.term.within ∙ old.term.tree in
    let right = new.term.tree ∙ (λ i. read nothing (store_later a b c.args.new.now old.kept c.requires.new i) c.args.spots.now.new) in
    record {
      within = c.in_ok-id.ensures.number;
      tree = c.in_ok-id.ensures.tree ∙ (λ i. relation_of c.args.kind (left i) (right i));
    }
