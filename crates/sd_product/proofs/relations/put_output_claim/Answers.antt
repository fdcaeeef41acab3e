use Rattle.std.proofs.Common.{◌∙◌}
use Rattle.sd_term.specs.Build.{or_of}
use Rattle.sd_product.proofs.relations.put_output_claim.Goals as goal

pub returns-clause-term : goal.returns-clause-term
returns-clause-term c =
    let related = c.in_ok-related.ensures in
    let failed = c.in_ok-failed.ensures in
    let old = related.kept.kept c.args.old.now.flag c.requires.old.flag in
    let new = related.kept.kept c.args.new.now.flag c.requires.new.flag in
    record {
      within = c.in_ok-id.ensures.number;
      tree = c.in_ok-id.ensures.tree ∙ (λ i. or_of ((failed.tree ∙ (λ j. or_of (old j) (new j))) i) ((failed.kept.kept c.in_ok-related.related related.term.within ∙ related.term.tree) i));
    }
