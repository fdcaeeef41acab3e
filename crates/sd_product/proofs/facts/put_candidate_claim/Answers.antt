use Rattle.std.proofs.Common.{◌∙◌, refl}
use Rattle.sd_term.specs.Bank.{tree_at}
use Rattle.sd_product.specs.Relations.{claim_term}
use Rattle.sd_product.proofs.SideLemmas.{side_ends_are, ends_within}
use Rattle.sd_product.proofs.facts.put_candidate_claim.Goals as goal

pub put_claim-requires-clause-old : goal.put_claim-requires-clause-old
put_claim-requires-clause-old c =
    let e = c.side_ends.ensures in
    ends_within c.args.bank.now (record { state = c.side_ends.result; flag = c.args.old.now.body.flag }) c.args.old.now e.ins e.outs e.globals refl c.requires.old

pub put_claim-requires-clause-new : goal.put_claim-requires-clause-new
put_claim-requires-clause-new c =
    let e = c.side_ends-2.ensures in
    ends_within c.args.bank.now (record { state = c.side_ends-2.result; flag = c.args.new.now.body.flag }) c.args.new.now e.ins e.outs e.globals refl c.requires.new

pub returns-clause-term : goal.returns-clause-term
returns-clause-term c =
    let a = c.args.bank.now in
    let e = c.side_ends.ensures in
    let f = c.side_ends-2.ensures in
    let old = side_ends_are a c.side_ends.result c.args.old.now e.ins e.outs e.globals in
    let new = side_ends_are a c.side_ends-2.result c.args.new.now f.ins f.outs f.globals in
    let claim = c.in_ok-claim.ensures.term in
    record {
      within = claim.within;
      tree = claim.tree ∙ (λ i. claim_term (c.as_slice.ensures i) c.args.obligation.now.candidate.now.claim (old i) (tree_at a c.args.old.now.body.flag) (new i) (tree_at a c.args.new.now.body.flag));
    }
