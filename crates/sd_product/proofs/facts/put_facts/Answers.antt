use Rattle.std.proofs.Common.{◌≡◌, ◌∙◌, ◌<◌, length, subst, sym}
use Rattle.std.specs.Prelude.{All}
use Rattle.sd_term.specs.Bank.{tree_at}
use Rattle.sd_vcgen.proofs.Numbers.{all_later}
use Rattle.sd_product.specs.Query.{premises_of, claim_of}
use Rattle.sd_product.specs.Sides.{side_at}
use Rattle.sd_product.specs.Obligations.{work_in, candidate_in}
use Rattle.sd_product.proofs.SideLemmas.{side_same, side_stays}
use Rattle.sd_product.proofs.FactLemmas.{facts_made, all_none}
use Rattle.sd_product.proofs.facts.put_facts.Goals as goal

pub put_premises-requires-clause-facts : goal.put_premises-requires-clause-facts
put_premises-requires-clause-facts c =
    let a = c.args.bank.now in
    subst (All (λ id. id < length a)) (sym c.new-facts.ensures) (all_none (λ id. id < length a))

pub put_candidate_claim-requires-clause-old : goal.put_candidate_claim-requires-clause-old
put_candidate_claim-requires-clause-old c = side_stays c.args.bank.now c.put_premises.new.bank c.args.old.now c.in_ok-put_premises.ensures.kept c.requires.old

pub put_candidate_claim-requires-clause-new : goal.put_candidate_claim-requires-clause-new
put_candidate_claim-requires-clause-new c = side_stays c.args.bank.now c.put_premises.new.bank c.args.new.now c.in_ok-put_premises.ensures.kept c.requires.new

pub put_uniques-requires-clause-facts : goal.put_uniques-requires-clause-facts
put_uniques-requires-clause-facts c = all_later c.put_premises.new.bank c.put_candidate_claim.new.bank c.put_premises.new.facts c.in_ok-claim.ensures.kept c.in_ok-put_premises.ensures.within

pub returns : goal.returns
returns c =
    let a = c.args.bank.now in
    let b1 = c.put_premises.new.bank in
    let b2 = c.put_candidate_claim.new.bank in
    let b3 = c.put_uniques.new.bank in
    let b4 = c.not.new.self in
    let w = work_in c.args.obligation.now in
    let x = candidate_in c.args.obligation.now in
    let table = c.args.obligation.now.table.now in
    let m = c.args.old.now in
    let n = c.args.new.now in
    let k1 = c.in_ok-put_premises.ensures in
    let claim = c.in_ok-claim.ensures in
    let denial = c.in_ok-denial.ensures in
    let said : tree_at b2 c.in_ok-claim.claim ≡ claim_of x (side_at a m) (side_at a n) = claim.term.tree ∙ (λ i. claim_of x (side_same a b1 m k1.kept c.requires.old i) (side_same a b1 n k1.kept c.requires.new i)) in
    facts_made a b1 b2 b3 b4 c.new-facts.result c.put_premises.new.facts c.put_uniques.new.facts c.push.new.self c.in_ok-claim.claim c.in_ok-denial.denial (premises_of w table x (side_at a m) (side_at a n)) (claim_of x (side_at a m) (side_at a n)) w.old.uniques w.new.uniques c.as_slice.result.now c.as_slice-2.result.now
    c.new-facts.ensures k1 claim.kept said claim.term.within c.in_ok-put_uniques.ensures c.as_slice.ensures c.as_slice-2.ensures denial.tree denial.number denial.kept c.in_ok-push.ensures.ok
