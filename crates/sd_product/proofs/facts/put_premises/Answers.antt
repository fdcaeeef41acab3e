use Rattle.std.proofs.Common.{subst}
use Rattle.sd_vcgen.proofs.Numbers.{extends_then}
use Rattle.sd_product.specs.Query.{axioms_of, conditions_of, all_related}
use Rattle.sd_product.specs.Numbers.{Adds}
use Rattle.sd_product.specs.Sides.{side_at}
use Rattle.sd_product.specs.Obligations.{work_in, candidate_in}
use Rattle.sd_product.proofs.SideLemmas.{side_same, side_stays}
use Rattle.sd_product.proofs.FactLemmas.{premises_made}
use Rattle.sd_product.proofs.facts.put_premises.Goals as goal

pub put_conditions-requires-clause-old : goal.put_conditions-requires-clause-old
put_conditions-requires-clause-old c = side_stays c.args.bank.now c.put_program_axioms-2.new.bank c.args.old.now (extends_then c.args.bank.now c.put_program_axioms.new.bank c.put_program_axioms-2.new.bank c.in_ok-put_program_axioms.ensures.kept c.in_ok-put_program_axioms-2.ensures.kept) c.requires.old

pub put_conditions-requires-clause-new : goal.put_conditions-requires-clause-new
put_conditions-requires-clause-new c = side_stays c.args.bank.now c.put_program_axioms-2.new.bank c.args.new.now (extends_then c.args.bank.now c.put_program_axioms.new.bank c.put_program_axioms-2.new.bank c.in_ok-put_program_axioms.ensures.kept c.in_ok-put_program_axioms-2.ensures.kept) c.requires.new

pub add_assumptions-requires-clause-side : goal.add_assumptions-requires-clause-side
add_assumptions-requires-clause-side c = side_stays c.args.bank.now c.put_conditions.new.bank c.args.old.now (extends_then c.args.bank.now c.put_program_axioms.new.bank c.put_conditions.new.bank c.in_ok-put_program_axioms.ensures.kept (extends_then c.put_program_axioms.new.bank c.put_program_axioms-2.new.bank c.put_conditions.new.bank c.in_ok-put_program_axioms-2.ensures.kept c.in_ok-put_conditions.ensures.kept)) c.requires.old

pub add_assumptions-requires-2-clause-side : goal.add_assumptions-requires-2-clause-side
add_assumptions-requires-2-clause-side c = side_stays c.args.bank.now c.put_conditions.new.bank c.args.new.now (extends_then c.args.bank.now c.put_program_axioms.new.bank c.put_conditions.new.bank c.in_ok-put_program_axioms.ensures.kept (extends_then c.put_program_axioms.new.bank c.put_program_axioms-2.new.bank c.put_conditions.new.bank c.in_ok-put_program_axioms-2.ensures.kept c.in_ok-put_conditions.ensures.kept)) c.requires.new

pub put_calls-requires-clause-old : goal.put_calls-requires-clause-old
put_calls-requires-clause-old c = side_stays c.args.bank.now c.put_conditions.new.bank c.args.old.now (extends_then c.args.bank.now c.put_program_axioms.new.bank c.put_conditions.new.bank c.in_ok-put_program_axioms.ensures.kept (extends_then c.put_program_axioms.new.bank c.put_program_axioms-2.new.bank c.put_conditions.new.bank c.in_ok-put_program_axioms-2.ensures.kept c.in_ok-put_conditions.ensures.kept)) c.requires.old

pub put_calls-requires-clause-new : goal.put_calls-requires-clause-new
put_calls-requires-clause-new c = side_stays c.args.bank.now c.put_conditions.new.bank c.args.new.now (extends_then c.args.bank.now c.put_program_axioms.new.bank c.put_conditions.new.bank c.in_ok-put_program_axioms.ensures.kept (extends_then c.put_program_axioms.new.bank c.put_program_axioms-2.new.bank c.put_conditions.new.bank c.in_ok-put_program_axioms-2.ensures.kept c.in_ok-put_conditions.ensures.kept)) c.requires.new

pub returns : goal.returns
returns c =
    let a = c.args.bank.now in
    let b1 = c.put_program_axioms.new.bank in
    let b2 = c.put_program_axioms-2.new.bank in
    let b3 = c.put_conditions.new.bank in
    let b4 = c.put_calls.new.bank in
    let k1 = c.in_ok-put_program_axioms.ensures in
    let k2 = c.in_ok-put_program_axioms-2.ensures in
    let k3 = c.in_ok-put_conditions.ensures in
    let to2 = extends_then a b1 b2 k1.kept k2.kept in
    let to3 = extends_then a b2 b3 to2 k3.kept in
    let w = work_in c.args.obligation.now in
    let x = candidate_in c.args.obligation.now in
    let table = c.args.obligation.now.table.now in
    let m = c.args.old.now in
    let n = c.args.new.now in
    let old = side_at a m in
    let new = side_at a n in
    let conditions = subst (Adds b2 c.put_program_axioms-2.new.facts b3 c.put_conditions.new.facts) (λ i. conditions_of x (side_same a b2 m to2 c.requires.old i) (side_same a b2 n to2 c.requires.new i)) k3 in
    let old_assumes = subst (Adds b3 c.put_conditions.new.facts b3 c.add_assumptions.new.facts) (λ i. (side_same a b3 m to3 c.requires.old i).body.assumes) c.in_ok-add_assumptions.ensures in
    let new_assumes = subst (Adds b3 c.add_assumptions.new.facts b3 c.add_assumptions-2.new.facts) (λ i. (side_same a b3 n to3 c.requires.new i).body.assumes) c.in_ok-add_assumptions-2.ensures in
    let calls = subst (Adds b3 c.add_assumptions-2.new.facts b4 c.put_calls.new.facts) (λ i. all_related table w.claims (side_same a b3 m to3 c.requires.old i).body.sites (side_same a b3 n to3 c.requires.new i).body.sites) c.in_ok-put_calls.ensures in
    premises_made a c.args.facts.now b1 c.put_program_axioms.new.facts b2 c.put_program_axioms-2.new.facts b3 c.put_conditions.new.facts c.add_assumptions.new.facts c.add_assumptions-2.new.facts b4 c.put_calls.new.facts (axioms_of w.old) (axioms_of w.new) (conditions_of x old new) old.body.assumes new.body.assumes (all_related table w.claims old.body.sites new.body.sites) k1 k2 conditions old_assumes new_assumes calls
