use Rattle.std.proofs.Common.{◌+◌, [], ◌∷◌, refl, subst, drop, arith}
use Rattle.std.specs.Prelude.{if◌then◌else◌}
use Rattle.sd_cand.specs.declared.candidate.Candidate.{Candidate}
use Rattle.sd_vcgen.specs.Numbers.{site_at}
use Rattle.sd_product.specs.Query.{is_live, implication, calls_related}
use Rattle.sd_product.specs.Claims.{claimed}
use Rattle.sd_product.specs.Numbers.{Adds}
use Rattle.sd_product.proofs.Numbers.{adding_begins, adding_more}
use Rattle.sd_product.proofs.Sites.{site_stays, site_same}
use Rattle.sd_product.proofs.TableLemmas.{live_split}
use Rattle.sd_product.proofs.calls.put_live.Goals as goal

pub put_if_live-requires-clause-facts : goal.put_if_live-requires-clause-facts
put_if_live-requires-clause-facts c = c.loop-candidate.invariant.so_far.within

pub put_if_live-requires-clause-old : goal.put_if_live-requires-clause-old
put_if_live-requires-clause-old c = site_stays c.args.bank.now c.loop-candidate.bank c.args.calls.now.old.now c.loop-candidate.invariant.so_far.kept c.requires.old

pub put_if_live-requires-clause-new : goal.put_if_live-requires-clause-new
put_if_live-requires-clause-new c = site_stays c.args.bank.now c.loop-candidate.bank c.args.calls.now.new.now c.loop-candidate.invariant.so_far.kept c.requires.new

pub loop-candidate-init : goal.loop-candidate-init
loop-candidate-init c = record {
  number = omega arith;
  so_far = adding_begins c.args.bank.now c.args.facts.now _ _ c.requires.facts refl;
}

pub loop-candidate-preserved : goal.loop-candidate-preserved
loop-candidate-preserved c =
    let a = c.args.bank.now in
    let b = c.loop-candidate.bank in
    let d = c.put_if_live.new.bank in
    let i = c.loop-candidate.invariant in
    let index = c.loop-candidate.candidate-index in
    let number = c.loop-candidate.number in
    let all = c.args.candidates.now in
    let pair = c.args.calls.now.pair.now in
    let table = c.args.table.now in
    let old = site_at a c.args.calls.now.old.now in
    let new = site_at a c.args.calls.now.new.now in
    let x : Candidate = c.candidate-item.result in
    let added : Adds b c.loop-candidate.facts d c.put_if_live.new.facts (if is_live table number then implication (record { pair = pair; candidate = x }) old new ∷ [] else []) =
    subst (Adds b c.loop-candidate.facts d c.put_if_live.new.facts) (λ j. if is_live table number then implication (record { pair = pair; candidate = x }) (site_same a b c.args.calls.now.old.now i.so_far.kept c.requires.old j) (site_same a b c.args.calls.now.new.now i.so_far.kept c.requires.new j) ∷ [] else []) c.in_ok-put_if_live.ensures in
    record {
      number = omega (arith, i.number);
      so_far = adding_more a c.args.facts.now b c.loop-candidate.facts d c.put_if_live.new.facts (if is_live table number then implication (record { pair = pair; candidate = x }) old new ∷ [] else []) (calls_related table number (claimed pair (drop index all)) old new) (calls_related table (number + 1) (claimed pair (drop (index + 1) all)) old new) (calls_related table c.args.first (claimed pair all) old new) i.so_far added
          (live_split table number (number + 1) pair all index x old new c.requires.old_callee c.requires.new_callee c.loop-candidate-test.true c.candidate-item.is refl);
    }
