use Rattle.std.proofs.Common.{◌≡◌, ◌∙◌, ap, drop, length, ◌+◌, ◌<◌, subst}
use Rattle.std.specs.Prelude.{map}
use Rattle.sd_core.specs.declared.Spot.{Spot}
use Rattle.sd_core.specs.declared.Spot.TheVariants.{Slot}
use Rattle.sd_core.specs.Store.{read}
use Rattle.sd_core.specs.Run.{slots_from}
use Rattle.sd_term.specs.Tree.{Tree}
use Rattle.sd_vcgen.specs.Body.{nothing}
use Rattle.sd_vcgen.specs.Numbers.{store_of}
use Rattle.sd_vcgen.proofs.Numbers.{extends_then, spots_later, store_later}
use Rattle.sd_vcgen.proofs.Loops.{slots_split, more_within, more_trees}
use Rattle.sd_vcgen.proofs.body.put_outs.Goals as goal

pub loop-i-preserved : goal.loop-i-preserved
loop-i-preserved c =
    let a = c.loop-i.bank in
    let b = c.put_slot.new.bank in
    let n = c.args.spots.now in
    let i = c.loop-i.invariant in
    let kept = c.in_ok-term.ensures.kept in
    let outs = c.args.procedure.now.outs in
    let k = length c.args.procedure.now.ins in
    let st = store_of c.args.bank.now n in
    let f : Spot → Tree = read nothing st in
    let first : length c.as_slice-first.result.now ≡ k = ap (λ l. length l) c.as_slice-first.ensures in
    let below : c.loop-i.i < length outs = subst (λ l. c.loop-i.i < length l) c.as_slice-outs.ensures c.loop-i-test.true in
    record {
      terms = more_within a b c.loop-i.terms c.push.new.self c.in_ok-term.term i.terms.within kept c.in_ok-push.ensures.ok c.in_ok-term.ensures.term.within;
      spots = spots_later a b n kept i.spots;
      so_far = more_trees a b c.loop-i.terms c.push.new.self c.in_ok-term.term (f (Slot (k + c.loop-i.i))) (map f (slots_from (k + (c.loop-i.i + 1)) (drop (c.loop-i.i + 1) outs))) _ _ i.terms.within kept c.in_ok-push.ensures.ok
          (c.in_ok-term.ensures.term.tree ∙ (λ j. read nothing (store_later c.args.bank.now a n i.kept c.requires j) (Slot (first j + c.loop-i.i))))
          (ap (map f) (slots_split k c.loop-i.i outs below))
          i.so_far;
      kept = extends_then c.args.bank.now a b i.kept kept;
    }
