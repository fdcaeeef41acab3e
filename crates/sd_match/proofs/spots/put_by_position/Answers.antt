use Rattle.std.proofs.Common.{◌≡◌, ◌∙◌, sym, ap, ◌+◌, ◌++◌, drop, arith}
use Rattle.sd_base.specs.declared.Var.{Var}
use Rattle.sd_core.specs.declared.Spot.TheVariants.{Slot}
use Rattle.sd_match.specs.Pairs.{by_position}
use Rattle.sd_match.proofs.ListLemmas.{push-step, whole-end}
use Rattle.sd_match.proofs.SpotLemmas.{by_position-step, by_position-end}
use Rattle.sd_match.proofs.spots.put_by_position.Goals as goal

pub vars-preserved : goal.vars-preserved
vars-preserved c =
    let i = c.args.i in
    let j = c.args.j in
    let n = c.vars.place in
    let olds = c.args.olds.now in
    let news = c.args.news.now in
    let x = c.index-olds-place.result in
    let a : c.in_ok-slot_at.field-0 ≡ Slot (i + n) = c.in_ok-slot_at.ensures in
    let b : c.in_ok-slot_at-2.field-0 ≡ Slot (j + n) = c.in_ok-slot_at-2.ensures in
    let d : c.in_ok-clone_of.field-0 ≡ x.sort = c.in_ok-clone_of.ensures ∙ ap (λ (y : Var). y.sort) (sym c.index-olds-place.is) in
    push-step c.vars.pairs c.push.new.self (record { old = Slot (i + n); new = Slot (j + n); sort = x.sort }) (record { old = c.in_ok-slot_at.field-0; new = c.in_ok-slot_at-2.field-0; sort = c.in_ok-clone_of.field-0 })
    (by_position (i + (n + 1)) (j + (n + 1)) (drop (n + 1) olds) (drop (n + 1) news)) (by_position (i + n) (j + n) (drop n olds) (drop n news)) (c.args.pairs.now ++ by_position i j olds news)
    c.in_ok-push.ensures.ok (λ k. record { old = a k; new = b k; sort = d k }) (by_position-step i j n olds news x (omega arith) (omega arith) c.index-olds-place.is) c.vars.invariant

pub returns : goal.returns
returns c =
    let n = c.vars.place in
    whole-end c.vars.pairs (by_position (c.args.i + n) (c.args.j + n) (drop n c.args.olds.now) (drop n c.args.news.now)) (c.args.pairs.now ++ by_position c.args.i c.args.j c.args.olds.now c.args.news.now)
    (by_position-end (c.args.i + n) (c.args.j + n) n c.args.olds.now c.args.news.now (omega arith)) c.vars.invariant
