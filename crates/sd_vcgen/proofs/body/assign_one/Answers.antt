use Rattle.std.proofs.Common.{◌∙◌}
use Rattle.sd_term.specs.Build.{ite_of}
use Rattle.sd_vcgen.proofs.Numbers.{extends_then, held_store}
use Rattle.sd_vcgen.proofs.body.assign_one.Goals as goal

pub returns-clause-spots : goal.returns-clause-spots
returns-clause-spots c =
    let a = c.args.bank.now in
    let b = c.put_spot.new.bank in
    let d = c.ite.new.self in
    let old = c.in_ok-old.ensures in
    let chosen = c.in_ok-chosen.ensures in
    held_store a d c.args.spots.now c.hold.new.spots c.args.target c.in_ok-chosen.chosen _ c.requires.spots (extends_then a b d old.kept chosen.kept) c.hold.ensures
    (chosen.tree ∙ (λ i. ite_of (old.kept.kept c.args.guard c.requires.guard i) (old.kept.kept c.args.new c.requires.new i) (old.term.tree i)))
