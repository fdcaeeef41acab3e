use Rattle.std.proofs.Common.{rules, arith, ◌≡◌, ◌<◌, ◌++◌, ◌∷◌, [], true, false, length}
use Rattle.sd_linear.specs.Pruning.{is_marked, step_at, renumbered}
use Rattle.sd_linear.proofs.Copying.{copies-mark, copies-skip, copies-done}
use Rattle.sd_linear.proofs.refutation.copied.Goals as goal
use Rattle.sd_linear.proofs.refutation.copied.Goals.{then-marks-i+in_ok-push, else-marks-i}

pub loop-i-preserved : goal.loop-i-preserved
loop-i-preserved c =
    let h : c.loop-i.i < length c.args.steps.now = search rules in
    elim c.if-marks-i.branch [
      | then-marks-i+in_ok-push w ↦
          let e : is_marked c.args.marks.now c.loop-i.i ≡ true = search rules in
          let f : c.push-in-loop-i.new.self.items ≡ c.loop-i.numbers.items ++ length c.loop-i.kept ∷ [] = search rules in
          let g : c.if-marks-i.kept ≡ c.loop-i.kept ++ renumbered c.loop-i.numbers.items (step_at c.args.steps.now c.loop-i.i) ∷ [] = search rules in
          copies-mark c.args.steps.now c.args.marks.now c.loop-i.i c.loop-i.numbers.items c.push-in-loop-i.new.self.items c.loop-i.kept c.if-marks-i.kept h c.requires.earlier c.requires.marks e f g c.loop-i.invariant
      | else-marks-i w ↦
          let e : is_marked c.args.marks.now c.loop-i.i ≡ false = search rules in
          let f : c.push-in-loop-i.new.self.items ≡ c.loop-i.numbers.items ++ length c.loop-i.kept ∷ [] = search rules in
          rw w.kept-is (copies-skip c.args.steps.now c.args.marks.now c.loop-i.i c.loop-i.numbers.items c.push-in-loop-i.new.self.items c.loop-i.kept h c.requires.earlier e f c.loop-i.invariant)
    ]

pub returns : goal.returns
returns c =
    let x : c.loop-i.i ≡ length c.args.steps.now = omega arith in
    copies-done c.args.steps.now c.args.marks.now c.loop-i.numbers.items c.loop-i.kept c.loop-i.i x c.requires.marks c.loop-i.invariant
