use Rattle.std.proofs.Common.{rules}
use Rattle.sd_rows.specs.RowOps.{sum_of, times}
use Rattle.sd_rows.proofs.Merging.{merges-first, merges-second, merges-both, merges-none, above-second, above-none}
use Rattle.sd_rows.proofs.row.added_parts.Goals as goal
use Rattle.sd_rows.proofs.row.added_parts.Goals.{in_default-split_first-via-in-Some-split_first+else-q-p, in_default-split_first-via-in_default-split_first}

pub loop-p-preserved-in_ok-push-in-Some-split_first : goal.loop-p-preserved-in_ok-push-in-Some-split_first
loop-p-preserved-in_ok-push-in-Some-split_first c =
    merges-second c.args.m c.args.n c.loop-p.parts c.push.new.self c.loop-p.left.now c.loop-p.right.now (sum_of (times c.args.m c.args.a.now) (times c.args.n c.args.b.now))
    c.in-Some.p.now c.in-Some-split_first.q.now c.in-Some.left_rest.now c.in-Some-split_first.right_rest.now
    (search rules) (search rules) c.if-q-p-2.true (search rules) c.loop-p.invariant

pub loop-p-preserved-in_ok-push-in-Some-split_first-2 : goal.loop-p-preserved-in_ok-push-in-Some-split_first-2
loop-p-preserved-in_ok-push-in-Some-split_first-2 c =
    merges-both c.args.m c.args.n c.loop-p.parts c.loop-p.left.now c.loop-p.right.now (sum_of (times c.args.m c.args.a.now) (times c.args.n c.args.b.now))
    c.in-Some.p.now c.in-Some-split_first.q.now c.in-Some.left_rest.now c.in-Some-split_first.right_rest.now
    (search rules) (search rules) c.if-q-p.true c.if-q-p-2.false (search rules) c.push-then-factor-ne0.new.self (search rules) c.loop-p.invariant

pub loop-p-preserved-else-factor-ne0 : goal.loop-p-preserved-else-factor-ne0
loop-p-preserved-else-factor-ne0 c =
    merges-none c.args.m c.args.n c.loop-p.parts c.loop-p.left.now c.loop-p.right.now (sum_of (times c.args.m c.args.a.now) (times c.args.n c.args.b.now))
    c.in-Some.p.now c.in-Some-split_first.q.now c.in-Some.left_rest.now c.in-Some-split_first.right_rest.now
    (search rules) (search rules) c.if-q-p.true c.if-q-p-2.false (search rules) c.loop-p.invariant

pub loop-p-preserved : goal.loop-p-preserved
loop-p-preserved c =
    merges-first c.args.m c.args.n c.loop-p.parts c.push-in_default-split_first.new.self c.loop-p.left.now c.loop-p.right.now (sum_of (times c.args.m c.args.a.now) (times c.args.n c.args.b.now))
    c.in-Some.p.now c.in-Some.left_rest.now
    (search rules)
    (elim c.in_default-split_first.branch [
      | in_default-split_first-via-in-Some-split_first+else-q-p w ↦
          above-second c.in-Some.p.now.0 c.loop-p.right.now w.in-Some-split_first.q.now w.in-Some-split_first.right_rest.now (search rules) c.loop-p.invariant.second w.if-q-p.false
      | in_default-split_first-via-in_default-split_first w ↦ above-none c.in-Some.p.now.0 c.loop-p.right.now (search rules)
    ])
    (search rules) c.loop-p.invariant
