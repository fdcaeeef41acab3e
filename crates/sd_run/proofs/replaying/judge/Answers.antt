use Rattle.std.proofs.Common.{inl, inr, refl}
use Rattle.std.specs.Prelude.{None}
use Rattle.sd_run.specs.Replies.{texts_of, outcome_with}
use Rattle.sd_run.proofs.Certified.{replay-of, refused-of, ok-map}
use Rattle.sd_run.proofs.replaying.judge.Goals as goal

pub returns-in-Err : goal.returns-in-Err
returns-in-Err c =
    let m = c.args.matched.now in
    ok-map c.refuse.result c.refuse.ensures
    (λ reply said. inr (c.in-Err.fault, refused-of (texts_of m.old m.new) m.work c.args.bytes.now c.in-Err.fault c.digests.result c.requires.is_work c.digests.ensures c.in-Err.ensures.refused c.in-Err.ensures.refused_only said.0, said.1))

pub returns : goal.returns
returns c =
    let m = c.args.matched.now in
    inl
    (replay-of (texts_of m.old m.new) m.work c.args.bytes.now (outcome_with c.in_ok-report.report c.new.result.items None) c.digests.result c.in-Ok.replayed.table
    c.requires.is_work c.digests.ensures c.in-Ok.ensures.accepted (c.in_ok-report.ensures _ _) c.new.ensures.items refl)
