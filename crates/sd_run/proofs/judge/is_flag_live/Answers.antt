use Rattle.std.proofs.Common.{◌∙◌, ◌<◌, length, arith, sym}
use Rattle.sd_run.proofs.Tables.{flag_here, flag_dead, flag_other, drop_shorter}
use Rattle.sd_run.proofs.judge.is_flag_live.Goals as goal
use Rattle.sd_run.proofs.judge.is_flag_live.Goals.{else-is_flag-via-then-is_flag+else-get, else-is_flag-via-else-is_flag}

pub returns-then-get : goal.returns-then-get
returns-then-get c =
    let l = c.loop-candidate in
    let h : l.candidate-index < length c.args.candidates.now = omega arith in
    let shorter = drop_shorter c.args.candidates.now l.candidate-index h in
    let w : l.number < length c.args.table.now = omega (arith, shorter, l.invariant.within) in
    sym (l.invariant.left ∙ flag_here c.args.candidates.now c.args.table.now l.candidate-index l.number c.candidate-item.result c.get.result h w c.candidate-item.is c.get.ensures (sym c.is_flag.ensures ∙ c.if-is_flag.true) c.if-get.true)

pub loop-candidate-preserved : goal.loop-candidate-preserved
loop-candidate-preserved c =
    let l = c.loop-candidate in
    let h : l.candidate-index < length c.args.candidates.now = omega arith in
    let shorter = drop_shorter c.args.candidates.now l.candidate-index h in
    let w : l.number < length c.args.table.now = omega (arith, shorter, l.invariant.within) in
    record {
      within = omega (arith, shorter, l.invariant.within);
      left = l.invariant.left ∙ elim c.else-is_flag.branch [
        | else-is_flag-via-then-is_flag+else-get g ↦ flag_dead c.args.candidates.now c.args.table.now l.candidate-index l.number c.candidate-item.result g.get.result h w c.candidate-item.is g.get.ensures g.if-get.false
        | else-is_flag-via-else-is_flag g ↦ flag_other c.args.candidates.now c.args.table.now l.candidate-index l.number c.candidate-item.result h w c.candidate-item.is (sym c.is_flag.ensures ∙ g.if-is_flag.false)
      ];
    }
