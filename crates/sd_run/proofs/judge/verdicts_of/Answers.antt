use Rattle.std.proofs.Common.{◌≡◌, ◌∙◌, ap, sym, length, drop, arith, List, ◌++◌}
use Rattle.std.specs.Prelude.{Some, slice_get}
use Rattle.sd_match.specs.declared.pair.Pair.{Pair}
use Rattle.sd_product.specs.Work.{pairs_in}
use Rattle.sd_run.specs.Verdicts.{flag_live, verdict_of}
use Rattle.sd_run.proofs.Tables.{count_at, candidates_at, pair_step, verdicts_more}
use Rattle.sd_run.proofs.judge.verdicts_of.Goals as goal

pub is_flag_live-live-requires : goal.is_flag_live-live-requires
is_flag_live-live-requires c =
    let count = count_at c.args.work.now (pairs_in c.args.work.now) c.pairs.place c.candidates_of-candidates.result.now c.candidates_of-candidates.ensures in
    omega (arith, count, c.pairs.invariant.left)

pub prove-unreachable-requires : goal.prove-unreachable-requires
prove-unreachable-requires c =
    let count = count_at c.args.work.now (pairs_in c.args.work.now) c.pairs.place c.candidates_of-candidates.result.now c.candidates_of-candidates.ensures in
    omega (arith, count, c.pairs.invariant.left, c.count-end.ensures, c.if-prove.true)

pub pairs-preserved : goal.pairs-preserved
pairs-preserved c =
    let pairs = pairs_in c.args.work.now in
    let cs = c.candidates_of-candidates.result.now in
    let count = count_at c.args.work.now pairs c.pairs.place cs c.candidates_of-candidates.ensures in
    let at : slice_get pairs c.pairs.place ≡ Some c.pair-pair.result.now = ap (λ (ps : List Pair). slice_get ps c.pairs.place) (sym c.pairs-pairs.ensures) ∙ c.pair-pair.ensures in
    let same = candidates_at c.args.work.now pairs c.pairs.place c.pair-pair.result.now cs at c.candidates_of-candidates.ensures in
    let step = pair_step c.args.otherwise c.args.work.now pairs c.args.table.now c.pairs.place c.pair-pair.result.now c.pairs.first (length cs) at (ap length same) in
    record {
      left = omega (arith, count, c.pairs.invariant.left);
      done = verdicts_more c.args.otherwise c.args.work.now pairs c.args.table.now c.pairs.place c.pairs.first (length cs) c.pair-pair.result.now c.pairs.verdicts.items c.put_verdict.new.verdicts.items step c.pairs.invariant.done
          (c.in_ok-put_verdict.ensures ∙ ap (λ b. c.pairs.verdicts.items ++ verdict_of c.args.otherwise c.args.work.now c.pair-pair.result.now b) (c.is_flag_live-live.ensures ∙ ap (λ d. flag_live d (drop c.pairs.first c.args.table.now)) same));
    }
