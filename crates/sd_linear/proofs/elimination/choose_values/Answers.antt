use Rattle.std.proofs.Common.{rules, arith, ◌≡◌, ◌∙◌, ◌-◌, ◌+◌, ◌<◌, ◌∷◌, ap, sym, subst, length, drop, set, length-set, ℕ, List, ℤ}
use Rattle.sd_rows.specs.declared.row.Row.{Row}
use Rattle.sd_linear.specs.declared.list.DerivedRow.{DerivedRow}
use Rattle.sd_linear.specs.Values.{AllNear}
use Rattle.sd_linear.specs.Elimination.{solved, point}
use Rattle.sd_linear.specs.DerivedRows.{rows_of, rows_at, list_at}
use Rattle.sd_linear.specs.Answers.{answer_of, Fails}
use Rattle.sd_linear.specs.declared.elimination.Stop.TheVariants.{Ends}
use Rattle.sd_linear.proofs.Solving.{choice, solved-choice, fails-value, drop-put}
use Rattle.sd_linear.proofs.elimination.choose_values.Goals as goal

pub loop-i-preserved : goal.loop-i-preserved
loop-i-preserved c =
    let i : ℕ = c.loop-i.i - 1 in
    let m : c.loop-i.i ≡ i + 1 = omega arith in
    let h : i < length c.args.columns.now = omega arith in
    let j : i < length c.loop-i.values = omega arith in
    let ks : List ℕ = c.after-later_columns.result.now in
    let vs : List ℤ = c.after-later_values.result.now in
    let hs : List DerivedRow = c.list_at.result.now in
    let e : ks ≡ drop c.loop-i.i c.args.columns.now = c.after-later_columns.ensures ∙ ap (λ (j : ℕ). drop j c.args.columns.now) (sym m) in
    let f : vs ≡ drop c.loop-i.i c.loop-i.values =
    c.after-later_values.ensures ∙ ap (λ (j : ℕ). drop j c.as_slice.result.now) (sym m) ∙ ap (λ (l : List ℤ). drop c.loop-i.i l) c.as_slice.ensures in
    let g : hs ≡ list_at c.args.lists.now i = c.list_at.ensures in
    let a : choice c.args.columns.now ks vs (rows_of hs) i ≡ point (c.in-Ok.value ∷ vs) = c.in-Ok.ensures.chosen in
    let p : c.set.new.self ≡ set c.loop-i.values i c.in-Ok.value = search rules in
    let d : drop i c.set.new.self ≡ c.in-Ok.value ∷ drop c.loop-i.i c.loop-i.values = drop-put c.loop-i.values c.set.new.self i c.loop-i.i c.in-Ok.value m j p in
    record {
      count = ap (λ (l : List ℤ). length l) p ∙ length-set c.loop-i.values i c.in-Ok.value ∙ c.loop-i.invariant.count;
      point = λ all q.
          solved-choice c.args.columns.now all c.args.lists.now i c.loop-i.i c.loop-i.values ks vs hs m q h (c.loop-i.invariant.point all q) e f g
          ∙ a
          ∙ ap (λ (l : List ℤ). point (c.in-Ok.value ∷ l)) f
          ∙ ap (λ (l : List ℤ). point l) (sym d);
      near = subst AllNear (sym d) (c.in-Ok.ensures.near, c.loop-i.invariant.near);
    }

pub returns-in-Err-clause-fails : goal.returns-in-Err-clause-fails
returns-in-Err-clause-fails c = λ first q.
    let i : ℕ = c.loop-i.i - 1 in
    let m : c.loop-i.i ≡ i + 1 = omega arith in
    let h : i < length c.args.columns.now = omega arith in
    let ks : List ℕ = c.after-later_columns.result.now in
    let vs : List ℤ = c.after-later_values.result.now in
    let hs : List DerivedRow = c.list_at.result.now in
    let e : ks ≡ drop c.loop-i.i c.args.columns.now = c.after-later_columns.ensures ∙ ap (λ (j : ℕ). drop j c.args.columns.now) (sym m) in
    let f : vs ≡ drop c.loop-i.i c.loop-i.values =
    c.after-later_values.ensures ∙ ap (λ (j : ℕ). drop j c.as_slice.result.now) (sym m) ∙ ap (λ (l : List ℤ). drop c.loop-i.i l) c.as_slice.ensures in
    let g : hs ≡ list_at c.args.lists.now i = c.list_at.ensures in
    let a : answer_of c.in-Err.answer ≡ choice c.args.columns.now ks vs (rows_of hs) i = c.in-Err.ensures.ends in
    let s : solved (drop i c.args.columns.now) (rows_at q.all i) ≡ choice c.args.columns.now ks vs (rows_of hs) i =
    solved-choice c.args.columns.now q.all c.args.lists.now i c.loop-i.i c.loop-i.values ks vs hs m q.descends h (c.loop-i.invariant.point q.all q.descends) e f g in
    let r : Fails c.args.inputs.now (Ends c.in-Err.answer) (solved c.args.columns.now (rows_at q.all 0)) =
    fails-value c.args.inputs.now c.args.columns.now q.all c.args.lists.now i c.in-Err.answer q.descends h (s ∙ sym a) (c.in-Err.ensures.justified c.args.inputs.now) c.in-Err.ensures.no_point in
    subst (λ (rs : List Row). Fails c.args.inputs.now (Ends c.in-Err.answer) (solved c.args.columns.now rs)) q.starts r
