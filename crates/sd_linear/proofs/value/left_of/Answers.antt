use Rattle.std.proofs.Common.{rules, ◌≡◌, true, ◌∙◌, sym, ap, pos, drop, get_or, unsigned_abs, ◌≤◌, ◌^◌, nat_le, FitsSigned, ◌-ℤ◌, ◌*ℤ◌, Some, None, ℤ, ℕ, ◌+◌, to_z}
use Rattle.std.specs.Prelude.{if◌then◌else◌}
use Rattle.std.specs.Int.{w128}
use Rattle.std.proofs.lemmas.Int.{to_z-of_z}
use Rattle.sd_rows.specs.Rows.{are_small, Parts}
use Rattle.sd_linear.specs.Elimination.{value_of, left_of, fits}
use Rattle.sd_rows.proofs.Cuts.{and-left}
use Rattle.sd_linear.proofs.Values.{small-at, left_of-skip, left_of-some, left_of-none}
use Rattle.sd_linear.proofs.value.left_of.Goals as goal
use Rattle.sd_linear.proofs.value.left_of.Goals.{then-p-column+in_ok-left, else-p-column}

pub loop-p-preserved : goal.loop-p-preserved
loop-p-preserved c =
    let k = c.args.column in
    let x : ℕ → ℤ = value_of c.args.columns.now c.args.values.now in
    let ps : Parts = c.as_slice-p-items.result.now in
    let i = c.loop-p.p-index in
    let inv : left_of k x c.args.row.now.bound c.args.row.now.parts ≡ left_of k x c.loop-p.left (drop i ps) = search rules in
    elim c.if-p-column.branch [
      | then-p-column+in_ok-left w ↦
          let d : Some w.in_ok-left.left ≡ (let t = c.loop-p.left -ℤ (get_or ps i (0, pos 0)).1 *ℤ x (get_or ps i (0, pos 0)).0 in if fits t then Some t else None) = search rules in
          let n : left_of k x c.loop-p.left (drop i ps) ≡ left_of k x w.in_ok-left.left (drop (i + 1) ps) =
          left_of-some k x c.loop-p.left w.in_ok-left.left ps i (0, pos 0) c.loop-p-test.true w.if-p-column.true d in
          let f : FitsSigned w128 w.in_ok-left.left = search rules in
          let e : to_z w128 c.if-p-column.left-bits ≡ w.in_ok-left.left = w.left-is ∙ to_z-of_z w128 w.in_ok-left.left f in
          inv ∙ n ∙ ap (λ (z : ℤ). left_of k x z (drop (i + 1) ps)) (sym e)
      | else-p-column w ↦
          let s : left_of k x c.loop-p.left (drop i ps) ≡ left_of k x c.loop-p.left (drop (i + 1) ps) = left_of-skip k x c.loop-p.left ps i (0, pos 0) c.loop-p-test.true (search rules) in
          let e : to_z w128 c.if-p-column.left-bits ≡ c.loop-p.left = w.left-is ∙ c.loop-p.left-is in
          inv ∙ s ∙ ap (λ (z : ℤ). left_of k x z (drop (i + 1) ps)) (sym e)
    ]

pub returns-in_err-left : goal.returns-in_err-left
returns-in_err-left c =
    let k = c.args.column in
    let x : ℕ → ℤ = value_of c.args.columns.now c.args.values.now in
    let ps : Parts = c.as_slice-p-items.result.now in
    let i = c.loop-p.p-index in
    let inv : left_of k x c.args.row.now.bound c.args.row.now.parts ≡ left_of k x c.loop-p.left (drop i ps) = search rules in
    let d : None ≡ (let t = c.loop-p.left -ℤ (get_or ps i (0, pos 0)).1 *ℤ x (get_or ps i (0, pos 0)).0 in if fits t then Some t else None) = search rules in
    let n : left_of k x c.loop-p.left (drop i ps) ≡ None = left_of-none k x c.loop-p.left ps i (0, pos 0) c.loop-p-test.true c.if-p-column.true d in
    c.from_residual.ensures ∙ sym (inv ∙ n)

pub product-requires-clause-factor : goal.product-requires-clause-factor
product-requires-clause-factor c =
    let ps : Parts = c.as_slice-p-items.result.now in
    let i = c.loop-p.p-index in
    let w : are_small c.args.row.now.parts ≡ true = and-left (are_small c.args.row.now.parts) (nat_le (unsigned_abs c.args.row.now.bound) (2 ^ 66)) c.requires.within in
    let v : are_small ps ≡ true = ap are_small c.as_slice-p-items.ensures ∙ w in
    let s : unsigned_abs (get_or ps i (0, pos 0)).1 ≤ 2 ^ 58 = small-at ps i (0, pos 0) c.loop-p-test.true v in
    let f : FitsSigned w128 (get_or ps i (0, pos 0)).1 = search rules in
    simp to_z-of_z s
