use Rattle.std.proofs.Common.{rules, ◌≡◌, ◌≤◌, ◌^◌, true, sym, unsigned_abs, nat_le, FitsSigned, subst, ℤ, Some}
use Rattle.std.specs.Int.{w128}
use Rattle.std.proofs.lemmas.Int.{to_z-of_z}
use Rattle.sd_rows.specs.Rows.{are_small}
use Rattle.sd_linear.specs.Elimination.{fits, left_of, value_of}
use Rattle.sd_rows.proofs.Cuts.{and-left}
use Rattle.sd_linear.proofs.Combining.{small-factor}
use Rattle.sd_linear.proofs.Values.{left_of-fits, bound-fits}
use Rattle.sd_linear.proofs.value.narrowed.Goals as goal

pub limited-requires-clause-small : goal.limited-requires-clause-small
limited-requires-clause-small c =
    let w : are_small c.args.row.now.parts ≡ true = and-left (are_small c.args.row.now.parts) (nat_le (unsigned_abs c.args.row.now.bound) (2 ^ 66)) c.requires.within in
    let f : FitsSigned w128 c.factor_of-factor.result = search rules in
    let s : unsigned_abs c.factor_of-factor.result ≤ 2 ^ 58 = subst (λ (z : ℤ). unsigned_abs z ≤ 2 ^ 58) (sym c.factor_of-factor.ensures) (small-factor c.args.column c.args.row.now.parts w) in
    simp to_z-of_z s

pub limited-requires-clause-fits : goal.limited-requires-clause-fits
limited-requires-clause-fits c =
    let e : left_of c.args.column (value_of c.args.columns.now c.args.values.now) c.args.row.now.bound c.args.row.now.parts ≡ Some c.in_ok-left.left = search rules in
    let f : FitsSigned w128 c.in_ok-left.left = search rules in
    let g : fits c.in_ok-left.left ≡ true =
    left_of-fits c.args.column (value_of c.args.columns.now c.args.values.now) c.args.row.now.bound c.in_ok-left.left c.args.row.now.parts (bound-fits c.args.row.now c.requires.within) e in
    simp to_z-of_z g
