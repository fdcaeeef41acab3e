use Rattle.std.proofs.Common.{rules, ◌≤◌, ◌^◌, sym, ap, unsigned_abs, ◌*ℤ◌, ℤ, FitsSigned, subst, lit<}
use Rattle.std.specs.Int.{w128}
use Rattle.std.proofs.lemmas.Int.{fits_signed_mul, to_z-of_z}
use Rattle.sd_linear.proofs.Values.{near-value}
use Rattle.sd_linear.proofs.value.product.Goals as goal

pub overflow_mul-result : goal.overflow_mul-result
overflow_mul-result c =
    let b : unsigned_abs c.value_of.result ≤ 2 ^ 56 = subst (λ (z : ℤ). unsigned_abs z ≤ 2 ^ 56) (sym c.value_of.ensures) (near-value c.args.columns.now c.args.values.now c.args.column c.requires.values) in
    let u : FitsSigned w128 c.args.factor = search rules in
    let v : FitsSigned w128 c.value_of.result = search rules in
    let f : FitsSigned w128 (c.args.factor *ℤ c.value_of.result) = fits_signed_mul w128 c.args.factor c.value_of.result (2 ^ 58) (2 ^ 56) (search rules) b (lit< tt) in
    simp to_z-of_z f

pub returns : goal.returns
returns c =
    let b : unsigned_abs c.value_of.result ≤ 2 ^ 56 = subst (λ (z : ℤ). unsigned_abs z ≤ 2 ^ 56) (sym c.value_of.ensures) (near-value c.args.columns.now c.args.values.now c.args.column c.requires.values) in
    let u : FitsSigned w128 c.args.factor = search rules in
    let v : FitsSigned w128 c.value_of.result = search rules in
    let f : FitsSigned w128 (c.args.factor *ℤ c.value_of.result) = fits_signed_mul w128 c.args.factor c.value_of.result (2 ^ 58) (2 ^ 56) (search rules) b (lit< tt) in
    simp to_z-of_z (ap (λ (z : ℤ). c.args.factor *ℤ z) c.value_of.ensures)
