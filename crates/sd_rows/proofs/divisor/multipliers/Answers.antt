use Rattle.std.proofs.Common.{◌/◌, ap, ℕ}
use Rattle.sd_rows.proofs.Greatest.{gcd-positive, gcd-greatest, quotient-positive}
use Rattle.sd_rows.proofs.divisor.multipliers.Goals as goal

pub nonzero_div-result : goal.nonzero_div-result
nonzero_div-result c = gcd-positive c.args.p c.args.q c.gcd-divisor.result c.requires.first c.gcd-divisor.ensures

pub nonzero_div-result-2 : goal.nonzero_div-result-2
nonzero_div-result-2 c = gcd-positive c.args.p c.args.q c.gcd-divisor.result c.requires.first c.gcd-divisor.ensures

pub returns-clause-first : goal.returns-clause-first
returns-clause-first c = ap (λ (d : ℕ). c.args.q / d) (gcd-greatest c.args.p c.args.q c.gcd-divisor.result c.requires.first c.gcd-divisor.ensures)

pub returns-clause-second : goal.returns-clause-second
returns-clause-second c = ap (λ (d : ℕ). c.args.p / d) (gcd-greatest c.args.p c.args.q c.gcd-divisor.result c.requires.first c.gcd-divisor.ensures)

pub returns-clause-first_positive : goal.returns-clause-first_positive
returns-clause-first_positive c =
    quotient-positive c.args.q c.gcd-divisor.result c.requires.second (gcd-positive c.args.p c.args.q c.gcd-divisor.result c.requires.first c.gcd-divisor.ensures) c.gcd-divisor.ensures.1

pub returns-clause-second_positive : goal.returns-clause-second_positive
returns-clause-second_positive c =
    quotient-positive c.args.p c.gcd-divisor.result c.requires.first (gcd-positive c.args.p c.args.q c.gcd-divisor.result c.requires.first c.gcd-divisor.ensures) c.gcd-divisor.ensures.0
