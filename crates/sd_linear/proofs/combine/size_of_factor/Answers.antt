use Rattle.std.proofs.Common.{rules, arith, ◌≡◌, ◌≤◌, ◌^◌, true, unsigned_abs, nat_le}
use Rattle.sd_rows.specs.Rows.{are_small}
use Rattle.sd_linear.specs.Elimination.{factor_of}
use Rattle.sd_rows.proofs.Cuts.{and-left}
use Rattle.sd_linear.proofs.Combining.{small-factor}
use Rattle.sd_linear.proofs.combine.size_of_factor.Goals as goal

pub overflow_cast-result : goal.overflow_cast-result
overflow_cast-result c =
    let w : are_small c.args.row.now.parts ≡ true = and-left (are_small c.args.row.now.parts) (nat_le (unsigned_abs c.args.row.now.bound) (2 ^ 66)) c.requires.within in
    let s : unsigned_abs (factor_of c.args.column c.args.row.now.parts) ≤ 2 ^ 58 = small-factor c.args.column c.args.row.now.parts w in
    let e : c.unsigned_abs.result ≡ unsigned_abs (factor_of c.args.column c.args.row.now.parts) = search rules in
    let b : c.unsigned_abs.result ≤ 2 ^ 58 = omega arith in
    search rules

pub returns-clause-small : goal.returns-clause-small
returns-clause-small c =
    let w : are_small c.args.row.now.parts ≡ true = and-left (are_small c.args.row.now.parts) (nat_le (unsigned_abs c.args.row.now.bound) (2 ^ 66)) c.requires.within in
    let s : unsigned_abs (factor_of c.args.column c.args.row.now.parts) ≤ 2 ^ 58 = small-factor c.args.column c.args.row.now.parts w in
    let e : c.unsigned_abs.result ≡ unsigned_abs (factor_of c.args.column c.args.row.now.parts) = search rules in
    omega arith
