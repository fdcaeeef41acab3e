use Rattle.std.proofs.Common.{rules, ◌≡◌, ◌∙◌, ◌<◌, sym, subst, pos, drop, get_or}
use Rattle.sd_rows.specs.Rows.{Parts, IsAscending}
use Rattle.sd_linear.specs.Elimination.{factor_of}
use Rattle.sd_linear.proofs.Combining.{factor_of-none}
use Rattle.sd_linear.proofs.combine.factor_of.Goals as goal

pub returns-then-p-column-2 : goal.returns-then-p-column-2
returns-then-p-column-2 c =
    let k = c.args.column in
    let ps : Parts = c.as_slice-p-items.result.now in
    let i = c.loop-p.p-index in
    let inv : factor_of k c.args.row.now.parts ≡ factor_of k (drop i ps) = search rules in
    let a : IsAscending ps = subst IsAscending (sym c.as_slice-p-items.ensures) c.requires.ascending in
    let l : k < (get_or ps i (0, pos 0)).0 = c.if-p-column-2.true in
    sym (inv ∙ factor_of-none k ps i (0, pos 0) c.loop-p-test.true a l)
