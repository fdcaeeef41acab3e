use Rattle.std.proofs.Common.{rules, arith, ◌≡◌, sym, subst}
use Rattle.sd_rows.specs.declared.row.Row.{Row}
use Rattle.sd_rows.specs.Rows.{IsProper}
use Rattle.sd_rows.specs.RowOps.{added}
use Rattle.sd_linear.proofs.Combining.{IsProper-added}
use Rattle.sd_linear.proofs.combine.combine.Goals as goal

pub comes_in-requires-clause-proper : goal.comes_in-requires-clause-proper
comes_in-requires-clause-proper c =
    let e : c.in_ok-row.row ≡ added c.multipliers-m.result.0 c.args.r.now.row c.multipliers-m.result.1 c.args.s.now.row = search rules in
    subst (λ (r : Row). IsProper r.parts) (sym e)
    (IsProper-added c.multipliers-m.result.0 c.multipliers-m.result.1 c.args.r.now.row c.args.s.now.row (omega (arith, c.multipliers-m.ensures.first_positive)) (omega (arith, c.multipliers-m.ensures.second_positive))
    c.requires.first.proper c.requires.second.proper)
