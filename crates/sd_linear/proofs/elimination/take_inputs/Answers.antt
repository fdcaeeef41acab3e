use Rattle.std.proofs.Common.{rules, ◌≡◌, sym, subst}
use Rattle.sd_rows.specs.declared.row.Row.{Row}
use Rattle.sd_rows.specs.Rows.{IsProper}
use Rattle.sd_linear.proofs.Inputs.{computable-item}
use Rattle.sd_linear.proofs.elimination.take_inputs.Goals as goal

pub comes_in-requires-clause-proper : goal.comes_in-requires-clause-proper
comes_in-requires-clause-proper c =
    let e : c.in_ok-row.row ≡ c.index-inputs-i.result = search rules in
    subst (λ (r : Row). IsProper r.parts) (sym e)
    (computable-item c.args.inputs.now c.loop-i.i c.index-inputs-i.result (search rules) c.index-inputs-i.is c.requires.computable).0
