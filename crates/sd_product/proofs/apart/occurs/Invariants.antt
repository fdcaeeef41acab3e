use Rattle.std.proofs.Common.{◌≡◌, drop}
use Rattle.sd_product.specs.Query.{any_constant}
use Rattle.sd_product.proofs.apart.occurs.Given as goal

abbrev pub invariant-loop-i : goal.invariant-loop-i
invariant-loop-i l = any_constant l.constant (drop l.i l.terms) ≡ any_constant l.constant l.terms
