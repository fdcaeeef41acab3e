use Rattle.std.proofs.Common.{[], drop}
use Rattle.sd_product.specs.Unique.{present}
use Rattle.sd_product.proofs.Numbers.{Adding}
use Rattle.sd_product.proofs.apart.put_present.Given as goal

abbrev pub invariant-loop-constant : goal.invariant-loop-constant
invariant-loop-constant l = Adding l.initial.bank [] l.bank l.found (present l.terms (drop l.constant-index l.constants)) (present l.terms l.constants)
