use Rattle.std.proofs.Common.{[], ◌+◌, drop}
use Rattle.sd_core.specs.Formed.{sorts_of}
use Rattle.sd_vcgen.specs.Body.{symbols}
use Rattle.sd_product.proofs.Numbers.{Adding}
use Rattle.sd_product.proofs.sides.put_symbols.Given as goal

abbrev pub invariant-loop-i : goal.invariant-loop-i
invariant-loop-i l = Adding l.initial.bank [] l.bank l.ids (symbols (l.first + l.i) (sorts_of (drop l.i l.variables))) (symbols l.first (sorts_of l.variables))
