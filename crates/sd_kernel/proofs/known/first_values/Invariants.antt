use Rattle.std.proofs.Common.{drop}
use Rattle.sd_kernel.specs.Facts.{trail_of}
use Rattle.sd_kernel.specs.FirstFacts.{HasFirstFacts}
use Rattle.sd_kernel.proofs.known.first_values.Given as goal

abbrev pub invariant-loop-k : goal.invariant-loop-k
invariant-loop-k l = HasFirstFacts l.terms (trail_of l.terms (drop l.k l.trail)) l.firsts
