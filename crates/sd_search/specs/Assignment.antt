-- values of atoms beside the facts of a query
use Rattle.std.specs.Prelude.{◌≡◌, ◌<◌, true, List, [], All, length}
use Rattle.std.specs.List.{AllByRecursion}
use Rattle.sd_term.specs.Tree.{Tree}
use Rattle.sd_term.specs.Sorts.{is_truth_valued}
use Rattle.sd_kernel.specs.declared.known.Fact.{Fact as NumberedFact}
use Rattle.sd_kernel.specs.Known.{Fact}
use Rattle.sd_kernel.specs.Facts.{trail_of}
use Rattle.sd_search.specs.declared.assignment.Assignment.{Assignment}
use Rattle.sd_search.specs.Choice.{Begins}
use Rattle.sd_search.specs.Running.{IsRunning}

-- the facts, all true, and then values of truth-valued terms; the terms are those of the facts and needed ones
pub record IsAssignment (facts : List Tree) (a : Assignment) : Type 0 where
  pub running : IsRunning facts a.walk a.facts [] a.extra []
  pub begins : Begins facts (trail_of a.walk.0 a.trail)
  pub below : All (λ (f : NumberedFact). f.term < length a.walk.0) a.trail
  pub truths : AllByRecursion (λ (f : Fact). is_truth_valued f.0 ≡ true) (trail_of a.walk.0 a.trail)
