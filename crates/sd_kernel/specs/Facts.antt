-- the facts of a trail by number, as trees
use Rattle.std.specs.Prelude.{List, map}
use Rattle.sd_term.specs.Tree.{Tree}
use Rattle.sd_term.specs.Bank.{tree_at}
use Rattle.sd_kernel.specs.declared.known.Fact.{Fact as NumberedFact}
use Rattle.sd_kernel.specs.Known.{Fact, Trail}

abbrev pub fact_of : List Tree → NumberedFact → Fact
fact_of terms f = (tree_at terms f.term, f.value)

abbrev pub trail_of : List Tree → List NumberedFact → Trail
trail_of terms fs = map (λ f. fact_of terms f) fs
