use Rattle.std.proofs.Common.{◌≡◌, ◌<◌, length, List, None, true}
use Rattle.sd_term.specs.Tree.{Tree}
use Rattle.sd_term.specs.Bank.{tree_at}
use Rattle.sd_term.specs.Sorts.{is_truth_valued}
use Rattle.sd_kernel.specs.Known.{Trail, known_at}
use Rattle.sd_cube.specs.Spent.{Reaches}
use Rattle.sd_search.specs.Terms.{AreValuesUnder}
use Rattle.sd_search.proofs.descent.atom_below.Given as goal

abbrev pub invariant-loop-term : goal.invariant-loop-term
invariant-loop-term l =
    (l.term < length l.terms)
    × (is_truth_valued (tree_at l.terms l.term) ≡ true)
    × (known_at l.values l.term ≡ None)
    × ((trail : Trail) → AreValuesUnder trail l.terms l.values → (way : List Tree) × Reaches trail (tree_at l.terms l.fn.fact) way (tree_at l.terms l.term))

abbrev pub decreases-loop-term : goal.decreases-loop-term
decreases-loop-term l = l.term
