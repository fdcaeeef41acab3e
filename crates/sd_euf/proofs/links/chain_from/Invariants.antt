use Rattle.std.proofs.Common.{◌<◌, List, Option, Bool, length}
use Rattle.sd_term.specs.Tree.{Tree}
use Rattle.sd_euf.specs.Links.{IsChain, reached_at, AreLinks}
use Rattle.sd_euf.proofs.links.chain_from.Given as goal

abbrev pub invariant-loop-here : goal.invariant-loop-here
invariant-loop-here l =
    record {
      within : l.here < length l.links;
      chain : (terms : List Tree) (values : List (Option Bool)) → AreLinks terms values l.links → IsChain terms values (reached_at terms l.links l.at) l.chain (reached_at terms l.links l.here);
    }

abbrev pub decreases-loop-here : goal.decreases-loop-here
decreases-loop-here l = l.here
