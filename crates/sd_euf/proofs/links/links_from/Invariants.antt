use Rattle.std.proofs.Common.{◌≡◌, ℕ, ◌-◌, ◌<◌, ◌^◌, length}
use Rattle.sd_euf.specs.Links.{link_at, AreLinks, AreReached}
use Rattle.sd_euf.proofs.links.links_from.Given as goal

abbrev pub invariant-places : goal.invariant-places
invariant-places l =
    record {
      links : AreLinks l.terms l.values l.links;
      root : (link_at l.links 0).term ≡ l.fn.root;
      reached : (k : ℕ) → k < l.at → AreReached l.terms l.values l.links k (length l.terms);
    }

-- each place is passed once, and places have 64 bits
abbrev pub decreases-places : goal.decreases-places
decreases-places l = 2 ^ 64 - l.at
