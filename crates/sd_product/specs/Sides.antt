-- Which sides the numbers of a body stand for.
use Rattle.std.specs.Prelude.{List, [], ◌++◌, map, Option, Some, None}
use Rattle.sd_core.specs.declared.CoreProc.{CoreProc}
use Rattle.sd_term.specs.Tree.{Tree}
use Rattle.sd_term.specs.Bank.{tree_at}
use Rattle.sd_vcgen.specs.Body.{Context, nothing}
use Rattle.sd_vcgen.specs.Numbers.{Denotes, DenoteAll, DenoteSites, site_at}
use Rattle.sd_product.specs.Relations.{entry}
use Rattle.sd_product.specs.Query as query
use Rattle.sd_product.specs.Query.{old_side, new_side}
use Rattle.sd_product.specs.declared.sides.Side.{Side}
use Rattle.sd_product.specs.declared.sides.Sides.{Sides}

-- the numbers of a side stand for this one
pub record DenotesSide (bank : List Tree) (n : Side) (s : query.Side) : Type 0 where
  pub ins : DenoteAll bank n.ins s.inputs.slots
  pub globals : DenoteAll bank n.globals s.inputs.globals
  pub slots : DenoteAll bank (n.ins ++ n.body.outs) s.ends.slots
  pub after : DenoteAll bank n.body.globals s.ends.globals
  pub flag : Denotes bank n.body.flag s.body.flag
  pub assumes : DenoteAll bank n.body.assumes s.body.assumes
  pub sites : DenoteSites bank n.body.sites s.body.sites

-- the side that they stand for, as far as queries speak of it
abbrev pub side_at : List Tree → Side → query.Side
side_at bank n = record {
  inputs = entry (map (tree_at bank) n.ins) (map (tree_at bank) n.globals);
  body = record {
    store = entry [] [];
    flag = tree_at bank n.body.flag;
    gone = nothing;
    assumes = map (tree_at bank) n.body.assumes;
    sites = map (site_at bank) n.body.sites;
  };
  ends = record { slots = map (tree_at bank) (n.ins ++ n.body.outs); globals = map (tree_at bank) n.body.globals };
}

-- its numbers are in the bank
abbrev pub IsSideWithin : List Tree → Side → Type 0
IsSideWithin bank n = DenotesSide bank n (side_at bank n)

-- the numbers of the bodies of two procedures, where both are there
abbrev pub AreSides : Context → Context → List Tree → Option CoreProc → Option CoreProc → Option Sides → Type 0
AreSides C D bank (Some p) (Some q) (Some n) =
    DenotesSide bank n.old (old_side C D p q) × DenotesSide bank n.new (new_side C D p q)
AreSides C D bank (Some p) (Some q) None = ⊥
AreSides C D bank (Some p) None None = Unit {0}
AreSides C D bank None q None = Unit {0}
AreSides C D bank _ _ (Some n) = ⊥
