-- Which trees the numbers that a body is run with stand for.
use Rattle.std.specs.Prelude.{◌≡◌, ℕ, ◌<◌, true, false, List, [], ◌∷◌, All, map, length, replicate, get_or, Option, slice_get}
use Rattle.sd_core.specs.declared.CoreProc.{CoreProc}
use Rattle.sd_core.specs.declared.Spot.{Spot}
use Rattle.sd_core.specs.declared.Spot.TheVariants.{Slot, Global}
use Rattle.sd_core.specs.Store.{Store, map_store}
use Rattle.sd_term.specs.Tree.{Tree}
use Rattle.sd_term.specs.Bank.{tree_at}
use Rattle.sd_vcgen.specs.Body.{State, outs_of}
use Rattle.sd_vcgen.specs.Body as spec
use Rattle.sd_vcgen.specs.declared.body.BodyTerms.{BodyTerms}
use Rattle.sd_vcgen.specs.declared.body.BodyState.{BodyState}
use Rattle.sd_vcgen.specs.declared.call.Context.{Context}
use Rattle.sd_vcgen.specs.declared.call.Site.{Site}
use Rattle.sd_vcgen.specs.declared.spots.Spots.{Spots}

-- the number is one of the bank, and stands for the tree
pub record Denotes (bank : List Tree) (id : ℕ) (t : Tree) : Type 0 where
  pub within : id < length bank
  pub tree : tree_at bank id ≡ t

-- the numbers are of the bank, and stand for these trees
pub record DenoteAll (bank : List Tree) (ids : List ℕ) (ts : List Tree) : Type 0 where
  pub within : All (λ id. id < length bank) ids
  pub trees : map (tree_at bank) ids ≡ ts

-- the record of a call stands for this one
pub record DenotesSite (bank : List Tree) (n : Site) (s : spec.Site) : Type 0 where
  pub callee : n.callee ≡ s.callee
  pub guard : Denotes bank n.guard s.guard
  pub args : DenoteAll bank n.args s.args
  pub before : DenoteAll bank n.before s.before
  pub outs : DenoteAll bank n.outs s.outs
  pub after : DenoteAll bank n.after s.after
  pub flag : Denotes bank n.flag s.flag

-- one by one
abbrev pub DenoteSites : List Tree → List Site → List spec.Site → Type 0
DenoteSites bank [] [] = Unit {0}
DenoteSites bank [] (s ∷ ss) = ⊥
DenoteSites bank (n ∷ ns) [] = ⊥
DenoteSites bank (n ∷ ns) (s ∷ ss) = DenotesSite bank n s × DenoteSites bank ns ss

-- the terms of a body, which ended in this state
pub record AreTermsOf (bank : List Tree) (terms : BodyTerms) (p : CoreProc) (s : State) : Type 0 where
  pub outs : DenoteAll bank terms.outs (outs_of p s)
  pub globals : DenoteAll bank terms.globals s.store.globals
  pub flag : Denotes bank terms.flag s.flag
  pub assumes : DenoteAll bank terms.assumes s.assumes
  pub sites : DenoteSites bank terms.sites s.sites

-- what a body is run in
abbrev pub context_of : Context → spec.Context
context_of c = record { program = c.program.now; infallible = λ q. get_or c.infallible.now q false }

-- the calls of all procedures are kept
abbrev pub KeepsAll : Context → Type 0
KeepsAll c = c.kept.now ≡ replicate (length c.program.now.procs) true

-- ---- while it runs

-- the numbers that the spots hold
abbrev pub numbers_of : Spots → Store ℕ
numbers_of n = record { slots = n.slots; globals = n.globals }

-- what a spot holds, where there is such a spot
abbrev pub number_at : Store ℕ → Spot → Option ℕ
number_at n (Slot i) = slice_get n.slots i
number_at n (Global i) = slice_get n.globals i

-- the trees that they stand for
abbrev pub store_of : List Tree → Spots → Store Tree
store_of bank n = map_store (tree_at bank) (numbers_of n)

-- the spots hold numbers of the bank
pub record AreWithin (bank : List Tree) (n : Spots) : Type 0 where
  pub slots : All (λ id. id < length bank) n.slots
  pub globals : All (λ id. id < length bank) n.globals

-- the state of numbers stands for the state of trees
pub record Stands (bank : List Tree) (n : BodyState) (s : State) : Type 0 where
  pub within : AreWithin bank n.spots
  pub store : store_of bank n.spots ≡ s.store
  pub flag : Denotes bank n.flag s.flag
  pub gone : Denotes bank n.gone s.gone
  pub assumes : DenoteAll bank n.assumes s.assumes
  pub sites : DenoteSites bank n.sites s.sites

-- the record of trees that a record of numbers stands for
abbrev pub site_at : List Tree → Site → spec.Site
site_at bank n = record {
  callee = n.callee;
  guard = tree_at bank n.guard;
  args = map (tree_at bank) n.args;
  before = map (tree_at bank) n.before;
  outs = map (tree_at bank) n.outs;
  after = map (tree_at bank) n.after;
  flag = tree_at bank n.flag;
}

-- its numbers are in the bank
abbrev pub IsSiteWithin : List Tree → Site → Type 0
IsSiteWithin bank n = DenotesSite bank n (site_at bank n)

-- the state of trees that it stands for
abbrev pub state_of : List Tree → BodyState → State
state_of bank n = record {
  store = store_of bank n.spots;
  flag = tree_at bank n.flag;
  gone = tree_at bank n.gone;
  assumes = map (tree_at bank) n.assumes;
  sites = map (site_at bank) n.sites;
}

-- its numbers are in the bank
abbrev pub IsWithin : List Tree → BodyState → Type 0
IsWithin bank n = Stands bank n (state_of bank n)
