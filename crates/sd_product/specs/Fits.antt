-- Which relations fit the types of what they relate.
use Rattle.std.specs.Prelude.{◌≡◌, List, Option, Some, None, slice_get}
use Rattle.std.specs.List.{AllByRecursion}
use Rattle.sd_base.specs.declared.Sort.{Sort, Int, Bool as BoolSort}
use Rattle.sd_core.specs.declared.CoreProc.{CoreProc}
use Rattle.sd_core.specs.declared.CoreProgram.{CoreProgram}
use Rattle.sd_core.specs.Store.{Store, read}
use Rattle.sd_core.specs.Formed.{sorts_of}
use Rattle.sd_match.specs.declared.pair.SpotPair.{SpotPair}
use Rattle.sd_term.specs.declared.build.Kind.{Kind}
use Rattle.sd_term.specs.declared.build.Kind.TheVariants as kind
use Rattle.sd_cand.specs.declared.candidate.Relation.{Relation}
use Rattle.sd_cand.specs.declared.candidate.Claim.{Claim}
use Rattle.sd_cand.specs.declared.candidate.Claim.TheVariants.{Flag, Output}
use Rattle.sd_product.specs.Relations.{entry, exit}
use Rattle.sd_product.specs.Query.{Claimed, Work}

-- a relation of this kind is between values of such types
abbrev pub FitsKind : Kind → Sort → Sort → Type 0
FitsKind kind.Eq a b = a ≡ b
FitsKind kind.Le a b = (a ≡ Int) × (b ≡ Int)
FitsKind kind.Ge a b = (a ≡ Int) × (b ≡ Int)
FitsKind kind.Imp a b = (a ≡ BoolSort) × (b ≡ BoolSort)
FitsKind kind.Pmi a b = (a ≡ BoolSort) × (b ≡ BoolSort)

-- at a place, in states of these types
abbrev pub FitsAt : Kind → Store Sort → Store Sort → Option SpotPair → Type 0
FitsAt k old new None = Unit {0}
FitsAt k old new (Some s) = FitsKind k (read BoolSort old s.old) (read BoolSort new s.new)

abbrev pub Fits : List SpotPair → Store Sort → Store Sort → Relation → Type 0
Fits places old new r = FitsAt r.kind old new (slice_get places r.place)

abbrev pub FitsClaim : List SpotPair → Store Sort → Store Sort → Claim → Type 0
FitsClaim places old new Flag = Unit {0}
FitsClaim places old new (Output r) = Fits places old new r

-- the types of what a procedure begins and ends with
abbrev pub entry_sorts : CoreProgram → CoreProc → Store Sort
entry_sorts P p = entry (sorts_of p.ins) (sorts_of P.globals)

abbrev pub exit_sorts : CoreProgram → CoreProc → Store Sort
exit_sorts P p = exit (sorts_of p.ins) (sorts_of p.outs) (sorts_of P.globals)

-- the relations of a candidate fit two procedures
pub record FitsBoth (w : Work) (x : Claimed) (p q : CoreProc) : Type 0 where
  pub when : AllByRecursion (Fits x.pair.inputs (entry_sorts w.old p) (entry_sorts w.new q)) x.candidate.when
  pub claim : FitsClaim x.pair.outputs (exit_sorts w.old p) (exit_sorts w.new q) x.candidate.claim

-- those of its pair
abbrev pub FitsPair : Work → Claimed → Type 0
FitsPair w x =
    (p q : CoreProc) → slice_get w.old.procs x.pair.old ≡ Some p → slice_get w.new.procs x.pair.new ≡ Some q →
    FitsBoth w x p q
