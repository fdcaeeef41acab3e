-- The facts of a query over the bodies of its pair.
use Rattle.std.proofs.Common.{◌≡◌, List, [], refl, sym, subst}
use Rattle.std.specs.Prelude.{Bool, Option, Some, None, slice_get}
use Rattle.sd_core.specs.declared.CoreProc.{CoreProc}
use Rattle.sd_match.specs.declared.pair.Pair.{Pair}
use Rattle.sd_term.specs.Tree.{Tree}
use Rattle.sd_vcgen.specs.Body.{Context}
use Rattle.sd_product.specs.Query.{Claimed, Work, Infallibles, old_context, new_context, facts_of, query_by}
use Rattle.sd_product.specs.Work.{PairedPrograms, work_of}
use Rattle.sd_product.specs.Work as paired
use Rattle.sd_product.specs.declared.facts.Obligation.{Obligation}
use Rattle.sd_product.specs.declared.sides.Sides.{Sides}
use Rattle.sd_product.specs.Sides.{AreSides, side_at, IsSideWithin}
use Rattle.sd_product.specs.Obligations.{work_in, infallibles_in, AreSidesFor}
use Rattle.sd_product.proofs.SideLemmas.{side_within, facts_same}

pub sides_within : (C D : Context) (bank : List Tree) (p q : Option CoreProc) (n : Sides) → AreSides C D bank p q (Some n) → IsSideWithin bank n.old × IsSideWithin bank n.new
sides_within C D bank (Some p) (Some q) n h = (side_within bank n.old _ h.0, side_within bank n.new _ h.1)
sides_within C D bank (Some p) None n h = absurd h
sides_within C D bank None q n h = absurd h

module _ (w : Work) (z : Infallibles) (table : List Bool) (x : Claimed) (bank : List Tree) where
  -- where both bodies are there
  pub query_over : (p q : Option CoreProc) (n : Sides) → AreSides (old_context w z) (new_context w z) bank p q (Some n) → facts_of w table x (side_at bank n.old) (side_at bank n.new) ≡ query_by w z table x p q
  query_over (Some p) (Some q) n h = facts_same w table x bank n.old n.new _ _ h.0 h.1
  query_over (Some p) None n h = absurd h
  query_over None q n h = absurd h

  -- where one isn't
  pub query_without : (C D : Context) (p q : Option CoreProc) → AreSides C D bank p q None → [] ≡ query_by w z table x p q
  query_without C D (Some p) (Some q) h = absurd h
  query_without C D (Some p) None h = refl
  query_without C D None q h = refl

-- ---- of a work

-- the bodies of a pair are those of an obligation about it
pub sides_for : (h : PairedPrograms) (q : Obligation) (bank : List Tree) (o : Option Sides) (own : Pair) → work_in q ≡ work_of h → infallibles_in q ≡ paired.infallibles_in h → own ≡ q.pair.now
    → AreSides (old_context (work_of h) (paired.infallibles_in h)) (new_context (work_of h) (paired.infallibles_in h)) bank (slice_get h.old.procs own.old) (slice_get h.new.procs own.new) o → AreSidesFor q bank o
sides_for h q bank o own work infallibles here s =
    subst (λ (k : Work × Infallibles × Pair). AreSides (old_context k.0 k.1) (new_context k.0 k.1) bank (slice_get k.0.old.procs k.2.old) (slice_get k.0.new.procs k.2.new) o) (λ i. (sym work i, sym infallibles i, here i)) s
