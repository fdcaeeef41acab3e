use Rattle.std.proofs.Common.{◌≡◌, ℕ, ◌+◌, List, take, get_or, sym, ◌∙◌, subst, Option, Some, None, Bool, arith, refl}
use Rattle.sd_kernel.specs.Facts.{trail_of}
use Rattle.sd_kernel.specs.Known.{known, Trail}
use Rattle.sd_term.specs.Bank.{tree_at}
use Rattle.sd_term.specs.Tree.{Tree}
use Rattle.sd_term.specs.Sorts.{IsWellSorted}
use Rattle.sd_rows.specs.declared.row.Row.{Row}
use Rattle.sd_arith.specs.Gathered.{IsGathered, AddsRows, rows_of_terms}
use Rattle.sd_arith.specs.Places.{HasPlaces}
use Rattle.sd_kernel.proofs.Lookups.{sorted-at, known_at-is}
use Rattle.sd_arith.proofs.Giving.{gathered-more, gathered-same}
use Rattle.sd_arith.proofs.gather.gather.Goals as goal
use Rattle.sd_arith.proofs.gather.gather.Goals.{in-Some+in_ok-add_term, in_default}

none : (o : Option Bool) → ((b : Bool) → o ≡ Some b → ⊥) → o ≡ None
none None n = refl
none (Some b) n = absurd (n b refl)

pub add_term-requires-clause-sorted : goal.add_term-requires-clause-sorted
add_term-requires-clause-sorted c =
    subst (λ (n : ℕ). IsWellSorted (tree_at c.args.terms.now n)) (sym c.new-id.ensures) (sorted-at c.args.terms.now c.loop-n.n c.requires.sorted (omega arith))

pub loop-n-preserved : goal.loop-n-preserved
loop-n-preserved c =
    let terms : List Tree = c.args.terms.now in
    let trail : Trail = trail_of terms c.args.trail.now in
    let n : ℕ = c.loop-n.n in
    let rows : List Row = rows_of_terms terms trail (take n terms) in
    let known_at = sym (known_at-is trail terms c.args.values.now n c.requires.values (omega arith)) in
    elim c.match-values-n.branch [
      | in-Some+in_ok-add_term w ↦
          let places = subst (HasPlaces terms 0 trail) (sym w.as_slice-in-Some.ensures) c.in_ok-places.ensures in
          let adds = subst (λ (i : ℕ). known trail (tree_at terms i) ≡ Some w.in-Some.value → AddsRows terms trail (tree_at terms i) w.in-Some.value c.loop-n.gathered w.add_term.new.gathered) w.new-id.ensures
          (w.in_ok-add_term.ensures trail places) in
          subst (IsGathered terms trail (rows_of_terms terms trail (take (n + 1) terms))) (sym w.gathered-is)
          (gathered-more terms trail n w.in-Some.value w.add_term.new.gathered (omega arith) (known_at ∙ w.in-Some.is) (adds (known_at ∙ w.in-Some.is) rows c.loop-n.invariant))
      | in_default w ↦
          subst (IsGathered terms trail (rows_of_terms terms trail (take (n + 1) terms))) (sym w.gathered-is)
          (gathered-same terms trail n c.loop-n.gathered (omega arith) (known_at ∙ none (get_or c.args.values.now n None) w.in_default.not-Some) c.loop-n.invariant)
    ]
