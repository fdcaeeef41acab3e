use Rattle.std.proofs.Common.{◌∙◌, ap, sym, subst, List}
use Rattle.std.specs.Prelude.{Option, slice_get}
use Rattle.sd_core.specs.declared.CoreProc.{CoreProc}
use Rattle.sd_match.specs.declared.pair.Pair.{Pair}
use Rattle.sd_vcgen.specs.Body.{Context}
use Rattle.sd_product.specs.Sides.{AreSides}
use Rattle.sd_product.proofs.bodies.PairBodies.new.Goals as goal

pub invariant_of-result : goal.invariant_of-result
invariant_of-result c =
    let h = c.args.work.now in
    let own = c.pair-own.result.now in
    let old = c.old_context-old.ensures.context in
    let new = c.new_context-new.ensures.context in
    let p = c.get-old_procedure.ensures.value ∙ ap (λ (C : Context). slice_get C.program.procs own.old) old in
    let q = c.get-new_procedure.ensures.value ∙ ap (λ (C : Context). slice_get C.program.procs own.new) new in
    record {
      own = own;
      own_is = ap (λ (ps : List Pair). slice_get ps c.args.pair) (sym c.pairs.ensures) ∙ c.pair-own.ensures;
      sides = subst (λ (k : Context × Context × Option CoreProc × Option CoreProc). AreSides k.0 k.1 c.put_sides.new.bank k.2 k.3 c.in_ok-sides.sides) (λ i. (old i, new i, p i, q i)) c.in_ok-sides.ensures;
    }
