use Rattle.std.proofs.Common.{◌≡◌, ◌∙◌, ap, subst, OnOk, ℕ, List}
use Rattle.std.specs.Prelude.{map}
use Rattle.sd_core.specs.declared.Spot.TheVariants.{Global}
use Rattle.sd_core.specs.Store.{Store}
use Rattle.sd_term.specs.Tree.{Tree}
use Rattle.sd_vcgen.specs.Numbers.{store_of}
use Rattle.sd_vcgen.proofs.Calls.{stored}
use Rattle.sd_vcgen.proofs.call.store_results.Goals as goal

pub returns-clause-spots : goal.returns-clause-spots
returns-clause-spots c =
    let first = c.in_ok-assign.ensures in
    let site = c.args.site.now in
    let places = c.as_slice-2.ensures ∙ c.in_ok-globals.ensures ∙ ap (λ (l : List ℕ). map Global l) c.as_slice.ensures in
    subst (λ (st : Store Tree). OnOk c.assign-2.result (store_of c.assign-2.new.bank c.assign-2.new.spots ≡ st))
    (stored c.args.bank.now c.assign.new.bank c.args.spots.now c.assign.new.spots site.guard c.as_slice-2.result.now c.args.procedure.now.modifies c.args.receivers.now c.args.changed.now site.outs c.as_slice-3.result.now
    c.requires.site.guard.within c.requires.site.outs.within first.kept places first.spots c.as_slice-3.ensures)
    c.assign-2.ensures.spots
