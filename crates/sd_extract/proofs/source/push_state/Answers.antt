use Rattle.std.proofs.Common.{◌≡◌, subst, OnOk, List}
use Rattle.sd_core.specs.declared.Spot.{Spot}
use Rattle.sd_extract.proofs.CodeSources.{state_pushed}
use Rattle.sd_extract.proofs.source.push_state.Goals as goal

pub returns-clause-spots : goal.returns-clause-spots
returns-clause-spots c =
    subst (λ (ps : List Spot). OnOk c.push_vars-2.result (c.push_vars-2.new.spots ≡ ps))
    (state_pushed c.args.first c.in_ok-next.next c.args.outs.now c.args.locals.now c.args.spots.now c.push_vars.new.spots c.in_ok-next.ensures.spots c.in_ok-next.ensures.next) c.push_vars-2.ensures.spots
