use Rattle.std.proofs.Common.{refl}
use Rattle.sd_vcgen.specs.Numbers.{store_of}
use Rattle.sd_vcgen.proofs.Numbers.{extends_then, is_within, spots_later}
use Rattle.sd_vcgen.proofs.Calls.{with_spots, spots_stand, received}
use Rattle.sd_vcgen.proofs.call.receive.Goals as goal

pub fail-requires-clause-state : goal.fail-requires-clause-state
fail-requires-clause-state c =
    let a = c.args.bank.now in
    let b = c.store_results.new.bank in
    let d = c.and.new.self in
    let stored = c.in_ok-store_results.ensures in
    let kept = c.in_ok-failed.ensures.kept in
    let n = c.args.state.now in
    let after = c.store_results.new.spots in
    is_within d (with_spots n after) _ (spots_stand a d n after (store_of d after) c.requires.state (extends_then a b d stored.kept kept) (spots_later b d after kept stored.within) refl)

pub returns-clause-state : goal.returns-clause-state
returns-clause-state c =
    let stored = c.in_ok-store_results.ensures in
    let failed = c.in_ok-failed.ensures in
    let raised = c.in_ok-fail.ensures in
    received c.args.bank.now c.store_results.new.bank c.and.new.self c.fail.new.bank c.args.state.now c.fail.new.state c.store_results.new.spots c.args.site c.in_ok-failed.failed c.push.new.self c.args.procedure.now c.args.receivers.now c.args.changed.now
    c.requires.state c.requires.site stored.kept stored.within stored.spots failed.kept failed.tree raised.kept raised.state c.in_ok-push.ensures.ok
