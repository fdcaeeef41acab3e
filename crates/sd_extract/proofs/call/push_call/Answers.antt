use Rattle.std.proofs.Common.{◌∙◌, ap, ◌++◌, length, map}
use Rattle.sd_core.specs.declared.CoreExpr.{At}
use Rattle.sd_extract.specs.Scopes.{names_in, slots_upto}
use Rattle.sd_extract.proofs.CodeStatements.{call_made}
use Rattle.sd_extract.proofs.call.push_call.Goals as goal

pub returns : goal.returns
returns c =
    call_made (names_in c.args.scope.now) c.args.called.now.procedure.now c.args.called.now.number c.args.called.now.first c.args.parts.now.names.now c.args.parts.now.args.now c.args.out.now c.put.new.out c.push_requires_on.new.out c.push.new.self
    c.push_slots.new.spots c.in_ok-copied.copied c.as_slice.result.now c.as_slice-2.result.now c.as_slice-3.result.now c.in_ok-outs.outs c.in_ok-expressions.field-0 c.push_reads.new.out
    (c.in_ok-push_slots.ensures.spots ∙ ap (λ ps. ps ++ slots_upto c.args.called.now.first (length c.args.parts.now.args.now)) c.new-spots.ensures) c.in_ok-copied.ensures c.as_slice.ensures c.in_ok-expressions.ensures c.in_ok-put.ensures c.as_slice-2.ensures c.in_ok-push_requires_on.ensures c.in_ok-outs.ensures c.as_slice-3.ensures (c.in_ok-push_reads.ensures ∙ ap (λ es. es ++ map At c.as_slice-3.result.now) c.new-ins.ensures) c.in_ok-push.ensures.ok
