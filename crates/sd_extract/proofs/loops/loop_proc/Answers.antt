use Rattle.std.proofs.Common.{◌≡◌, ◌∙◌, refl}
use Rattle.sd_meaning.specs.Run.{kinds_of}
use Rattle.sd_meaning.specs.Routine.{clauses_of}
use Rattle.sd_extract.specs.Extract.{hidden}
use Rattle.sd_extract.specs.Scopes.{frame_in, spots_of}
use Rattle.sd_extract.specs.Counted.{counts_in}
use Rattle.sd_extract.specs.Numbered.{program_of, number_of}
use Rattle.sd_extract.specs.Sources.{source_in}
use Rattle.sd_extract.proofs.CodeLoops.{loop_made}
use Rattle.sd_extract.proofs.loops.loop_proc.Goals as goal

pub returns : goal.returns
returns c =
    let P = program_of c.args.callees.now in
    let turn = kinds_of c.args.parts.now.body.now in
    let hid : c.in_ok-locals.locals ≡ hidden P (record { calls = 0; args = 0; lefts = 0; loops = c.saturating_sub-place.result }) turn = c.in_ok-locals.ensures in
    let slots = c.requires.layout.slots in
    loop_made P (number_of c.args.callees.now) (source_in c.args.placed.now.source.now) c.args.number c.saturating_sub-place.result c.args.parts.now.guard.now (clauses_of c.args.parts.now.invariants.now) turn c.in_ok-inside.inside.returns (counts_in c.in_ok-inside.inside.counts)
    (counts_in c.in_ok-at.at) _ (frame_in c.turn_frame-frame.result) c.as_slice-received.result.now (spots_of c.left_spot.result) c.args.placed.now.layout.now.slots.left c.in_ok-first_hidden.field-0 c.in_ok-add.field-0 c.in_ok-loop_name.field-0
    c.in_ok-loop_ins.field-0 c.in_ok-loop_outs.field-0 c.locals.inside.items.items c.in_ok-from_slice.field-0 c.in_ok-stmts.stmts
    c.in_ok-inside.ensures.returns c.in_ok-inside.ensures.counts c.turn_frame-frame.ensures slots.left c.in_ok-first_hidden.ensures c.in_ok-add.ensures c.in_ok-at.ensures (c.as_slice-received.ensures ∙ slots.state) c.left_spot.ensures c.in_ok-stmts.ensures
    c.saturating_sub-place.ensures refl (c.locals.view_is ∙ hid) c.in_ok-loop_name.ensures c.in_ok-loop_ins.ensures c.in_ok-loop_outs.ensures
    (c.in_ok-from_slice.ensures ∙ c.as_slice.ensures)
