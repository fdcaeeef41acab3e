use Rattle.std.proofs.Common.{◌≡◌, ◌<◌, ◌∙◌, ap, List, Bool, length, length-set, true, arith}
use Rattle.sd_linear.proofs.Naming.{names-first, names-second, names-cut}
use Rattle.sd_linear.proofs.refutation.mark_parts.Goals as goal

pub set-requires : goal.set-requires
set-requires c = c.requires c.in-Add.a (names-first c.args.step c.in-Add.a c.in-Add.field-1 c.in-Add.b c.in-Add.field-3 c.in-Add.is)

pub set-requires-in-Add : goal.set-requires-in-Add
set-requires-in-Add c =
    let l : c.in-Add.b < length c.args.marks.now = c.requires c.in-Add.b (names-second c.args.step c.in-Add.a c.in-Add.field-1 c.in-Add.b c.in-Add.field-3 c.in-Add.is) in
    let e : length c.set.new.self ≡ length c.args.marks.now = ap (λ (m : List Bool). length m) c.set.ensures ∙ length-set c.args.marks.now c.in-Add.a true in
    omega arith

pub set-requires-in-Cut : goal.set-requires-in-Cut
set-requires-in-Cut c = c.requires c.in-Cut.a (names-cut c.args.step c.in-Cut.a c.in-Cut.is)
