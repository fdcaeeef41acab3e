use Rattle.std.proofs.Common.{◌≡◌, ◌-◌, ◌<◌, sym, ap, ◌∙◌, subst, refl, length, arith}
use Rattle.sd_parse.specs.Counts.{procedures}
use Rattle.sd_parse.specs.Reading.{Syntax, Deep}
use Rattle.sd_parse.specs.ReadingPrograms.{program}
use Rattle.sd_parse.proofs.ProgramExact.{program_spells}
use Rattle.sd_parse.proofs.Refused.{fits, is_star, no_star, is_syntax, is_deep}
use Rattle.sd_parse.proofs.answer.parsed.Goals as goal

pub returns-then-procedures-gt-PROCEDURES : goal.returns-then-procedures-gt-PROCEDURES
returns-then-procedures-gt-PROCEDURES c =
    let e = ap (program 200) (sym c.new-cursor.ensures) ∙ c.in-Ok.ensures in
    (record { decls = c.in-Ok.decls }, program_spells 200 (omega arith) c.args.tokens.now c.in-Ok.decls c.program.new.tokens e, subst (λ n. 4096 < n) (c.procedures.ensures ∙ ap procedures c.as_slice.ensures) c.if-procedures-gt-PROCEDURES.true)

pub returns-else-procedures-gt-PROCEDURES : goal.returns-else-procedures-gt-PROCEDURES
returns-else-procedures-gt-PROCEDURES c =
    let e = ap (program 200) (sym c.new-cursor.ensures) ∙ c.in-Ok.ensures in
    let count : c.procedures.result ≡ procedures c.in-Ok.decls = c.procedures.ensures ∙ ap procedures c.as_slice.ensures in
    let few = c.if-procedures-gt-PROCEDURES.false in
    (program_spells 200 (omega arith) c.args.tokens.now c.in-Ok.decls c.program.new.tokens e, omega arith)

pub overflow_sub-at : goal.overflow_sub-at
overflow_sub-at c =
    let r = rw c.in-Err-Syntax.field-0-is at c.in-Err-Syntax.ensures in
    fits c.args.tokens.now c.program.new.tokens c.args.end Syntax (ap (program 200) (sym c.new-cursor.ensures) ∙ r) c.left.result c.left.ensures

pub overflow_sub-at-in-Err-Deep : goal.overflow_sub-at-in-Err-Deep
overflow_sub-at-in-Err-Deep c =
    let r = rw c.in-Err-Deep.field-0-is at c.in-Err-Deep.ensures in
    fits c.args.tokens.now c.program.new.tokens c.args.end Deep (ap (program 200) (sym c.new-cursor.ensures) ∙ r) c.left-in-Err-Deep.result c.left-in-Err-Deep.ensures

pub returns-then-star_at : goal.returns-then-star_at
returns-then-star_at c =
    let r = rw c.in-Err-Syntax.field-0-is at c.in-Err-Syntax.ensures in
    let e = ap (program 200) (sym c.new-cursor.ensures) ∙ r in
    let at = length c.args.tokens.now - c.left.result in
    (is_syntax c.args.tokens.now c.program.new.tokens c.args.end Syntax e c.left.result at c.left.ensures refl c.place_of-place.result c.place_of-place.ensures refl, is_star c.args.tokens.now c.program.new.tokens c.args.end Syntax e c.left.result at c.left.ensures refl c.place_of-place.result c.place_of-place.ensures (sym c.star_at.ensures ∙ c.if-star_at.true))

pub returns-else-star_at : goal.returns-else-star_at
returns-else-star_at c =
    let r = rw c.in-Err-Syntax.field-0-is at c.in-Err-Syntax.ensures in
    let e = ap (program 200) (sym c.new-cursor.ensures) ∙ r in
    let at = length c.args.tokens.now - c.left.result in
    (is_syntax c.args.tokens.now c.program.new.tokens c.args.end Syntax e c.left.result at c.left.ensures refl c.place_of-place.result c.place_of-place.ensures refl, no_star c.args.tokens.now c.program.new.tokens c.args.end Syntax e c.left.result at c.left.ensures refl c.place_of-place.result c.place_of-place.ensures c.requires (sym c.star_at.ensures ∙ c.if-star_at.false))

pub returns-in-Err-Deep : goal.returns-in-Err-Deep
returns-in-Err-Deep c =
    let r = rw c.in-Err-Deep.field-0-is at c.in-Err-Deep.ensures in
    let e = ap (program 200) (sym c.new-cursor.ensures) ∙ r in
    let at = length c.args.tokens.now - c.left-in-Err-Deep.result in
    is_deep c.args.tokens.now c.program.new.tokens c.args.end Deep e c.left-in-Err-Deep.result at c.left-in-Err-Deep.ensures refl c.place_of.result c.place_of.ensures refl
