use Rattle.std.proofs.Common.{◌≡◌, true, false, sym, ap, ◌∙◌, rules, arith}
use Rattle.std.proofs.lemmas.Grind.{common_steps}
use Rattle.sd_parse.specs.declared.class.TokenClass.TheVariants as s
use Rattle.sd_parse.specs.TokenClasses.{same_class}
use Rattle.sd_parse.specs.Reading.{class_of, ahead}
use Rattle.sd_parse.specs.ReadingRows.{is, join_lists}
use Rattle.sd_parse.specs.ReadingRows as rows
use Rattle.sd_parse.specs.ReadingPrograms.{group, more_groups}
use Rattle.sd_parse.proofs.Many.{starts, ends, turn_at, next, runs_out}
use Rattle.sd_parse.proofs.variables.more_groups.Goals as goal

pub loop-turn-init : goal.loop-turn-init
unfolding more_groups
loop-turn-init c = starts (is s.Comma) (rows.next (group c.args.limit)) join_lists c.args.vars c.args.tokens.now c.turns-turn-end.result c.turns-turn-end.ensures

pub returns-then-not-has_next : goal.returns-then-not-has_next
returns-then-not-has_next c =
    let e : (is s.Comma) (class_of (ahead c.loop-turn.tokens)) ≡ false = ap (λ x. same_class x s.Comma) (sym c.peek.ensures) ∙ sym c.same_class-has_next.ensures ∙ c.if-not-has_next.true in
    ends (is s.Comma) (rows.next (group c.args.limit)) join_lists (more_groups c.args.limit c.args.vars c.args.tokens.now) c.turns-turn-end.result c.loop-turn._turn c.loop-turn.vars c.loop-turn.tokens c.loop-turn.invariant c.loop-turn-test.true e

pub returns-in_err-next : goal.returns-in_err-next
returns-in_err-next c =
    let e : (is s.Comma) (class_of (ahead c.loop-turn.tokens)) ≡ true = ap (λ x. same_class x s.Comma) (sym c.peek.ensures) ∙ sym c.same_class-has_next.ensures ∙ c.if-not-has_next.false in
    let turn = turn_at (is s.Comma) (rows.next (group c.args.limit)) join_lists (more_groups c.args.limit c.args.vars c.args.tokens.now) c.turns-turn-end.result c.loop-turn._turn c.loop-turn.vars c.loop-turn.tokens c.loop-turn.invariant c.loop-turn-test.true e in
    rw turn (first_of (search rules, grind (arith, common_steps)))

pub loop-turn-preserved : goal.loop-turn-preserved
loop-turn-preserved c =
    let e : (is s.Comma) (class_of (ahead c.loop-turn.tokens)) ≡ true = ap (λ x. same_class x s.Comma) (sym c.peek.ensures) ∙ sym c.same_class-has_next.ensures ∙ c.if-not-has_next.false in
    next (is s.Comma) (rows.next (group c.args.limit)) join_lists (more_groups c.args.limit c.args.vars c.args.tokens.now) c.turns-turn-end.result c.loop-turn._turn c.loop-turn.vars c.loop-turn.tokens c.loop-turn.invariant
    c.in_ok-next.next c.next_group.new.tokens c.append.new.self c.loop-turn-test.true e c.in_ok-next.ensures c.in_ok-append.ensures

pub returns : goal.returns
returns c = runs_out (is s.Comma) (rows.next (group c.args.limit)) join_lists (more_groups c.args.limit c.args.vars c.args.tokens.now) c.turns-turn-end.result c.loop-turn._turn c.loop-turn.vars c.loop-turn.tokens c.loop-turn.invariant c.loop-turn-test.false
