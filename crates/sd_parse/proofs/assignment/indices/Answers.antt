use Rattle.std.proofs.Common.{◌≡◌, ◌-◌, true, false, [], sym, ap, ◌∙◌, rules, arith}
use Rattle.std.proofs.lemmas.Grind.{common_steps}
use Rattle.sd_parse.specs.declared.class.TokenClass.TheVariants as s
use Rattle.sd_parse.specs.TokenClasses.{same_class}
use Rattle.sd_parse.specs.Reading.{class_of, ahead, many}
use Rattle.sd_parse.specs.ReadingRows.{is, push}
use Rattle.sd_parse.specs.ReadingStatements.{index, indices}
use Rattle.sd_parse.proofs.Many.{starts, ends, turn_at, next, runs_out}
use Rattle.sd_parse.proofs.assignment.indices.Goals as goal

pub loop-turn-init : goal.loop-turn-init
unfolding indices
loop-turn-init c =
    starts (is s.OpenBracket) (index c.args.depth) push [] c.args.tokens.now c.turns-turn-end.result c.turns-turn-end.ensures
    ∙ ap (λ acc. many (is s.OpenBracket) (index c.args.depth) push (c.turns-turn-end.result - 0) acc c.args.tokens.now) (sym c.new-found.ensures)

pub returns-then-not-has_next : goal.returns-then-not-has_next
returns-then-not-has_next c =
    let e : (is s.OpenBracket) (class_of (ahead c.loop-turn.tokens)) ≡ false = ap (λ x. same_class x s.OpenBracket) (sym c.peek.ensures) ∙ sym c.same_class-has_next.ensures ∙ c.if-not-has_next.true in
    ends (is s.OpenBracket) (index c.args.depth) push (indices c.args.depth c.args.tokens.now) c.turns-turn-end.result c.loop-turn._turn c.loop-turn.found c.loop-turn.tokens c.loop-turn.invariant c.loop-turn-test.true e

pub returns-in_err-next : goal.returns-in_err-next
returns-in_err-next c =
    let e : (is s.OpenBracket) (class_of (ahead c.loop-turn.tokens)) ≡ true = ap (λ x. same_class x s.OpenBracket) (sym c.peek.ensures) ∙ sym c.same_class-has_next.ensures ∙ c.if-not-has_next.false in
    let turn = turn_at (is s.OpenBracket) (index c.args.depth) push (indices c.args.depth c.args.tokens.now) c.turns-turn-end.result c.loop-turn._turn c.loop-turn.found c.loop-turn.tokens c.loop-turn.invariant c.loop-turn-test.true e in
    rw turn (first_of (search rules, grind (arith, common_steps)))

pub loop-turn-preserved : goal.loop-turn-preserved
loop-turn-preserved c =
    let e : (is s.OpenBracket) (class_of (ahead c.loop-turn.tokens)) ≡ true = ap (λ x. same_class x s.OpenBracket) (sym c.peek.ensures) ∙ sym c.same_class-has_next.ensures ∙ c.if-not-has_next.false in
    next (is s.OpenBracket) (index c.args.depth) push (indices c.args.depth c.args.tokens.now) c.turns-turn-end.result c.loop-turn._turn c.loop-turn.found c.loop-turn.tokens c.loop-turn.invariant
    c.in_ok-next.next c.index.new.tokens c.push.new.self c.loop-turn-test.true e c.in_ok-next.ensures c.in_ok-push.ensures.ok

pub returns : goal.returns
returns c = runs_out (is s.OpenBracket) (index c.args.depth) push (indices c.args.depth c.args.tokens.now) c.turns-turn-end.result c.loop-turn._turn c.loop-turn.found c.loop-turn.tokens c.loop-turn.invariant c.loop-turn-test.false
