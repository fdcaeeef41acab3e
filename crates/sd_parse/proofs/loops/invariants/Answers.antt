use Rattle.std.proofs.Common.{◌≡◌, ◌-◌, true, false, [], sym, ap, ◌∙◌, rules, arith}
use Rattle.std.proofs.lemmas.Grind.{common_steps}
use Rattle.sd_parse.specs.Reading.{class_of, ahead, many}
use Rattle.sd_parse.specs.ReadingRows.{push}
use Rattle.sd_parse.specs.ReadingStatements.{begins_invariant, loop_invariant, invariants}
use Rattle.sd_parse.proofs.Many.{starts, ends, turn_at, next, runs_out}
use Rattle.sd_parse.proofs.loops.invariants.Goals as goal

pub loop-turn-init : goal.loop-turn-init
unfolding invariants
loop-turn-init c =
    starts begins_invariant (loop_invariant c.args.limit c.args.depth) push [] c.args.tokens.now c.turns-turn-end.result c.turns-turn-end.ensures
    ∙ ap (λ acc. many begins_invariant (loop_invariant c.args.limit c.args.depth) push (c.turns-turn-end.result - 0) acc c.args.tokens.now) (sym c.new-found.ensures)

pub returns-then-not-begins : goal.returns-then-not-begins
returns-then-not-begins c =
    let e : begins_invariant (class_of (ahead c.loop-turn.tokens)) ≡ false = ap begins_invariant (sym c.peek.ensures) ∙ sym c.begins_invariant-begins.ensures ∙ c.if-not-begins.true in
    ends begins_invariant (loop_invariant c.args.limit c.args.depth) push (invariants c.args.limit c.args.depth c.args.tokens.now) c.turns-turn-end.result c.loop-turn._turn c.loop-turn.found c.loop-turn.tokens c.loop-turn.invariant c.loop-turn-test.true e

pub returns-in_err-next : goal.returns-in_err-next
returns-in_err-next c =
    let e : begins_invariant (class_of (ahead c.loop-turn.tokens)) ≡ true = ap begins_invariant (sym c.peek.ensures) ∙ sym c.begins_invariant-begins.ensures ∙ c.if-not-begins.false in
    let turn = turn_at begins_invariant (loop_invariant c.args.limit c.args.depth) push (invariants c.args.limit c.args.depth c.args.tokens.now) c.turns-turn-end.result c.loop-turn._turn c.loop-turn.found c.loop-turn.tokens c.loop-turn.invariant c.loop-turn-test.true e in
    rw turn (first_of (search rules, grind (arith, common_steps)))

pub loop-turn-preserved : goal.loop-turn-preserved
loop-turn-preserved c =
    let e : begins_invariant (class_of (ahead c.loop-turn.tokens)) ≡ true = ap begins_invariant (sym c.peek.ensures) ∙ sym c.begins_invariant-begins.ensures ∙ c.if-not-begins.false in
    next begins_invariant (loop_invariant c.args.limit c.args.depth) push (invariants c.args.limit c.args.depth c.args.tokens.now) c.turns-turn-end.result c.loop-turn._turn c.loop-turn.found c.loop-turn.tokens c.loop-turn.invariant
    c.in_ok-next.next c.invariant.new.tokens c.push.new.self c.loop-turn-test.true e c.in_ok-next.ensures c.in_ok-push.ensures.ok

pub returns : goal.returns
returns c = runs_out begins_invariant (loop_invariant c.args.limit c.args.depth) push (invariants c.args.limit c.args.depth c.args.tokens.now) c.turns-turn-end.result c.loop-turn._turn c.loop-turn.found c.loop-turn.tokens c.loop-turn.invariant c.loop-turn-test.false
