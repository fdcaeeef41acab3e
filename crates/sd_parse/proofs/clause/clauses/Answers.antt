use Rattle.std.proofs.Common.{◌≡◌, ◌-◌, true, false, [], sym, ap, ◌∙◌, rules, arith}
use Rattle.std.proofs.lemmas.Grind.{common_steps}
use Rattle.sd_parse.specs.Reading.{class_of, ahead, many}
use Rattle.sd_parse.specs.ReadingRows.{push}
use Rattle.sd_parse.specs.ReadingPrograms.{begins_spec, clause, clauses}
use Rattle.sd_parse.proofs.Many.{starts, ends, turn_at, next, runs_out}
use Rattle.sd_parse.proofs.clause.clauses.Goals as goal

pub loop-turn-init : goal.loop-turn-init
unfolding clauses
loop-turn-init c =
    starts begins_spec (clause c.args.limit) push [] c.args.tokens.now c.turns-turn-end.result c.turns-turn-end.ensures
    ∙ ap (λ acc. many begins_spec (clause c.args.limit) push (c.turns-turn-end.result - 0) acc c.args.tokens.now) (sym c.new-found.ensures)

pub returns-then-not-begins : goal.returns-then-not-begins
returns-then-not-begins c =
    let e : begins_spec (class_of (ahead c.loop-turn.tokens)) ≡ false = ap begins_spec (sym c.peek.ensures) ∙ sym c.begins_spec-begins.ensures ∙ c.if-not-begins.true in
    ends begins_spec (clause c.args.limit) push (clauses c.args.limit c.args.tokens.now) c.turns-turn-end.result c.loop-turn._turn c.loop-turn.found c.loop-turn.tokens c.loop-turn.invariant c.loop-turn-test.true e

pub returns-in_err-next : goal.returns-in_err-next
returns-in_err-next c =
    let e : begins_spec (class_of (ahead c.loop-turn.tokens)) ≡ true = ap begins_spec (sym c.peek.ensures) ∙ sym c.begins_spec-begins.ensures ∙ c.if-not-begins.false in
    let turn = turn_at begins_spec (clause c.args.limit) push (clauses c.args.limit c.args.tokens.now) c.turns-turn-end.result c.loop-turn._turn c.loop-turn.found c.loop-turn.tokens c.loop-turn.invariant c.loop-turn-test.true e in
    rw turn (first_of (search rules, grind (arith, common_steps)))

pub loop-turn-preserved : goal.loop-turn-preserved
loop-turn-preserved c =
    let e : begins_spec (class_of (ahead c.loop-turn.tokens)) ≡ true = ap begins_spec (sym c.peek.ensures) ∙ sym c.begins_spec-begins.ensures ∙ c.if-not-begins.false in
    next begins_spec (clause c.args.limit) push (clauses c.args.limit c.args.tokens.now) c.turns-turn-end.result c.loop-turn._turn c.loop-turn.found c.loop-turn.tokens c.loop-turn.invariant
    c.in_ok-next.next c.clause.new.tokens c.push.new.self c.loop-turn-test.true e c.in_ok-next.ensures c.in_ok-push.ensures.ok

pub returns : goal.returns
returns c = runs_out begins_spec (clause c.args.limit) push (clauses c.args.limit c.args.tokens.now) c.turns-turn-end.result c.loop-turn._turn c.loop-turn.found c.loop-turn.tokens c.loop-turn.invariant c.loop-turn-test.false
