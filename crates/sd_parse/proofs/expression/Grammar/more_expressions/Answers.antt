use Rattle.std.proofs.Common.{◌≡◌, ◌≤◌, max, true, false, sym, ap, ◌∙◌, subst, rules, arith}
use Rattle.std.proofs.lemmas.Grind.{common_steps}
use Rattle.sd_parse.specs.Reading.{class_of, ahead, comma, next_expression, add, more_expressions, read}
use Rattle.sd_parse.proofs.Many.{starts, ends, turn_at, next, runs_out}
use Rattle.sd_parse.proofs.expression.Grammar.more_expressions.Goals as goal

pub loop-turn-init : goal.loop-turn-init
unfolding more_expressions
loop-turn-init g c =
    let d = c.args.self.now.depth in
    record { reads = starts comma (next_expression d (read d)) add c.args.first c.args.tokens.now c.turns-turn-end.result c.turns-turn-end.ensures; low = c.requires.low }

pub returns-then-not-has_next : goal.returns-then-not-has_next
returns-then-not-has_next g c =
    let d = c.args.self.now.depth in
    let e : comma (class_of (ahead c.loop-turn.tokens)) ≡ false = ap comma (sym c.peek.ensures) ∙ sym c.comma-has_next.ensures ∙ c.if-not-has_next.true in
    record {
      gives = ends comma (next_expression d (read d)) add (more_expressions d (read d) c.args.first c.args.tokens.now) c.turns-turn-end.result c.loop-turn._turn c.loop-turn.group c.loop-turn.tokens c.loop-turn.invariant.reads c.loop-turn-test.true e;
      low = c.loop-turn.invariant.low;
    }

pub returns-in_err-next : goal.returns-in_err-next
returns-in_err-next g c =
    let d = c.args.self.now.depth in
    let e : comma (class_of (ahead c.loop-turn.tokens)) ≡ true = ap comma (sym c.peek.ensures) ∙ sym c.comma-has_next.ensures ∙ c.if-not-has_next.false in
    let turn = turn_at comma (next_expression d (read d)) add (more_expressions d (read d) c.args.first c.args.tokens.now) c.turns-turn-end.result c.loop-turn._turn c.loop-turn.group c.loop-turn.tokens c.loop-turn.invariant.reads c.loop-turn-test.true e in
    rw turn (first_of (search rules, grind (arith, common_steps)))

pub loop-turn-preserved : goal.loop-turn-preserved
loop-turn-preserved g c =
    let d = c.args.self.now.depth in
    let e : comma (class_of (ahead c.loop-turn.tokens)) ≡ true = ap comma (sym c.peek.ensures) ∙ sym c.comma-has_next.ensures ∙ c.if-not-has_next.false in
    let low : max c.loop-turn.group.1 c.in_ok-next.next.1 ≤ d = let z = c.loop-turn.invariant.low in let y = c.in_ok-next.ensures.low in omega arith in
    record {
      reads = next comma (next_expression d (read d)) add (more_expressions d (read d) c.args.first c.args.tokens.now) c.turns-turn-end.result c.loop-turn._turn c.loop-turn.group c.loop-turn.tokens c.loop-turn.invariant.reads
          c.in_ok-next.next c.next_expression.new.tokens c.in_ok-group.group c.loop-turn-test.true e c.in_ok-next.ensures.gives c.in_ok-group.ensures;
      low = subst (λ y. y.1 ≤ d) (sym c.in_ok-group.ensures) low;
    }

pub returns : goal.returns
returns g c =
    let d = c.args.self.now.depth in
    record { gives = runs_out comma (next_expression d (read d)) add (more_expressions d (read d) c.args.first c.args.tokens.now) c.turns-turn-end.result c.loop-turn._turn c.loop-turn.group c.loop-turn.tokens c.loop-turn.invariant.reads c.loop-turn-test.false; low = tt }
