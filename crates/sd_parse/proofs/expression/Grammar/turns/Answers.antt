use Rattle.std.proofs.Common.{rules, arith, sym, ap, ◌∙◌, ◌+◌, ◌-◌}
use Rattle.std.proofs.lemmas.Grind.{common_steps}
use Rattle.sd_parse.specs.Reading.{turns, read, and_then, operation, pure}
use Rattle.sd_parse.specs.Grammar.{repeated}
use Rattle.sd_parse.proofs.Turns.{turn_none, turn_some, one_more, no_more}
use Rattle.sd_parse.proofs.expression.Grammar.turns.Goals as goal

pub returns-in-None : goal.returns-in-None
returns-in-None g c =
    let d = c.args.self.now.depth in
    let e = one_more (λ n. turns d (read d) n c.args.level c.loop-turn.x c.loop-turn.tokens) (d + 1) c.loop-turn._turn c.loop-turn-test.true c.loop-turn.invariant.reads in
    let sees = sym (c.repeated.ensures ∙ ap (repeated c.args.level) c.peek.ensures) ∙ c.in-None.is in
    record { gives = e ∙ turn_none d (read d) (d + 1 - (c.loop-turn._turn + 1)) c.args.level c.loop-turn.x c.loop-turn.tokens sees; low = c.loop-turn.invariant.low }

pub returns-in_err-x-in-Some : goal.returns-in_err-x-in-Some
returns-in_err-x-in-Some g c =
    let d = c.args.self.now.depth in
    let e = one_more (λ n. turns d (read d) n c.args.level c.loop-turn.x c.loop-turn.tokens) (d + 1) c.loop-turn._turn c.loop-turn-test.true c.loop-turn.invariant.reads in
    let sees = sym (c.repeated.ensures ∙ ap (repeated c.args.level) c.peek.ensures) ∙ c.in-Some.is in
    let turn = e ∙ turn_some d (read d) (d + 1 - (c.loop-turn._turn + 1)) c.args.level c.loop-turn.x c.loop-turn.tokens c.in-Some.op sees in
    rw turn (first_of (search rules, grind (arith, common_steps)))

pub loop-turn-preserved : goal.loop-turn-preserved
loop-turn-preserved g c =
    let d = c.args.self.now.depth in
    let n = d + 1 - (c.loop-turn._turn + 1) in
    let e = one_more (λ n. turns d (read d) n c.args.level c.loop-turn.x c.loop-turn.tokens) (d + 1) c.loop-turn._turn c.loop-turn-test.true c.loop-turn.invariant.reads in
    let sees = sym (c.repeated.ensures ∙ ap (repeated c.args.level) c.peek.ensures) ∙ c.in-Some.is in
    record {
      reads = e ∙ turn_some d (read d) n c.args.level c.loop-turn.x c.loop-turn.tokens c.in-Some.op sees
          ∙ ap (λ s. and_then s (turns d (read d) n c.args.level)) (ap (λ l. operation d (read d) l pure c.loop-turn.x c.in-Some.op c.loop-turn.tokens) (sym c.operand.ensures) ∙ c.in_ok-x-in-Some.ensures.gives);
      low = c.in_ok-x-in-Some.ensures.low;
    }

pub returns : goal.returns
unfolding turns
returns g c =
    let d = c.args.self.now.depth in
    record { gives = no_more (λ n. turns d (read d) n c.args.level c.loop-turn.x c.loop-turn.tokens) (d + 1) c.loop-turn._turn c.loop-turn-test.false c.loop-turn.invariant.reads; low = tt }
