use Rattle.std.proofs.Common.{◌≡◌, true, false, rules, arith, sym, ap, ◌∙◌, ◌+◌, ◌-◌}
use Rattle.std.proofs.lemmas.Grind.{common_steps}
use Rattle.sd_parse.specs.Reading.{brackets, read, and_then, opens_bracket, class_of, ahead}
use Rattle.sd_parse.proofs.Turns.{brackets_end, brackets_more, one_more, no_more}
use Rattle.sd_parse.proofs.expression.Grammar.brackets.Goals as goal

pub returns-then-not-has_next : goal.returns-then-not-has_next
returns-then-not-has_next g c =
    let d = c.args.self.now.depth in
    let e = one_more (λ n. brackets d (read d) n c.loop-turn.x c.loop-turn.tokens) (d + 1) c.loop-turn._turn c.loop-turn-test.true c.loop-turn.invariant.reads in
    let sees : opens_bracket (class_of (ahead c.loop-turn.tokens)) ≡ false = ap opens_bracket (sym c.peek.ensures) ∙ sym c.opens_bracket-has_next.ensures ∙ c.if-not-has_next.true in
    record { gives = e ∙ brackets_end d (read d) (d + 1 - (c.loop-turn._turn + 1)) c.loop-turn.x c.loop-turn.tokens sees; low = c.loop-turn.invariant.low }

pub returns-in_err-x : goal.returns-in_err-x
returns-in_err-x g c =
    let d = c.args.self.now.depth in
    let e = one_more (λ n. brackets d (read d) n c.loop-turn.x c.loop-turn.tokens) (d + 1) c.loop-turn._turn c.loop-turn-test.true c.loop-turn.invariant.reads in
    let sees : opens_bracket (class_of (ahead c.loop-turn.tokens)) ≡ true = ap opens_bracket (sym c.peek.ensures) ∙ sym c.opens_bracket-has_next.ensures ∙ c.if-not-has_next.false in
    let turn = e ∙ brackets_more d (read d) (d + 1 - (c.loop-turn._turn + 1)) c.loop-turn.x c.loop-turn.tokens sees in
    rw turn (first_of (search rules, grind (arith, common_steps)))

pub loop-turn-preserved : goal.loop-turn-preserved
loop-turn-preserved g c =
    let d = c.args.self.now.depth in
    let n = d + 1 - (c.loop-turn._turn + 1) in
    let e = one_more (λ n. brackets d (read d) n c.loop-turn.x c.loop-turn.tokens) (d + 1) c.loop-turn._turn c.loop-turn-test.true c.loop-turn.invariant.reads in
    let sees : opens_bracket (class_of (ahead c.loop-turn.tokens)) ≡ true = ap opens_bracket (sym c.peek.ensures) ∙ sym c.opens_bracket-has_next.ensures ∙ c.if-not-has_next.false in
    record {
      reads = e ∙ brackets_more d (read d) n c.loop-turn.x c.loop-turn.tokens sees ∙ ap (λ s. and_then s (brackets d (read d) n)) c.in_ok-x.ensures.gives;
      low = c.in_ok-x.ensures.low;
    }

pub returns : goal.returns
unfolding brackets
returns g c =
    let d = c.args.self.now.depth in
    record { gives = no_more (λ n. brackets d (read d) n c.loop-turn.x c.loop-turn.tokens) (d + 1) c.loop-turn._turn c.loop-turn-test.false c.loop-turn.invariant.reads; low = tt }
