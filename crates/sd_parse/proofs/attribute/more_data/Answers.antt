use Rattle.std.proofs.Common.{◌≡◌, true, false, sym, ap, ◌∙◌, rules, arith, refl}
use Rattle.std.proofs.lemmas.Grind.{common_steps}
use Rattle.sd_parse.specs.declared.class.TokenClass.TheVariants as s
use Rattle.sd_parse.specs.TokenClasses.{same_class}
use Rattle.sd_parse.specs.Reading.{class_of, ahead}
use Rattle.sd_parse.specs.ReadingRows.{is, keep}
use Rattle.sd_parse.specs.ReadingClauses.{next_datum, more_data}
use Rattle.sd_parse.proofs.Many.{starts, ends, turn_at, next, runs_out}
use Rattle.sd_parse.proofs.attribute.more_data.Goals as goal

pub loop-turn-init : goal.loop-turn-init
unfolding more_data
loop-turn-init c = starts (is s.Comma) (next_datum c.args.limit) keep tt c.args.tokens.now c.turns-turn-end.result c.turns-turn-end.ensures

pub returns-then-not-has_next : goal.returns-then-not-has_next
returns-then-not-has_next c =
    let e : (is s.Comma) (class_of (ahead c.loop-turn.tokens)) ≡ false = ap (λ x. same_class x s.Comma) (sym c.peek.ensures) ∙ sym c.same_class-has_next.ensures ∙ c.if-not-has_next.true in
    ends (is s.Comma) (next_datum c.args.limit) keep (more_data c.args.limit c.args.tokens.now) c.turns-turn-end.result c.loop-turn._turn tt c.loop-turn.tokens c.loop-turn.invariant c.loop-turn-test.true e

pub returns-in_err-next_datum : goal.returns-in_err-next_datum
returns-in_err-next_datum c =
    let e : (is s.Comma) (class_of (ahead c.loop-turn.tokens)) ≡ true = ap (λ x. same_class x s.Comma) (sym c.peek.ensures) ∙ sym c.same_class-has_next.ensures ∙ c.if-not-has_next.false in
    let turn = turn_at (is s.Comma) (next_datum c.args.limit) keep (more_data c.args.limit c.args.tokens.now) c.turns-turn-end.result c.loop-turn._turn tt c.loop-turn.tokens c.loop-turn.invariant c.loop-turn-test.true e in
    rw turn (first_of (search rules, grind (arith, common_steps)))

pub loop-turn-preserved : goal.loop-turn-preserved
loop-turn-preserved c =
    let e : (is s.Comma) (class_of (ahead c.loop-turn.tokens)) ≡ true = ap (λ x. same_class x s.Comma) (sym c.peek.ensures) ∙ sym c.same_class-has_next.ensures ∙ c.if-not-has_next.false in
    next (is s.Comma) (next_datum c.args.limit) keep (more_data c.args.limit c.args.tokens.now) c.turns-turn-end.result c.loop-turn._turn tt c.loop-turn.tokens c.loop-turn.invariant
    tt c.next_datum.new.tokens tt c.loop-turn-test.true e c.in_ok-next_datum.ensures refl

pub returns : goal.returns
returns c = runs_out (is s.Comma) (next_datum c.args.limit) keep (more_data c.args.limit c.args.tokens.now) c.turns-turn-end.result c.loop-turn._turn tt c.loop-turn.tokens c.loop-turn.invariant c.loop-turn-test.false
