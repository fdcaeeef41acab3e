use Rattle.std.proofs.Common.{Bool, sym, ◌∙◌, subst}
use Rattle.sd_term.specs.Bank.{tree_at}
use Rattle.sd_arith.specs.Places.{IsPlace}
use Rattle.sd_arith.specs.Gathered.{AddsRows}
use Rattle.sd_arith.proofs.Giving.{order-added, equality-added}
use Rattle.sd_arith.proofs.gather.add_rows.Goals as goal

pub returns-then-is_le : goal.returns-then-is_le
returns-then-is_le c = λ trail.
    order-added c.args.terms.now (tree_at c.args.terms.now c.args.term.id) c.args.place trail c.args.term.value c.in_ok-row.row c.args.gathered.now c.add.new.self (sym c.is_le.ensures ∙ c.if-is_le.true)
    c.in_ok-row.ensures.row c.in_ok-row.ensures.proper c.in_ok-add.ensures

pub returns-in_ok-add-3 : goal.returns-in_ok-add-3
returns-in_ok-add-3 c = λ trail.
    let t = tree_at c.args.terms.now c.args.term.id in
    subst (λ (b : Bool). IsPlace trail t b c.args.place → AddsRows c.args.terms.now trail t b c.args.gathered.now c.add-then-is_int_eq-2.new.self) (sym c.if-value.true)
    (equality-added c.args.terms.now t c.args.place trail c.in_ok-below.below c.in_ok-back.back c.args.gathered.now c.add-then-is_int_eq.new.self c.add-then-is_int_eq-2.new.self
    (sym c.is_le.ensures ∙ c.if-is_le.false) (sym c.is_int_eq.ensures ∙ c.if-is_int_eq.true) c.in_ok-below.ensures.row c.in_ok-back.ensures.row c.in_ok-below.ensures.proper c.in_ok-back.ensures.proper
    c.in_ok-add-2.ensures c.in_ok-add-3.ensures)
