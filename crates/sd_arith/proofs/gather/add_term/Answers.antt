use Rattle.std.proofs.Common.{ap, sym, ◌∙◌, refl, OnOk, Result, Ok, Err}
use Rattle.sd_term.specs.Bank.{tree_at}
use Rattle.sd_forms.specs.FactRows.{rows_of}
use Rattle.sd_arith.specs.Places.{place_in}
use Rattle.sd_arith.proofs.Placing.{table-place, table-none}
use Rattle.sd_arith.proofs.Giving.{other-rows, gathered-none}
use Rattle.sd_arith.proofs.gather.add_term.Goals as goal

on-ok : {T E : Type 0} (r : Result T E) (P Q : Type 0) → (P → Q) → OnOk r P → OnOk r Q
on-ok (Ok x) P Q f p = f p
on-ok (Err e) P Q f p = p

pub returns-in-Some : goal.returns-in-Some
returns-in-Some c =
    on-ok c.add_rows.result _ _
    (λ f trail h k. f trail
    (table-place c.args.terms.now trail c.args.places.now c.args.term.id c.args.term.value h c.requires.id c.in-Some.place
    (ap (place_in c.args.places.now) (sym c.number.ensures) ∙ c.in-Some.is) k))
    c.add_rows.ensures

pub returns-in-None : goal.returns-in-None
returns-in-None c = λ trail h k rows g.
    gathered-none c.args.terms.now trail rows (rows_of c.args.terms.now (tree_at c.args.terms.now c.args.term.id) c.args.term.value) c.args.gathered.now c.args.gathered.now
    (other-rows c.args.terms.now (tree_at c.args.terms.now c.args.term.id) c.args.term.value
    (table-none c.args.terms.now trail c.args.places.now c.args.term.id c.args.term.value h c.requires.id
    (ap (place_in c.args.places.now) (sym c.number.ensures) ∙ c.in-None.is) k))
    refl g
