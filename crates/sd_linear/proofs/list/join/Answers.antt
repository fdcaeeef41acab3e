use Rattle.std.proofs.Common.{rules, ◌≡◌, sym, ◌∙◌, ap, Some, None, true, false, get_or, subst, ◌++◌, ◌∷◌, []}
use Rattle.std.specs.List.{position}
use Rattle.std.proofs.lemmas.List.Quantifiers.{position-Some}
use Rattle.std.specs.Prelude.{int_lt}
use Rattle.sd_linear.specs.DerivedRows.{rows_of, default_row, AreDerivedRows}
use Rattle.sd_linear.proofs.Lists.{fits_in, joined-less, joined-not_less, joined-last, AreDerivedRows-append, AreDerivedRows-set}
use Rattle.sd_linear.proofs.list.join.Goals as goal

pub returns-then-is_less-clause-rows : goal.returns-then-is_less-clause-rows
returns-then-is_less-clause-rows c =
    let p : position (fits_in c.args.derived) c.args.list.now ≡ Some c.in-Some.place = search rules in
    let b : int_lt c.args.derived.row.bound (get_or c.args.list.now c.in-Some.place default_row).row.bound ≡ true = search rules in
    ap rows_of c.set.ensures ∙ sym (joined-less c.args.derived c.args.list.now c.in-Some.place p b)

pub returns-then-is_less-clause-derived : goal.returns-then-is_less-clause-derived
returns-then-is_less-clause-derived c = λ made h k.
    subst (AreDerivedRows made) (sym c.set.ensures) (AreDerivedRows-set made c.args.list.now c.in-Some.place c.args.derived h k)

pub returns-else-is_less-clause-rows : goal.returns-else-is_less-clause-rows
returns-else-is_less-clause-rows c =
    let p : position (fits_in c.args.derived) c.args.list.now ≡ Some c.in-Some.place = search rules in
    let b : int_lt c.args.derived.row.bound (get_or c.args.list.now c.in-Some.place default_row).row.bound ≡ false = search rules in
    sym (joined-not_less c.args.derived c.args.list.now c.in-Some.place p b)

pub returns-in_ok-push-in-None-clause-rows : goal.returns-in_ok-push-in-None-clause-rows
returns-in_ok-push-in-None-clause-rows c =
    let p : position (fits_in c.args.derived) c.args.list.now ≡ None = search rules in
    let e : c.push.new.self ≡ c.args.list.now ++ c.args.derived ∷ [] = search rules in
    ap rows_of e ∙ sym (joined-last c.args.derived c.args.list.now p)

pub returns-in_ok-push-in-None-clause-derived : goal.returns-in_ok-push-in-None-clause-derived
returns-in_ok-push-in-None-clause-derived c = λ made h k.
    let e : c.push.new.self ≡ c.args.list.now ++ c.args.derived ∷ [] = search rules in
    subst (AreDerivedRows made) (sym e) (AreDerivedRows-append made c.args.list.now (c.args.derived ∷ []) k (h, tt))

pub set-requires-clause-same : goal.set-requires-clause-same
set-requires-clause-same c =
    let p : position (fits_in c.args.derived) c.args.list.now ≡ Some c.in-Some.place = search rules in
    (position-Some (fits_in c.args.derived) c.args.list.now c.in-Some.place default_row p).1
