use Rattle.std.proofs.Common.{◌∙◌, ap, refl, List, ◌++◌}
use Rattle.sd_base.specs.declared.Var.{Var}
use Rattle.sd_meaning.specs.Run.{kinds_of}
use Rattle.sd_extract.specs.Extract.{plus, counts_each}
use Rattle.sd_extract.specs.Counted.{counts_in, has_return_among}
use Rattle.sd_extract.specs.Numbered.{program_of}
use Rattle.sd_extract.proofs.CodeCounts.{counts-If, counts-While, plus_next}
use Rattle.sd_extract.proofs.CodeHidden.{args-If, lefts-If, lefts-While}
use Rattle.sd_extract.proofs.hidden.+hidden.Goals as goal

pub push_hidden_of-returns-in_ok-next-in-If-2-clause-args :
    goal.push_hidden_of-returns-in_ok-next-in-If-2-clause-args
push_hidden_of-returns-in_ok-next-in-If-2-clause-args t c =
    args-If (program_of c.args.callees.now) (counts_in c.args.at) (counts_in c.in_ok-next-in-If.next) c.args.kind.now c.in-If.field-0 c.in-If.yes c.in-If.no _ _ c.args.args.now c.push_all_hidden.new.args c.push_all_hidden-in-If.new.args
    c.in-If.is c.as_slice.ensures c.as_slice-in-If.ensures c.in_ok-next-in-If.ensures.next c.in_ok-next-in-If.ensures.args c.in_ok-next-in-If-2.ensures.args

pub push_hidden_of-returns-in_ok-next-in-If-2-clause-lefts :
    goal.push_hidden_of-returns-in_ok-next-in-If-2-clause-lefts
push_hidden_of-returns-in_ok-next-in-If-2-clause-lefts t c =
    lefts-If (counts_in c.args.at) (counts_in c.in_ok-next-in-If.next) c.args.kind.now c.in-If.field-0 c.in-If.yes c.in-If.no _ _ c.args.lefts.now c.push_all_hidden.new.lefts c.push_all_hidden-in-If.new.lefts
    c.in-If.is c.as_slice.ensures c.as_slice-in-If.ensures c.in_ok-next-in-If.ensures.next c.in_ok-next-in-If.ensures.lefts c.in_ok-next-in-If-2.ensures.lefts

pub push_hidden_of-returns-in_ok-next-in-If-2-clause-next :
    goal.push_hidden_of-returns-in_ok-next-in-If-2-clause-next
push_hidden_of-returns-in_ok-next-in-If-2-clause-next t c =
    let first = counts_each (kinds_of c.as_slice.result.now) in
    let second = counts_each (kinds_of c.as_slice-in-If.result.now) in
    plus_next (counts_in c.args.at) first second _ _ _ c.in_ok-next-in-If.ensures.next c.in_ok-next-in-If-2.ensures.next
    (counts-If c.args.kind.now c.in-If.field-0 c.in-If.yes c.in-If.no _ _ first second c.in-If.is c.as_slice.ensures c.as_slice-in-If.ensures refl refl)

pub push_hidden_of-returns-in_ok-next-in-While-clause-lefts :
    goal.push_hidden_of-returns-in_ok-next-in-While-clause-lefts
push_hidden_of-returns-in_ok-next-in-While-clause-lefts t c =
    c.in_ok-next-in-While.ensures.lefts ∙ ap (λ (vs : List Var). c.args.lefts.now ++ vs) (lefts-While (counts_in c.args.at) c.args.kind.now c.in-While.field-0 c.in-While.field-1 c.in-While.body _ c.in-While.is c.as_slice-in-While.ensures)

pub push_hidden_of-returns-in_ok-next-in-While-clause-next :
    goal.push_hidden_of-returns-in_ok-next-in-While-clause-next
push_hidden_of-returns-in_ok-next-in-While-clause-next t c =
    let body = kinds_of c.as_slice-in-While.result.now in
    c.in_ok-next-in-While.ensures.next
    ∙ ap (plus (counts_in c.args.at)) (counts-While c.args.kind.now c.in-While.field-0 c.in-While.field-1 c.in-While.body _ (has_return_among body) (counts_each body) c.in-While.is c.as_slice-in-While.ensures refl refl)
