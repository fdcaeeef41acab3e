use Rattle.std.proofs.Common.{ℕ, ◌+◌, ◌<◌, List, [], ◌∷◌, length, drop, refl, sym, ap, subst}
use Rattle.std.specs.Prelude.{if◌then◌else◌}
use Rattle.std.proofs.Math.ListN.{drop_of_length-le}
use Rattle.sd_base.specs.declared.Var.{Var}
use Rattle.sd_product.specs.Query.{any_constant, constant_term}
use Rattle.sd_product.specs.Unique.{present}
use Rattle.sd_product.proofs.Numbers.{Adding, adding_begins, adding_more}
use Rattle.sd_product.proofs.FactLemmas.{ends_alone, all_none}
use Rattle.sd_product.proofs.Constants.{present_split}
use Rattle.sd_product.proofs.apart.put_present.Goals as goal

pub loop-constant-init : goal.loop-constant-init
loop-constant-init c =
    let a = c.args.bank.now in
    let all = present c.args.terms.now c.args.constants.now in
    subst (λ (xs : List ℕ). Adding a [] a xs all all) (sym c.new-found.ensures) (adding_begins a [] all all (all_none (λ id. id < length a)) refl)

pub loop-constant-preserved : goal.loop-constant-preserved
loop-constant-preserved c =
    let a = c.args.bank.now in
    let b = c.loop-constant.bank in
    let d = c.put_if_present.new.bank in
    let i = c.loop-constant.constant-index in
    let terms = c.args.terms.now in
    let all = c.args.constants.now in
    let x : Var = c.constant-item.result in
    adding_more a [] b c.loop-constant.found d c.put_if_present.new.found (if any_constant x terms then constant_term x ∷ [] else []) (present terms (drop i all)) (present terms (drop (i + 1) all)) (present terms all) c.loop-constant.invariant c.in_ok-put_if_present.ensures
    (present_split terms all i x c.loop-constant-test.true c.constant-item.is)

pub returns-clause-terms : goal.returns-clause-terms
returns-clause-terms c =
    ends_alone c.args.bank.now c.loop-constant.bank c.loop-constant.found _ _ c.loop-constant.invariant (ap (λ (l : List Var). present c.args.terms.now l) (drop_of_length-le c.args.constants.now c.loop-constant-test.false))
