use Rattle.std.proofs.Common.{◌≡◌, sym, ap, ◌∙◌, rules, tests}
use Rattle.std.specs.Prelude.{not, ◌&&◌, nat_lt}
use Rattle.std.specs.List.{list_all}
use Rattle.std.proofs.lemmas.Iterator.{YieldsList-from_slice}
use Rattle.std.proofs.lemmas.Iterator.Search.{all_from_yields_List}
use Rattle.sd_runs.specs.Calls.{callees_of, any_fail}
use Rattle.sd_runs.proofs.infallible.may_be_infallible.Goals as goal

pub returns : goal.returns
returns c =
    let all : c.all.result ≡ list_all (λ q. nat_lt q c.args.count) c.deref.result.now = all_from_yields_List (λ q. nat_lt q c.args.count) _ _ c.all.result c.all.ensures.ran (YieldsList-from_slice c.deref.result.now cc) (λ x b q k. search (rules, tests)) in
    let body = c.as_slice-body.ensures in
    all
    ∙ ap (list_all (λ q. nat_lt q c.args.count)) (c.deref.ensures.value ∙ c.in_ok-callees.ensures ∙ ap callees_of body)
    ∙ ap (λ b. not b && list_all (λ q. nat_lt q c.args.count) (callees_of c.args.procedure.now.body)) (sym (sym (c.any_fail.ensures ∙ ap any_fail body) ∙ c.if-any_fail.false))
