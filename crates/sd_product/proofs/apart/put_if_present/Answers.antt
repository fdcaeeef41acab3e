use Rattle.std.proofs.Common.{◌∙◌, Bool, [], ◌∷◌, sym, subst}
use Rattle.std.specs.Prelude.{if◌then◌else◌}
use Rattle.sd_product.specs.Query.{constant_term}
use Rattle.sd_product.specs.Numbers.{Adds}
use Rattle.sd_product.proofs.Numbers.{adds_one, adds_none}
use Rattle.sd_product.proofs.apart.put_if_present.Goals as goal

pub returns-in_ok-push : goal.returns-in_ok-push
returns-in_ok-push c =
    let a = c.args.bank.now in
    let b = c.put_constant.new.bank in
    let t = constant_term c.args.constant.now in
    subst (λ (r : Bool). Adds a c.args.found.now b c.push.new.self (if r then t ∷ [] else [])) (sym (sym c.occurs.ensures ∙ c.if-occurs.true)) (adds_one a c.args.found.now b c.push.new.self c.in_ok-id.id t c.requires c.in_ok-id.ensures.kept c.in_ok-id.ensures.term c.in_ok-push.ensures.ok)

pub returns-else-occurs : goal.returns-else-occurs
returns-else-occurs c =
    let a = c.args.bank.now in
    let t = constant_term c.args.constant.now in
    subst (λ (r : Bool). Adds a c.args.found.now a c.args.found.now (if r then t ∷ [] else [])) (sym (sym c.occurs.ensures ∙ c.if-occurs.false)) (adds_none a c.args.found.now c.requires)
