use Rattle.std.proofs.Common.{◌≡◌, ◌∙◌, Bool, true, false, [], ◌∷◌, sym, ap, subst}
use Rattle.std.specs.Prelude.{Some, if◌then◌else◌}
use Rattle.std.proofs.lemmas.Option.{get_or_from_slice_get}
use Rattle.sd_vcgen.specs.Numbers.{site_at}
use Rattle.sd_product.specs.Query.{is_live, implication}
use Rattle.sd_product.specs.Numbers.{Adds}
use Rattle.sd_product.proofs.Numbers.{adds_one, adds_none}
use Rattle.sd_product.proofs.calls.put_if_live.Goals as goal

pub returns-in_ok-push : goal.returns-in_ok-push
returns-in_ok-push c =
    let a = c.args.bank.now in
    let b = c.put_implication.new.bank in
    let t = implication (record { pair = c.args.calls.now.pair.now; candidate = c.args.candidate.now }) (site_at a c.args.calls.now.old.now) (site_at a c.args.calls.now.new.now) in
    let live : is_live c.args.table.now c.args.number ≡ true = get_or_from_slice_get c.args.table.now c.args.number true false (c.get.ensures ∙ ap Some c.if-get.true) in
    subst (λ (r : Bool). Adds a c.args.facts.now b c.push.new.self (if r then t ∷ [] else [])) (sym live) (adds_one a c.args.facts.now b c.push.new.self c.in_ok-id.id t c.requires.facts c.in_ok-id.ensures.kept c.in_ok-id.ensures.term c.in_ok-push.ensures.ok)

pub returns-else-get : goal.returns-else-get
returns-else-get c =
    let a = c.args.bank.now in
    let t = implication (record { pair = c.args.calls.now.pair.now; candidate = c.args.candidate.now }) (site_at a c.args.calls.now.old.now) (site_at a c.args.calls.now.new.now) in
    let dead : is_live c.args.table.now c.args.number ≡ false = get_or_from_slice_get c.args.table.now c.args.number false false (c.get.ensures ∙ ap Some c.if-get.false) in
    subst (λ (r : Bool). Adds a c.args.facts.now a c.args.facts.now (if r then t ∷ [] else [])) (sym dead) (adds_none a c.args.facts.now c.requires.facts)
