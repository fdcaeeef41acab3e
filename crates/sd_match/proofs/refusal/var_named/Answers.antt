use Rattle.std.proofs.Common.{◌∙◌, sym, true}
use Rattle.sd_base.specs.declared.Var.{Var}
use Rattle.sd_match.proofs.PlaceLemmas.{place_none}
use Rattle.sd_match.proofs.KeptLemmas.{kept_is, place_kept, named_kept}
use Rattle.sd_match.proofs.refusal.var_named.Goals as goal

pub returns-in-None : goal.returns-in-None
returns-in-None c = sym (place_none (λ (v : Var). v.name) 0 c.args.vars.now c.args.name.now (sym (c.requires c.args.name.now) ∙ (sym c.find.ensures ∙ c.in-None.is)))

pub returns-in-Some : goal.returns-in-Some
returns-in-Some c =
    let found = sym (place_kept (λ (v : Var). v.name) 0 c.args.vars.now c.args.name.now) ∙ (sym (c.requires c.args.name.now) ∙ (sym c.find.ensures ∙ c.in-Some.is)) in
    c.at.ensures ∙ kept_is (λ (_ : Var). true) (λ (v : Var). v.name) c.args.vars.now c.args.name.now c.in-Some.place found ∙ sym (named_kept (λ (v : Var). v.name) c.args.vars.now c.args.name.now)
