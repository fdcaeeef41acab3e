use Rattle.std.proofs.Common.{◌∙◌, sym}
use Rattle.sd_match.proofs.KeptLemmas.{kept_none, kept_is}
use Rattle.sd_match.proofs.RefusalLemmas.{is_as, function_name, function_kept, declared_kept}
use Rattle.sd_match.proofs.refusal.function_named.Goals as goal

pub returns-in-None : goal.returns-in-None
returns-in-None c =
    let k = c.args.constant in
    let gs = c.args.functions.now in
    let f = c.args.name.now in
    let found = sym (function_kept k 0 gs f) ∙ (sym (c.requires f) ∙ (sym c.find.ensures ∙ c.in-None.is)) in
    sym (declared_kept k gs f ∙ kept_none (is_as k) function_name 0 gs f found)

pub returns-in-Some : goal.returns-in-Some
returns-in-Some c =
    let k = c.args.constant in
    let gs = c.args.functions.now in
    let f = c.args.name.now in
    let found = sym (function_kept k 0 gs f) ∙ (sym (c.requires f) ∙ (sym c.find.ensures ∙ c.in-Some.is)) in
    c.at.ensures ∙ kept_is (is_as k) function_name gs f c.in-Some.place found ∙ sym (declared_kept k gs f)
