use Rattle.std.proofs.Common.{◌∙◌, sym, ap, get_or, [], ◌∷◌, ◌++◌}
use Rattle.std.specs.Prelude.{None}
use Rattle.sd_match.specs.Pairs.{partner, pair_by, pair_at}
use Rattle.sd_match.proofs.PairLemmas.{partner-is, none-added}
use Rattle.sd_match.proofs.pairs.put_pair.Goals as goal

pub returns-in-None : goal.returns-in-None
returns-in-None c =
    let P = c.args.old.now in
    let Q = c.args.new.now in
    let p = c.args.p.proc.now in
    let i = c.args.p.place in
    let t = c.in-None.ensures ∙ ap (λ ts. get_or ts i None) c.deref.ensures.value ∙ partner-is P Q c.args.tables.now i p c.requires.tables c.requires.proc in
    none-added c.args.pairs.now (pair_by P Q i p (partner P Q p)) (ap (pair_by P Q i p) (sym t))

pub returns-in-None-get : goal.returns-in-None-get
returns-in-None-get c =
    let P = c.args.old.now in
    let Q = c.args.new.now in
    let p = c.args.p.proc.now in
    let i = c.args.p.place in
    let t = c.in-Some.ensures ∙ ap (λ ts. get_or ts i None) c.deref.ensures.value ∙ partner-is P Q c.args.tables.now i p c.requires.tables c.requires.proc in
    none-added c.args.pairs.now (pair_by P Q i p (partner P Q p)) (ap (pair_by P Q i p) (sym t) ∙ ap (pair_at P Q i c.in-Some.partner p) (sym c.in-None-get.ensures.value))

pub returns-in_ok-push-in-Some-get : goal.returns-in_ok-push-in-Some-get
returns-in_ok-push-in-Some-get c =
    let P = c.args.old.now in
    let Q = c.args.new.now in
    let p = c.args.p.proc.now in
    let i = c.args.p.place in
    let t = c.in-Some.ensures ∙ ap (λ ts. get_or ts i None) c.deref.ensures.value ∙ partner-is P Q c.args.tables.now i p c.requires.tables c.requires.proc in
    let made = ap (pair_by P Q i p) (sym t) ∙ ap (pair_at P Q i c.in-Some.partner p) (sym c.in-Some-get.ensures.value) in
    c.in_ok-push-in-Some-get.ensures.ok ∙ ap (λ l. c.args.pairs.now ++ l) (ap (λ y. y ∷ []) c.in_ok-pair_of-in-Some-get.ensures ∙ sym made)
