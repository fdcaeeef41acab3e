use Rattle.std.proofs.Common.{◌∙◌, ◌≡◌, ◌<◌, ap, subst, sym, length, List, ℕ, [], ◌∷◌, ◌++◌}
use Rattle.std.specs.Prelude.{All, map}
use Rattle.std.proofs.lemmas.List.Elements.{All-push}
use Rattle.sd_term.specs.Bank.{tree_at}
use Rattle.sd_term.specs.Numbering.{numbered}
use Rattle.sd_product.proofs.FactLemmas.{uniques_made}
use Rattle.sd_product.proofs.apart.put_uniques.Goals as goal

pub number_terms-requires : goal.number_terms-requires
number_terms-requires c =
    let a = c.args.bank.now in
    let whole : c.push.new.self ≡ c.args.facts.now ++ c.args.claim ∷ [] = c.in_ok-push.ensures.ok ∙ ap (λ (l : List ℕ). l ++ c.args.claim ∷ []) (c.in_ok-whole.ensures ∙ c.as_slice.ensures) in
    subst (All (λ id. id < length a)) (sym (c.as_slice-2.ensures ∙ whole)) (All-push (λ id. id < length a) c.args.facts.now c.args.claim c.requires.facts c.requires.claim)

pub returns : goal.returns
returns c =
    let a = c.args.bank.now in
    let whole : c.push.new.self ≡ c.args.facts.now ++ c.args.claim ∷ [] = c.in_ok-push.ensures.ok ∙ ap (λ (l : List ℕ). l ++ c.args.claim ∷ []) (c.in_ok-whole.ensures ∙ c.as_slice.ensures) in
    let terms : c.in_ok-numbered.numbered.terms ≡ numbered (map (tree_at a) c.push.new.self) = c.in_ok-numbered.ensures.terms ∙ ap (λ (l : List ℕ). numbered (map (tree_at a) l)) c.as_slice-2.ensures in
    uniques_made a c.args.facts.now c.args.claim c.push.new.self c.in_ok-numbered.numbered.terms c.put_apart.new.bank c.put_apart.new.facts c.put_apart-2.new.bank c.put_apart-2.new.facts c.args.olds.now c.args.news.now whole terms c.in_ok-put_apart.ensures c.in_ok-put_apart-2.ensures
