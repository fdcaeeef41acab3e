use Rattle.std.proofs.Common.{◌∙◌, subst, sym, ℕ, List}
use Rattle.std.specs.Prelude.{map}
use Rattle.sd_term.specs.Bank.{tree_at}
use Rattle.sd_vcgen.specs.Numbers.{DenoteAll}
use Rattle.sd_vcgen.proofs.Numbers.{extends_self}
use Rattle.sd_product.proofs.FactLemmas.{adds_all}
use Rattle.sd_product.proofs.facts.add_assumptions.Goals as goal

pub returns : goal.returns
returns c =
    let a = c.args.bank.now in
    let same = c.in_ok-assumes.ensures ∙ c.as_slice.ensures in
    adds_all a c.args.facts.now a c.in_ok-assumes.assumes c.append.new.self _ c.requires.facts (extends_self a)
    (subst (λ (l : List ℕ). DenoteAll a l (map (tree_at a) c.args.side.now.body.assumes)) (sym same) c.requires.side.assumes) c.in_ok-append.ensures
