use Rattle.std.proofs.Common.{◌≡◌, ◌∙◌, ℕ, Bool, true, false, List, [], sym, ap}
use Rattle.std.specs.Prelude.{map}
use Rattle.sd_term.specs.Tree.{tree}
use Rattle.sd_term.specs.Bank.{tree_at}
use Rattle.sd_product.specs.Query.{is_constant}
use Rattle.sd_product.proofs.Constants.{parts_constant, map_none}
use Rattle.sd_product.proofs.apart.is_node_of.Goals as goal

pub returns-then-not-is_empty : goal.returns-then-not-is_empty
returns-then-not-is_empty c =
    let node = c.args.node.now in
    let filled = λ (e : ◌≡◌ {A = List ℕ} node.parts []). (let bad : ◌≡◌ {A = Bool} true false = sym (c.is_empty.ensures.1 e) ∙ c.if-not-is_empty.true in let none : ⊥ = cc in none) in
    λ bank. sym (parts_constant c.args.constant.now node.head (map (tree_at bank) node.parts) (map_none (tree_at bank) node.parts filled))

pub returns : goal.returns
returns c =
    let node = c.args.node.now in
    let empty = c.is_empty.ensures.0 c.if-not-is_empty.false in
    λ bank. c.is_head_of.ensures ∙ sym (ap (λ (ps : List ℕ). is_constant c.args.constant.now (tree node.head (map (tree_at bank) ps))) empty)
