use Rattle.std.proofs.Common.{◌≡◌, ◌∙◌, ℕ, ◌+◌, ◌<◌, ◌≤◌, Bool, true, false, length, drop, sym, ap, arith}
use Rattle.std.specs.Prelude.{◌||◌}
use Rattle.std.proofs.Math.ListN.{drop_of_length-le}
use Rattle.sd_term.specs.Heads.{True}
use Rattle.sd_term.specs.Tree.{leaf}
use Rattle.sd_term.specs.Bank.{tree_at}
use Rattle.sd_product.specs.Query.{is_constant, any_constant}
use Rattle.sd_product.proofs.Constants.{any_split}
use Rattle.sd_product.proofs.apart.occurs.Goals as goal

pub returns-then-is_constant : goal.returns-then-is_constant
returns-then-is_constant c =
    let x = c.args.constant.now in
    let ts = c.args.terms.now in
    let i = c.loop-i.i in
    let size = c.len-i-end.ensures.value in
    let lt : i < length ts = omega (arith, c.loop-i-test.true, size) in
    let here : is_constant x (tree_at ts i) ≡ true = sym (c.is_constant.ensures ∙ ap (λ (n : ℕ). is_constant x (tree_at ts n)) c.new.ensures) ∙ c.if-is_constant.true in
    sym (sym c.loop-i.invariant ∙ any_split x ts i (leaf True) lt ∙ ap (λ (b : Bool). b || any_constant x (drop (i + 1) ts)) here)

pub loop-i-preserved : goal.loop-i-preserved
loop-i-preserved c =
    let x = c.args.constant.now in
    let ts = c.args.terms.now in
    let i = c.loop-i.i in
    let size = c.len-i-end.ensures.value in
    let lt : i < length ts = omega (arith, c.loop-i-test.true, size) in
    let here : is_constant x (tree_at ts i) ≡ false = sym (c.is_constant.ensures ∙ ap (λ (n : ℕ). is_constant x (tree_at ts n)) c.new.ensures) ∙ c.if-is_constant.false in
    sym (any_split x ts i (leaf True) lt ∙ ap (λ (b : Bool). b || any_constant x (drop (i + 1) ts)) here) ∙ c.loop-i.invariant

pub returns : goal.returns
returns c =
    let ts = c.args.terms.now in
    let size = c.len-i-end.ensures.value in
    let le : length ts ≤ c.loop-i.i = omega (arith, c.loop-i-test.false, size) in
    sym (sym c.loop-i.invariant ∙ ap (any_constant c.args.constant.now) (drop_of_length-le ts le))
