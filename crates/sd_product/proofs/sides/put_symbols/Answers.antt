use Rattle.std.proofs.Common.{ℕ, ◌+◌, ◌<◌, List, [], length, drop, sym, ap, subst}
use Rattle.std.proofs.Math.ListN.{drop_of_length-le}
use Rattle.sd_base.specs.declared.Var.{Var}
use Rattle.sd_core.specs.Formed.{sorts_of}
use Rattle.sd_term.specs.declared.node.Head.TheVariants.{Sym}
use Rattle.sd_term.specs.Tree.{leaf}
use Rattle.sd_vcgen.specs.Body.{symbols}
use Rattle.sd_product.proofs.Numbers.{Adding, adding_begins, adding_one}
use Rattle.sd_product.proofs.SideLemmas.{symbols_begin, symbols_split}
use Rattle.sd_product.proofs.FactLemmas.{ends_alone, all_none}
use Rattle.sd_product.proofs.sides.put_symbols.Goals as goal

pub loop-i-init : goal.loop-i-init
loop-i-init c =
    let a = c.args.bank.now in
    let ss = sorts_of c.args.variables.now in
    subst (λ (xs : List ℕ). Adding a [] a xs (symbols (c.args.first + 0) ss) (symbols c.args.first ss)) (sym c.new-ids.ensures)
    (adding_begins a [] (symbols (c.args.first + 0) ss) (symbols c.args.first ss) (all_none (λ id. id < length a)) (symbols_begin c.args.first ss))

pub loop-i-preserved : goal.loop-i-preserved
loop-i-preserved c =
    let a = c.args.bank.now in
    let b = c.loop-i.bank in
    let d = c.put_tree.new.self in
    let i = c.loop-i.i in
    let first = c.args.first in
    let all = c.args.variables.now in
    let id = c.in_ok-id.ensures in
    let x : Var = c.index-variables-i.result in
    adding_one a [] b c.loop-i.ids d c.push.new.self c.in_ok-id.id (leaf (Sym (first + i) c.in_ok-sort.sort)) (symbols (first + i) (sorts_of (drop i all))) (symbols (first + (i + 1)) (sorts_of (drop (i + 1) all))) (symbols first (sorts_of all)) c.loop-i.invariant id.kept
    (record { within = id.number; tree = id.tree }) c.in_ok-push.ensures.ok
    (symbols_split first i all x c.in_ok-sort.sort c.loop-i-test.true c.index-variables-i.is c.in_ok-sort.ensures)

pub returns-clause-symbols : goal.returns-clause-symbols
returns-clause-symbols c =
    ends_alone c.args.bank.now c.loop-i.bank c.loop-i.ids _ _ c.loop-i.invariant (ap (λ (l : List Var). symbols (c.args.first + c.loop-i.i) (sorts_of l)) (drop_of_length-le c.args.variables.now c.loop-i-test.false))
