use Rattle.std.proofs.Common.{◌∙◌, ap, drop, ◌+◌, arith}
use Rattle.sd_base.specs.declared.Sort.{Sort}
use Rattle.sd_term.specs.declared.node.Head.TheVariants as head
use Rattle.sd_term.specs.Tree.{leaf}
use Rattle.sd_vcgen.specs.Body.{symbols}
use Rattle.sd_vcgen.proofs.Numbers.{extends_then}
use Rattle.sd_vcgen.proofs.Loops.{more_within, more_trees}
use Rattle.sd_vcgen.proofs.Calls.{symbols_split}
use Rattle.sd_vcgen.proofs.call.put_symbols.Goals as goal

pub loop-sort-preserved : goal.loop-sort-preserved
loop-sort-preserved c =
    let a = c.loop-sort.bank in
    let b = c.put_symbol.new.bank in
    let i = c.loop-sort.invariant in
    let symbol = c.in_ok-symbol.ensures in
    let pushed = c.in_ok-push.ensures.ok in
    let index = c.loop-sort.sort-index in
    let sort = c.sort-item.result in
    record {
      terms = more_within a b c.loop-sort.terms c.push.new.self c.in_ok-symbol.symbol i.terms.within symbol.kept pushed symbol.symbol.within;
      so_far = more_trees a b c.loop-sort.terms c.push.new.self c.in_ok-symbol.symbol (leaf (head.Sym c.loop-sort.next sort)) (symbols c.put_symbol.new.next (drop (index + 1) c.args.sorts.now)) _ _ i.terms.within symbol.kept pushed
          (symbol.symbol.tree ∙ ap (λ (s : Sort). leaf (head.Sym c.loop-sort.next s)) c.in_ok-clone_of.ensures)
          (symbols_split c.loop-sort.next c.put_symbol.new.next index c.args.sorts.now sort c.loop-sort-test.true c.sort-item.is symbol.next)
          i.so_far;
      next = omega (arith, symbol.next, i.next);
      kept = extends_then c.args.bank.now a b i.kept symbol.kept;
    }
