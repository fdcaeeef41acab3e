use Rattle.std.proofs.Common.{◌≡◌, ◌++◌, drop}
use Rattle.std.specs.Prelude.{map}
use Rattle.sd_term.specs.Bank.{tree_at}
use Rattle.sd_term.specs.Build.{Extends}
use Rattle.sd_vcgen.specs.Body.{term_in}
use Rattle.sd_vcgen.specs.Numbers.{DenoteAll, AreWithin, store_of}
use Rattle.sd_vcgen.proofs.expression.+expression.Given as goal

abbrev pub invariant-put_expressions-loop-expression : goal.invariant-put_expressions-loop-expression
invariant-put_expressions-loop-expression l = record {
  terms : DenoteAll l.bank l.terms (map (tree_at l.bank) l.terms);
  spots : AreWithin l.bank l.spots;
  kept : Extends l.initial.bank l.bank;
  so_far : map (tree_at l.bank) l.terms ++ map (term_in l.functions (store_of l.initial.bank l.initial.spots)) (drop l.expression-index l.expressions) ≡ map (term_in l.functions (store_of l.initial.bank l.initial.spots)) l.expressions;
}
