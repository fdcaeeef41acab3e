use Rattle.std.proofs.Common.{◌≡◌, ◌+◌, ◌++◌, drop, length}
use Rattle.std.specs.Prelude.{map}
use Rattle.sd_term.specs.Bank.{tree_at}
use Rattle.sd_term.specs.Build.{Extends}
use Rattle.sd_vcgen.specs.Body.{symbols}
use Rattle.sd_vcgen.specs.Numbers.{DenoteAll}
use Rattle.sd_vcgen.proofs.call.put_symbols.Given as goal

abbrev pub invariant-loop-sort : goal.invariant-loop-sort
invariant-loop-sort l = record {
  terms : DenoteAll l.bank l.terms (map (tree_at l.bank) l.terms);
  so_far : map (tree_at l.bank) l.terms ++ symbols l.next (drop l.sort-index l.sorts) ≡ symbols l.initial.next l.sorts;
  next : l.next ≡ l.initial.next + l.sort-index;
  kept : Extends l.initial.bank l.bank;
}
