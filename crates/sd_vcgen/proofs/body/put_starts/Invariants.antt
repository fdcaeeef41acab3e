use Rattle.std.proofs.Common.{◌≡◌, ◌++◌, drop}
use Rattle.std.specs.Prelude.{map}
use Rattle.sd_term.specs.declared.node.Head.TheVariants as head
use Rattle.sd_term.specs.Tree.{leaf}
use Rattle.sd_term.specs.Bank.{tree_at}
use Rattle.sd_term.specs.Build.{Extends}
use Rattle.sd_vcgen.specs.Numbers.{DenoteAll}
use Rattle.sd_vcgen.proofs.body.put_starts.Given as goal

abbrev pub invariant-loop-variable : goal.invariant-loop-variable
invariant-loop-variable l = record {
  slots : DenoteAll l.bank l.slots (map (tree_at l.bank) l.slots);
  so_far : map (tree_at l.bank) l.slots ++ map (λ v. leaf (head.Start v.sort)) (drop l.variable-index l.variables) ≡ map (tree_at l.initial.bank) l.initial.slots ++ map (λ v. leaf (head.Start v.sort)) l.variables;
  kept : Extends l.initial.bank l.bank;
}
