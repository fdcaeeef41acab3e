use Rattle.std.proofs.Common.{◌≡◌, drop, length}
use Rattle.std.specs.Prelude.{map}
use Rattle.sd_term.specs.Bank.{tree_at}
use Rattle.sd_term.specs.Build.{Extends}
use Rattle.sd_vcgen.specs.Body as spec
use Rattle.sd_vcgen.specs.Numbers.{AreWithin, store_of}
use Rattle.sd_vcgen.proofs.body.assign.Given as goal

abbrev pub invariant-loop-target : goal.invariant-loop-target
invariant-loop-target l = record {
  spots : AreWithin l.bank l.spots;
  kept : Extends l.initial.bank l.bank;
  so_far : spec.assign (tree_at l.initial.bank l.guard) (store_of l.bank l.spots) (drop (length l.yielded) l.targets) (map (tree_at l.initial.bank) (drop (length l.yielded) l.news)) ≡ spec.assign (tree_at l.initial.bank l.guard) (store_of l.initial.bank l.initial.spots) l.targets (map (tree_at l.initial.bank) l.news);
}
