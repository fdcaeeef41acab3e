use Rattle.std.proofs.Common.{◌≡◌, ◌+◌, ◌++◌, drop, length}
use Rattle.std.specs.Prelude.{map}
use Rattle.sd_core.specs.Store.{read}
use Rattle.sd_core.specs.Run.{slots_from, out_spots}
use Rattle.sd_term.specs.Bank.{tree_at}
use Rattle.sd_term.specs.Build.{Extends}
use Rattle.sd_vcgen.specs.Body.{nothing}
use Rattle.sd_vcgen.specs.Numbers.{DenoteAll, AreWithin, store_of}
use Rattle.sd_vcgen.proofs.body.put_outs.Given as goal

abbrev pub invariant-loop-i : goal.invariant-loop-i
invariant-loop-i l = record {
  terms : DenoteAll l.bank l.terms (map (tree_at l.bank) l.terms);
  spots : AreWithin l.bank l.spots;
  so_far : map (tree_at l.bank) l.terms ++ map (read nothing (store_of l.initial.bank l.initial.spots)) (slots_from (length l.procedure.ins + l.i) (drop l.i l.procedure.outs)) ≡ map (read nothing (store_of l.initial.bank l.initial.spots)) (out_spots l.procedure);
  kept : Extends l.initial.bank l.bank;
}
