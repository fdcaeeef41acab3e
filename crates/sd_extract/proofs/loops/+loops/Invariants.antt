use Rattle.std.proofs.Common.{◌≡◌, ◌+◌, ◌++◌, drop}
use Rattle.sd_meaning.specs.Run.{kinds_of}
use Rattle.sd_extract.specs.Extract.{each_loop_in, counts_each}
use Rattle.sd_extract.specs.Numbered.{program_of, number_of}
use Rattle.sd_extract.specs.Sources.{source_in}
use Rattle.sd_extract.proofs.loops.+loops.Given as goal

abbrev pub invariant-push_loops-loop-stmt : goal.invariant-push_loops-loop-stmt
invariant-push_loops-loop-stmt l = record {
  out : l.out ++ each_loop_in (program_of l.callees) (number_of l.callees) (source_in l.placed.source.now) l.next (kinds_of (drop l.stmt-index l.stmts)) ≡ l.initial.out ++ each_loop_in (program_of l.callees) (number_of l.callees) (source_in l.placed.source.now) l.fn.number (kinds_of l.stmts);
  next : l.next + (counts_each (kinds_of (drop l.stmt-index l.stmts))).loops ≡ l.fn.number + (counts_each (kinds_of l.stmts)).loops;
}
