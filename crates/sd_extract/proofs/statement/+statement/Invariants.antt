use Rattle.std.proofs.Common.{◌≡◌, ◌++◌, drop}
use Rattle.sd_meaning.specs.Run.{kinds_of}
use Rattle.sd_extract.specs.Extract.{each_extracted, counts_each, plus}
use Rattle.sd_extract.specs.Scopes.{frame_in}
use Rattle.sd_extract.specs.Counted.{counts_in}
use Rattle.sd_extract.specs.Numbered.{program_of, number_of}
use Rattle.sd_extract.proofs.statement.+statement.Given as goal

abbrev pub invariant-push_stmts-loop-stmt : goal.invariant-push_stmts-loop-stmt
invariant-push_stmts-loop-stmt l = record {
  out : l.out ++ each_extracted (program_of l.callees) (number_of l.callees) (frame_in l.frame) (counts_in l.next) (kinds_of (drop l.stmt-index l.stmts)) ≡ l.initial.out ++ each_extracted (program_of l.callees) (number_of l.callees) (frame_in l.frame) (counts_in l.fn.at) (kinds_of l.stmts);
  next : plus (counts_in l.next) (counts_each (kinds_of (drop l.stmt-index l.stmts))) ≡ plus (counts_in l.fn.at) (counts_each (kinds_of l.stmts));
}
