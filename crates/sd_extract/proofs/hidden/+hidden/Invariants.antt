use Rattle.std.proofs.Common.{◌≡◌, ◌++◌, drop}
use Rattle.sd_meaning.specs.Run.{kinds_of}
use Rattle.sd_extract.specs.Extract.{each_args_in, each_left_in, counts_each, plus}
use Rattle.sd_extract.specs.Counted.{counts_in}
use Rattle.sd_extract.specs.Numbered.{program_of}
use Rattle.sd_extract.proofs.hidden.+hidden.Given as goal

abbrev pub invariant-push_all_hidden-loop-stmt : goal.invariant-push_all_hidden-loop-stmt
invariant-push_all_hidden-loop-stmt l = record {
  args : l.args ++ each_args_in (program_of l.callees) (counts_in l.next) (kinds_of (drop l.stmt-index l.stmts)) ≡ l.initial.args ++ each_args_in (program_of l.callees) (counts_in l.fn.at) (kinds_of l.stmts);
  lefts : l.lefts ++ each_left_in (counts_in l.next) (kinds_of (drop l.stmt-index l.stmts)) ≡ l.initial.lefts ++ each_left_in (counts_in l.fn.at) (kinds_of l.stmts);
  next : plus (counts_in l.next) (counts_each (kinds_of (drop l.stmt-index l.stmts))) ≡ plus (counts_in l.fn.at) (counts_each (kinds_of l.stmts));
}
