use Rattle.std.proofs.Common.{◌≡◌, ◌+◌, drop}
use Rattle.sd_term.specs.Bank.{tree_at}
use Rattle.sd_term.specs.Build.{Extends}
use Rattle.sd_vcgen.specs.Body.{count_all, all_steps}
use Rattle.sd_vcgen.specs.Numbers.{context_of, state_of, IsWithin}
use Rattle.sd_vcgen.proofs.body.+statement.Given as goal

abbrev pub invariant-run_statements-loop-statement : goal.invariant-run_statements-loop-statement
invariant-run_statements-loop-statement l = record {
  state : IsWithin l.bank l.state;
  kept : Extends l.initial.bank l.bank;
  steps : all_steps (context_of l.context) (drop l.statement-index l.statements) l.state.next (tree_at l.initial.bank l.path) (state_of l.bank l.state) ≡ all_steps (context_of l.context) l.statements l.initial.state.next (tree_at l.initial.bank l.path) (state_of l.initial.bank l.initial.state);
  next : l.state.next + count_all (context_of l.context) (drop l.statement-index l.statements) ≡ l.initial.state.next + count_all (context_of l.context) l.statements;
}
