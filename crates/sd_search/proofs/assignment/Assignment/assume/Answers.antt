use Rattle.std.proofs.Common.{◌<◌, ◌≡◌, length, sym, subst, true, ℕ}
use Rattle.sd_term.specs.Bank.{tree_at}
use Rattle.sd_term.specs.Sorts.{is_truth_valued}
use Rattle.sd_search.proofs.Assignments.{one-more}
use Rattle.sd_search.proofs.assignment.Assignment.assume.Goals as goal

pub returns : goal.returns
returns c =
    let a = c.args.self.now in
    one-more c.args.query.now a (record { term = c.new-term.result; value = c.args.value }) c.push.new.self c.requires.assignment
    (subst (λ (n : ℕ). n < length a.walk.0) (sym c.new-term.ensures) c.requires.below)
    (subst (λ (n : ℕ). is_truth_valued (tree_at a.walk.0 n) ≡ true) (sym c.new-term.ensures) c.requires.truth) c.in_ok-push.ensures.ok
