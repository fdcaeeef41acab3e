use Rattle.std.proofs.Common.{sym, subst}
use Rattle.std.specs.Prelude.{IfSome}
use Rattle.sd_term.specs.Bank.{tree_at}
use Rattle.sd_kernel.specs.Facts.{trail_of}
use Rattle.sd_euf.specs.Closed.{IsRequiredStep}
use Rattle.sd_search.specs.Assignment.{IsAssignment}
use Rattle.sd_search.proofs.AtomFacts.{atom-truth}
use Rattle.sd_search.proofs.ChoiceLemmas.{required-atom}
use Rattle.sd_search.proofs.assignment.guessed_cube.Goals as goal
use Rattle.sd_search.proofs.assignment.guessed_cube.Goals.{in-Some-Term+in_ok-number-in-Some-Term, in-Some-Split+in_ok-assume-in-Some-Split}

pub assume-requires-clause-truth : goal.assume-requires-clause-truth
assume-requires-clause-truth c =
    let a = c.loop.assignment in
    let b = trail_of a.walk.0 a.trail in
    let t = tree_at a.walk.0 c.in-Some-Split.atom in
    let step = subst (λ r. IfSome r (IsRequiredStep a.walk.0 b)) c.in-Some-Split.is c.in_ok-line.ensures in
    let r = subst (IsRequiredStep a.walk.0 b) c.in-Some-Split.field-0-is step in
    atom-truth t (required-atom a.walk.0 b t r.1)

pub loop-preserved : goal.loop-preserved
loop-preserved c =
    elim c.match-branch-5.branch [
      | in-Some-Term+in_ok-number-in-Some-Term w ↦ subst (IsAssignment c.args.query.now) (sym w.assignment-is) w.in_ok-number-in-Some-Term.ensures
      | in-Some-Split+in_ok-assume-in-Some-Split w ↦ subst (IsAssignment c.args.query.now) (sym w.assignment-is) w.in_ok-assume-in-Some-Split.ensures
    ]
