use Rattle.std.proofs.Common.{sym, subst, ◌∙◌, map, [], ◌∷◌}
use Rattle.sd_term.specs.Bank.{tree_at}
use Rattle.sd_term.specs.Sorts.{AllWellSorted}
use Rattle.sd_kernel.specs.Proof.{judged, start}
use Rattle.sd_kernel.proofs.Refuted.{verdict-exact, verdict-sound, judged-numbered, numbered-sorted}
use Rattle.sd_kernel.proofs.walk.proves.Goals as goal

pub returns-clause-verdict : goal.returns-clause-verdict
returns-clause-verdict c =
    c.in_ok-answer.ensures
    ∙ (λ i. judged (c.in_ok-numbered.numbered.terms, start (map (λ f. tree_at c.in_ok-numbered.numbered.terms f) (c.as_slice.ensures i)) ∷ []) 0 (c.as_slice-2.ensures i))
    ∙ judged-numbered c.in_ok-numbered.numbered.terms c.args.query.now c.in_ok-numbered.numbered.facts c.args.proof.now.steps c.in_ok-numbered.ensures.terms c.in_ok-numbered.ensures.facts

pub returns-clause-exact : goal.returns-clause-exact
returns-clause-exact c = verdict-exact c.args.query.now c.args.proof.now.steps c.in_ok-answer.answer (returns-clause-verdict c)

pub returns-clause-sound : goal.returns-clause-sound
returns-clause-sound c = λ a. verdict-sound c.args.query.now c.args.proof.now.steps c.in_ok-answer.answer (returns-clause-verdict c) a c.in_ok-numbered.ensures.sorted

pub judge-requires-clause-sorted : goal.judge-requires-clause-sorted
judge-requires-clause-sorted c = subst AllWellSorted (sym c.in_ok-numbered.ensures.terms) (numbered-sorted c.args.query.now c.in_ok-numbered.ensures.sorted)
