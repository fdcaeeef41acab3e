use Rattle.std.proofs.Common.{◌≡◌, sym, ◌∙◌, [], ◌∷◌, true, false, arith}
use Rattle.sd_term.specs.Numbering.{numbered}
use Rattle.sd_kernel.specs.Proof.{start}
use Rattle.sd_kernel.proofs.Walks.{accepted-proves}
use Rattle.sd_search.proofs.Steps.{reads-accepted}
use Rattle.sd_search.proofs.Runs.{spent}
use Rattle.sd_search.proofs.search.refute.Goals as goal

pub returns-clause-accepted : goal.returns-clause-accepted
returns-clause-accepted c =
    reads-accepted (numbered c.args.query.now, start c.args.query.now ∷ []) c.branches.search.walk c.branches.search.steps c.branches.invariant.0.reads
    (λ n. let e : false ≡ true = sym c.branches-test.false ∙ c.is_open.ensures.1 n in cc)

pub returns-clause-refuted : goal.returns-clause-refuted
returns-clause-refuted c = accepted-proves c.args.query.now c.branches.search.steps (returns-clause-accepted c)

pub returns-then-len-leaves-clause-spent : goal.returns-then-len-leaves-clause-spent
returns-then-len-leaves-clause-spent c =
    let s = c.branches.search in
    spent c.args.query.now s.walk s.facts s.path s.extra s.cubes c.args.leaves (c.branches.invariant.0.running (c.is_open.ensures.0 c.branches-test.true))
    (omega (arith, c.branches.invariant.1, c.if-len-leaves.true, c.len-in-branches.ensures))
