use Rattle.std.proofs.Common.{sym, subst, refl, [], ◌∷◌}
use Rattle.sd_term.specs.Numbering.{numbered}
use Rattle.sd_kernel.specs.declared.step.Step.TheVariants.{Split}
use Rattle.sd_kernel.specs.Proof.{start}
use Rattle.sd_search.specs.Reading.{Reads}
use Rattle.sd_search.specs.Running.{IsRunning}
use Rattle.sd_search.proofs.Steps.{reads-more, closings-same}
use Rattle.sd_search.proofs.Runs.{split-continues, split-running}
use Rattle.sd_search.proofs.progress.Search.split.Goals as goal

pub do_step-requires : goal.do_step-requires
do_step-requires c =
    let s = c.args.self.now in
    split-continues c.args.query.now s.walk s.facts s.path s.extra s.cubes (c.requires.search.running c.requires.open) c.args.atom c.requires.due.0 c.requires.due.1

pub returns-clause-search : goal.returns-clause-search
returns-clause-search c =
    let q = c.args.query.now in
    let s = c.args.self.now in
    let step = Split c.args.atom in record {
      reads = subst (λ l. Reads (numbered q, start q ∷ []) l c.do_step.new.walk) (sym c.in_ok-do_step.ensures.steps)
          (reads-more (numbered q, start q ∷ []) s.walk c.do_step.new.walk s.steps step c.requires.search.reads c.in_ok-do_step.ensures.walk);
      count = closings-same s.steps c.do_step.new.steps step _ c.in_ok-do_step.ensures.steps refl c.requires.search.count;
      running = λ _. subst (λ p. IsRunning q c.do_step.new.walk s.facts p s.extra s.cubes) (sym c.in_ok-push.ensures.ok)
          (split-running q s.walk s.facts s.path s.extra s.cubes (c.requires.search.running c.requires.open) c.args.atom c.requires.due.0 c.requires.due.1 c.do_step.new.walk c.in_ok-do_step.ensures.walk);
    }
