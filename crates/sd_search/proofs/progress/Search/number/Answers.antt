use Rattle.std.proofs.Common.{sym, ap, ◌∙◌, subst, refl, [], ◌∷◌, length}
use Rattle.sd_term.specs.Numbering.{numbered}
use Rattle.sd_kernel.specs.declared.step.Step.TheVariants.{Term}
use Rattle.sd_kernel.specs.Proof.{start, front}
use Rattle.sd_search.specs.Reading.{Reads}
use Rattle.sd_search.specs.Running.{IsRunning}
use Rattle.sd_search.proofs.Steps.{reads-more, closings-same}
use Rattle.sd_search.proofs.Runs.{term-continues, term-terms, term-running, new-node}
use Rattle.sd_search.proofs.progress.Search.number.Goals as goal

pub do_step-requires : goal.do_step-requires
do_step-requires c =
    let s = c.args.self.now in
    term-continues c.args.query.now s.walk s.facts s.path s.extra s.cubes (c.requires.search.running c.requires.open) c.args.line c.requires.required.0 (front s.walk) c.requires.required.1 c.requires.required.2

pub returns-clause-search : goal.returns-clause-search
returns-clause-search c =
    let q = c.args.query.now in
    let s = c.args.self.now in
    let step = Term c.args.line in
    let t = c.requires.required.0 in
    let r = c.requires.search.running c.requires.open in
    let more = term-terms q s.walk s.facts s.path s.extra s.cubes r c.args.line t (front s.walk) c.requires.required.1 c.requires.required.2 c.do_step.new.walk c.in_ok-do_step.ensures.walk in
    let node = new-node s.walk.0 c.terms-2.result.now t c.len-number.result c.in_ok-node.node (c.len-number.ensures.value ∙ ap length c.terms.ensures) (c.terms-2.ensures ∙ more) c.in_ok-node.ensures.parts c.in_ok-node.ensures.tree in record {
      reads = subst (λ l. Reads (numbered q, start q ∷ []) l c.do_step.new.walk) (sym c.in_ok-do_step.ensures.steps)
          (reads-more (numbered q, start q ∷ []) s.walk c.do_step.new.walk s.steps step c.requires.search.reads c.in_ok-do_step.ensures.walk);
      count = closings-same s.steps c.do_step.new.steps step _ c.in_ok-do_step.ensures.steps refl c.requires.search.count;
      running = λ _. subst (λ x. IsRunning q c.do_step.new.walk s.facts s.path x s.cubes) (sym c.in_ok-push.ensures.ok)
          (term-running q s.walk s.facts s.path s.extra s.cubes r c.args.line t (front s.walk) c.requires.required.1 c.requires.required.2 c.do_step.new.walk c.in_ok-node.node c.in_ok-do_step.ensures.walk node.0 node.1);
    }
