use Rattle.std.proofs.Common.{sym, ◌∙◌, subst, [], ◌∷◌}
use Rattle.sd_term.specs.Numbering.{numbered}
use Rattle.sd_kernel.specs.Proof.{start, front}
use Rattle.sd_search.specs.Running.{IsRunning}
use Rattle.sd_search.proofs.Steps.{closings-closed}
use Rattle.sd_search.proofs.Runs.{close-running}
use Rattle.sd_search.proofs.progress.Search.close.Goals as goal

pub returns-clause-search : goal.returns-clause-search
returns-clause-search c =
    let q = c.args.query.now in
    let s = c.args.self.now in
    let cube = c.in_ok-cube.cube in record {
      reads = c.in_ok-do_all.ensures.reads (numbered q, start q ∷ []) c.requires.search.reads;
      count = closings-closed s.steps c.do_all.new.steps c.args.steps s.walk.0 (front s.walk) s.cubes c.push.new.self cube c.in_ok-do_all.ensures.steps c.requires.closes_branch c.requires.search.count c.in_ok-push.ensures.ok;
      running = λ o. subst (λ x. IsRunning q c.do_all.new.walk s.facts c.turn.new.path s.extra x) (sym c.in_ok-push.ensures.ok)
          (close-running q s.walk s.facts s.path s.extra s.cubes (c.requires.search.running c.requires.open) c.do_all.new.walk c.args.steps cube
          c.in_ok-do_all.ensures.terms c.in_ok-do_all.ensures.branches c.requires.closes_branch (c.in_ok-cube.ensures.extra ∙ c.as_slice.ensures) (c.in_ok-cube.ensures.literals ∙ c.as_slice-2.ensures) c.turn.new.path c.in_ok-turn.ensures o);
    }
