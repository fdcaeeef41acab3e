use Rattle.std.proofs.Common.{ap, ◌∙◌}
use Rattle.sd_search.specs.Atoms.{atom_literals}
use Rattle.sd_search.proofs.Runs.{running-cube}
use Rattle.sd_search.proofs.progress.Search.open_cube.Goals as goal

pub returns : goal.returns
returns c =
    let s = c.args.self.now in
    running-cube c.args.query.now s.walk s.facts s.path s.extra s.cubes (c.requires.search.running c.requires.open) c.in_ok-cube.cube c.args.values.now c.requires.settled c.requires.values
    (c.in_ok-cube.ensures.extra ∙ c.as_slice.ensures)
    (c.in_ok-cube.ensures.literals ∙ c.as_slice-2.ensures ∙ c.in_ok-literals.ensures ∙ ap (λ ts. atom_literals 0 ts c.args.values.now) c.terms.ensures)
