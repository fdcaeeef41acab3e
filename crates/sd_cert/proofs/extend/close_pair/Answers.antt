use Rattle.std.proofs.Common.{ap, ◌∙◌}
use Rattle.sd_cert.specs.Certificates.{pair_lines}
use Rattle.sd_cert.proofs.PrefixLemmas.{closed_lines, no_last}
use Rattle.sd_cert.proofs.extend.close_pair.Goals as goal
use Rattle.sd_cert.proofs.extend.close_pair.Goals.{in-Some+in_ok-proved+in_ok-push, in_default}

pub returns-clause-lines : goal.returns-clause-lines
returns-clause-lines c = elim c.match-last.branch [
  | in-Some+in_ok-proved+in_ok-push w ↦ closed_lines c.args.pairs c.match-last.pairs c.args.last w.in-Some.pair w.in_ok-proved.proved w.in-Some.is (w.pairs-is ∙ w.in_ok-push.ensures.ok) w.in_ok-proved.ensures
  | in_default w ↦ ap (pair_lines 0) w.pairs-is ∙ no_last c.args.pairs c.args.last w.in_default.is
]
