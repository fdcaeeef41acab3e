use Rattle.std.proofs.Common.{arith}
use Rattle.sd_match.proofs.ListLemmas.{slice_get-within}
use Rattle.sd_match.proofs.SpotLemmas.{own_places-distinct}
use Rattle.sd_match.proofs.spots.are_distinct.Goals as goal

pub returns : goal.returns
returns c = λ _. own_places-distinct c.args.vars.now (λ k x e. c.vars.invariant k x (let h = slice_get-within c.args.vars.now k x e in omega arith) e)
