use Rattle.std.proofs.Common.{◌≡◌, ◌++◌, take}
use Rattle.sd_extract.specs.Sources.{copies_among}
use Rattle.sd_extract.proofs.loops.push_copies.Given as goal

abbrev pub invariant-loop-var : goal.invariant-loop-var
invariant-loop-var l = l.out ≡ l.initial.out ++ copies_among (take l.var-index l.copied)
