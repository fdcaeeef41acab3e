use Rattle.std.proofs.Common.{◌≡◌, ◌-◌}
use Rattle.sd_parse.specs.Reading.{many}
use Rattle.sd_parse.specs.ReadingRows.{push}
use Rattle.sd_parse.specs.ReadingStatements.{begins_invariant, loop_invariant, invariants}
use Rattle.sd_parse.proofs.loops.invariants.Given as goal

abbrev pub invariant-loop-turn : goal.invariant-loop-turn
invariant-loop-turn l = invariants l.fn.limit l.fn.depth l.fn.tokens ≡ many begins_invariant (loop_invariant l.limit l.depth) push (l._turn-end - l._turn) l.found l.tokens
