use Rattle.std.proofs.Common.{◌≡◌, ◌-◌}
use Rattle.sd_parse.specs.Reading.{many}
use Rattle.sd_parse.specs.ReadingRows.{push}
use Rattle.sd_parse.specs.ReadingPrograms.{begins_spec, clause, clauses}
use Rattle.sd_parse.proofs.clause.clauses.Given as goal

abbrev pub invariant-loop-turn : goal.invariant-loop-turn
invariant-loop-turn l = clauses l.fn.limit l.fn.tokens ≡ many begins_spec (clause l.limit) push (l._turn-end - l._turn) l.found l.tokens
