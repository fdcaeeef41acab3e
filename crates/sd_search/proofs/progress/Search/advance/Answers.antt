use Rattle.std.proofs.Common.{sym, subst}
use Rattle.sd_search.specs.Running.{IsSearch}
use Rattle.sd_search.proofs.progress.Search.advance.Goals as goal
use Rattle.sd_search.proofs.progress.Search.advance.Goals.{in-Close+in_ok-close-in-Close, in-Number+in_ok-number-in-Number, in-Split+in_ok-split-in-Split}

pub returns-clause-search : goal.returns-clause-search
returns-clause-search c =
    elim c.match-branch-3.branch [
      | in-Close+in_ok-close-in-Close w ↦ subst (IsSearch c.args.query.now) (sym w.self-is) w.in_ok-close-in-Close.ensures.search
      | in-Number+in_ok-number-in-Number w ↦ subst (IsSearch c.args.query.now) (sym w.self-is) w.in_ok-number-in-Number.ensures.search
      | in-Split+in_ok-split-in-Split w ↦ subst (IsSearch c.args.query.now) (sym w.self-is) w.in_ok-split-in-Split.ensures.search
    ]
