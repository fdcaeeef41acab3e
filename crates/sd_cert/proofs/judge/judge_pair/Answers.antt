-- The entries are of candidates of the pair.
use Rattle.std.proofs.Common.{ℕ, ◌+◌, ◌-◌, sym, subst, arith}
use Rattle.std.specs.List.{AllByRecursion}
use Rattle.sd_product.specs.Bodies.{PairOf, IsAbout, count_before}
use Rattle.sd_product.specs.Work.{queries_of}
use Rattle.sd_cert.specs.BadSteps.{HasFault, entries_fault}
use Rattle.sd_cert.proofs.Listing.{ascend-all}
use Rattle.sd_cert.proofs.judge.judge_pair.Goals as goal

pub judge_entries-requires-clause-about : goal.judge_entries-requires-clause-about
judge_entries-requires-clause-about c =
    let h = c.args.work.now in
    let i = c.args.pair in
    let first = c.numbers_of-first.result.0 in
    let numbers = c.numbers_of-first.ensures in
    subst (λ (b : PairOf). AllByRecursion (λ p. IsAbout b.work (first + p.candidate) b.pair) c.args.entries.now) (sym c.in_ok-bodies.ensures)
    (ascend-all (λ n. IsAbout h n i) first 0 (count_before h (i + 1) - count_before h i) c.args.entries.now c.requires.ascend (λ n lo hi. numbers.own n lo (omega (arith, lo, hi, numbers.first, numbers.end, numbers.ordered))))

pub returns-clause-fault : goal.returns-clause-fault
returns-clause-fault c =
    let h = c.args.work.now in
    let table = c.args.table.now in
    let entries = c.args.entries.now in
    subst (λ (n : ℕ). HasFault (entries_fault (queries_of h table) n (c.args.line + 1) entries) c.judge_entries.result) c.numbers_of-first.ensures.first
    (subst (λ (n : ℕ). HasFault (entries_fault (queries_of h table) c.numbers_of-first.result.0 n entries) c.judge_entries.result) c.in_ok-below.ensures
    (subst (λ (b : PairOf). HasFault (entries_fault (queries_of b.work table) c.numbers_of-first.result.0 c.in_ok-below.below entries) c.judge_entries.result) c.in_ok-bodies.ensures c.judge_entries.ensures.fault))
