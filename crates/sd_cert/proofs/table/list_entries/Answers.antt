-- One entry more is listed.
use Rattle.std.proofs.Common.{◌≡◌, ℕ, ◌<◌, ◌+◌, List, length, ◌∙◌, subst, arith}
use Rattle.sd_cert.specs.Tables.{IsDecided}
use Rattle.sd_cert.proofs.Listing.{decide-live, ascend-step, listed-more, listed-all}
use Rattle.sd_cert.proofs.table.list_entries.Goals as goal

pub overflow_add-number : goal.overflow_add-number
overflow_add-number c =
    let step = ascend-step c.args.entries.now c.loop-entry.entry-index c.entry-item.result (omega arith) c.entry-item.is c.loop-entry.invariant.1.0 c.args.count c.loop-entry.invariant.1.2
    in omega (arith, step.1)

pub clear_until-requires-clause-order : goal.clear_until-requires-clause-order
clear_until-requires-clause-order c =
    let step = ascend-step c.args.entries.now c.loop-entry.entry-index c.entry-item.result (omega arith) c.entry-item.is c.loop-entry.invariant.1.0 c.args.count c.loop-entry.invariant.1.2
    in omega (arith, step.0, c.loop-entry.invariant.1.1)

pub clear_until-requires-clause-within : goal.clear_until-requires-clause-within
clear_until-requires-clause-within c =
    let step = ascend-step c.args.entries.now c.loop-entry.entry-index c.entry-item.result (omega arith) c.entry-item.is c.loop-entry.invariant.1.0 c.args.count c.loop-entry.invariant.1.2
    in omega (arith, step.1, c.loop-entry.invariant.0)

pub overflow_add-next : goal.overflow_add-next
overflow_add-next c =
    let step = ascend-step c.args.entries.now c.loop-entry.entry-index c.entry-item.result (omega arith) c.entry-item.is c.loop-entry.invariant.1.0 c.args.count c.loop-entry.invariant.1.2
    in omega (arith, step.1)

pub loop-entry-preserved : goal.loop-entry-preserved
loop-entry-preserved c =
    let i = c.loop-entry.entry-index in
    let e = c.entry-item.result in
    let step = ascend-step c.args.entries.now i e (omega arith) c.entry-item.is c.loop-entry.invariant.1.0 c.args.count c.loop-entry.invariant.1.2 in
    let size : length c.clear_until.new.table ≡ length c.args.table.now = c.clear_until.ensures.size ∙ c.loop-entry.invariant.0 in
    let within : c.args.first + e.candidate < length c.clear_until.new.table = omega (arith, step.1, size) in (
      size,
      (e.candidate + 1, omega arith, step.2),
      omega (arith, step.1),
      λ numbers d. subst (λ (ks : List ℕ). IsDecided c.clear_until.new.table (c.args.first + e.candidate + 1) ks)
          (listed-more c.args.entries.now i e (omega arith) c.entry-item.is numbers c.args.first)
          (decide-live c.clear_until.new.table (c.args.first + e.candidate) _ within (c.clear_until.ensures.decided _ (c.loop-entry.invariant.3 numbers d))),
    )

pub returns-clause-decided : goal.returns-clause-decided
returns-clause-decided c numbers d =
    subst (λ (ks : List ℕ). IsDecided c.loop-entry.table c.loop-entry.next ks)
    (listed-all c.args.entries.now c.loop-entry.entry-index c.args.first numbers (omega arith))
    (c.loop-entry.invariant.3 numbers d)
