-- The candidate of an entry is one of the pair's.
use Rattle.std.proofs.Common.{◌+◌, length, refl, arith}
use Rattle.std.proofs.lemmas.Option.{slice_get_within, slice_get_read}
use Rattle.sd_base.proofs.Lists.{all-at}
use Rattle.sd_product.specs.Bodies.{IsAbout}
use Rattle.sd_product.specs.Work.{claims_in}
use Rattle.sd_cert.proofs.judge.judge_entries.Goals as goal

pub overflow_add-candidate : goal.overflow_add-candidate
overflow_add-candidate c =
    let b = c.args.bodies.now in
    let p = c.entry-item.result in
    let about = all-at (λ p. IsAbout b.work (c.args.first + p.candidate) b.pair) c.args.entries.now c.loop-entry.entry-index p c.requires.about (slice_get_read c.args.entries.now (length c.args.entries.now) c.loop-entry.entry-index p refl (omega arith) c.entry-item.is) in
    omega (arith, slice_get_within (claims_in b.work) (c.args.first + p.candidate) about.claimed about.claim_is)

pub judge_entry-requires-clause-about : goal.judge_entry-requires-clause-about
judge_entry-requires-clause-about c =
    let b = c.args.bodies.now in
    let p = c.entry-item.result in
    all-at (λ p. IsAbout b.work (c.args.first + p.candidate) b.pair) c.args.entries.now c.loop-entry.entry-index p c.requires.about (slice_get_read c.args.entries.now (length c.args.entries.now) c.loop-entry.entry-index p refl (omega arith) c.entry-item.is)
