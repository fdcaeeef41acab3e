use Rattle.std.proofs.Common.{◌≡◌, ℕ, ◌+◌, length, true, ap, arith}
use Rattle.std.specs.Prelude.{Some}
use Rattle.sd_cert.specs.Phases.{in_pairs}
use Rattle.sd_cert.proofs.PrefixLemmas.{rows_closed}
use Rattle.sd_cert.proofs.extend.next_row.Goals as goal

pub returns : goal.returns
returns c =
    let partial = c.args.partial in
    let last : partial.later ≡ 0 = omega arith in (
      rows_closed partial.digests partial.count partial.pairs partial.state partial.proved partial.proof c.in_ok-proof.proof partial.rows c.push.new.self c.args.row partial.later c.in_ok-push.ensures.ok last c.in_ok-proof.ensures,
      ap (λ (n : ℕ). Some (in_pairs partial.count (length partial.pairs + 1) true n)) last,
    )
