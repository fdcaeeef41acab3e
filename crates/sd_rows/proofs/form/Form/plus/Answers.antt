use Rattle.std.proofs.Common.{◌∙◌}
use Rattle.sd_rows.specs.RowOps.{sum_of, times}
use Rattle.sd_rows.proofs.FormLemmas.{sum-ones, sum-read}
use Rattle.sd_rows.proofs.form.Form.plus.Goals as goal

pub returns : goal.returns
returns c =
    let parts = c.in_ok-parts.ensures ∙ (λ i. sum_of (times 1 (c.as_slice.ensures i)) (times 1 (c.as_slice-2.ensures i))) ∙ sum-ones c.args.self.now.parts c.args.other.now.parts in
    let constant = sum-read c.args.self.now.constant c.args.other.now.constant c.requires.first.near c.requires.second.near in
    λ i. record { parts = parts i; constant = constant i }
