use Rattle.std.proofs.Common.{ℕ, ◌==◌, ◌++◌, List, length, refl, ap}
use Rattle.std.proofs.lemmas.Result.{err_from_is_err_and}
use Rattle.sd_cert.specs.Text.{lines_text}
use Rattle.sd_cert.proofs.FaultLemmas.{line_fault, end_fault, not_complete}
use Rattle.sd_cert.proofs.reading.certificate_in.Goals as goal
use Rattle.sd_cert.proofs.reading.certificate_in.Goals.{in_default-via-in-Complete+else-is_empty, in_default-via-in_default}

pub returns-in_err-prefix-clause-fault : goal.returns-in_err-prefix-clause-fault
returns-in_err-prefix-clause-fault c =
    let lines = c.args.lines.now in
    let rest = c.args.rest.now in
    let p = err_from_is_err_and c.from_residual.result c.from_residual.ensures.1
    in rw (p.1, p.2) (line_fault (lines_text lines ++ rest) lines rest _ (record { fit = c.requires.fit; whole = refl; stop = c.requires.stop }) c.in_err-prefix.ensures.fault)

pub returns-in_default-clause-fault : goal.returns-in_default-clause-fault
returns-in_default-clause-fault c =
    let lines = c.args.lines.now in
    let rest = c.args.rest.now in
    end_fault (lines_text lines ++ rest) lines rest c.in_ok-prefix.prefix (record { fit = c.requires.fit; whole = refl; stop = c.requires.stop }) c.in_ok-prefix.ensures.phase (elim c.in_default.branch [
      | in_default-via-in-Complete+else-is_empty w ↦ λ d e. absurd (let k = w.if-is_empty.false in let j = w.is_empty.ensures in let g = ap (λ (t : List ℕ). length t == 0) e in cc)
      | in_default-via-in_default w ↦ λ d e. not_complete c.in_ok-prefix.prefix w.in_default.not-Complete d
    ])
