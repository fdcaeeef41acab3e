use Rattle.std.proofs.Common.{◌++◌, sym}
use Rattle.sd_cert.specs.Fields.{IsReadAs}
use Rattle.sd_cert.specs.Keywords.{front_of}
use Rattle.sd_cert.specs.Lines.{line_text, IsLine}
use Rattle.std.proofs.lemmas.Result.{IfOk-weaker}
use Rattle.sd_cert.proofs.LineLemmas.{line_by_keyword}
use Rattle.sd_cert.proofs.line.read_line.Goals as goal

pub returns-in-Some : goal.returns-in-Some
returns-in-Some c =
    IfOk-weaker c.read_fields.result (IsReadAs line_text IsLine (front_of c.in-Some.keyword ++ c.in-Some.fields.now)) (IsReadAs line_text IsLine c.args.text.now)
    (λ o h. line_by_keyword c.args.text.now c.in-Some.keyword c.in-Some.fields.now o (sym c.in-Some.ensures) h) c.read_fields.ensures
