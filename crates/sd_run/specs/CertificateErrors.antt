-- The lines that say why a certificate is refused.
use Rattle.std.specs.Prelude.{ℕ, List, ◌++◌, [], codes, decimal}
use Rattle.sd_kernel.specs.declared.step.StepCause.{StepCause}
use Rattle.sd_kernel.specs.declared.step.StepCause.TheVariants.{Number, Shape, Known, Value, Row, Wide}
use Rattle.sd_cert.specs.declared.fault.CertError.{CertError}
use Rattle.sd_cert.specs.declared.fault.CertError.TheVariants.{NoMemory, Version, Line, OtherOld, OtherNew, OtherSettings, Pair, Step}
use Rattle.sd_run.specs.Report.{line_end}

abbrev pub cause_word : StepCause → List ℕ
cause_word Number = codes "number"
cause_word Shape = codes "shape"
cause_word Known = codes "known"
cause_word Value = codes "value"
cause_word Row = codes "row"
cause_word Wide = codes "wide"

abbrev pub step_text : ℕ → StepCause → List ℕ
step_text line cause = codes "line " ++ decimal line ++ codes " " ++ cause_word cause

abbrev pub fault_text : CertError → List ℕ
fault_text NoMemory = []
fault_text (Version n) = codes "version " ++ decimal n
fault_text (Line n) = codes "line " ++ decimal n
fault_text OtherOld = codes "other old"
fault_text OtherNew = codes "other new"
fault_text OtherSettings = codes "other settings"
fault_text (Pair n) = codes "pair " ++ decimal n
fault_text (Step n cause) = step_text n cause

abbrev pub certificate_error : CertError → List ℕ
certificate_error e = codes "error: certificate " ++ fault_text e ++ line_end
