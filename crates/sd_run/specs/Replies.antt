-- The texts and the reply of the code, as they are spoken of.
use Rattle.std.specs.Prelude.{◌≡◌, ◌⊎◌, ◌<◌, ◌≤◌, ℕ, List, Option, None, Some, length}
use Rattle.sd_kernel.specs.declared.proved.Proved.{Proved}
use Rattle.sd_rounds.specs.declared.settle.Death.{Death}
use Rattle.sd_product.specs.Work.{PairedPrograms}
use Rattle.sd_cert.specs.declared.fault.CertError.{CertError}
use Rattle.sd_cert.specs.Written.{IsWritten}
use Rattle.sd_base.specs.Outside.{WhereKnown}
use Rattle.sd_match.specs.Refusals.{Refusal, global_types, function_signatures}
use Rattle.sd_match.specs.declared.refusal.MatchError.{MatchError}
use Rattle.sd_match.specs.declared.refusal.MatchError.TheVariants as matching
use Rattle.sd_run.specs.declared.text.Text.{Text}
use Rattle.sd_run.specs.declared.text.TextFault.{TextFault}
use Rattle.sd_run.specs.declared.text.TextFault.TheVariants.{Refused}
use Rattle.sd_run.specs.TextRefusals.{IsAccepted, refusal_status, text_error}
use Rattle.sd_run.specs.declared.reply.NamedCertificate.{NamedCertificate}
use Rattle.sd_run.specs.declared.reply.Report.{Report}
use Rattle.sd_run.specs.declared.reply.Reply.{Reply}
use Rattle.sd_run.specs.declared.matching.Matched.{Matched}
use Rattle.sd_run.specs.Texts.{Holds, Texts, programs_of, clash_of, digests_of}
use Rattle.sd_words.specs.Words.{Task, verify, replay}
use Rattle.sd_run.specs.Outcome.{Outcome, message, IsComparison, IsReplay, IsRefused}
use Rattle.sd_run.specs.Report.{certificate_size}
use Rattle.sd_run.specs.MatchErrors.{match_error}
use Rattle.sd_run.specs.CertificateErrors.{certificate_error}

abbrev pub texts_of : Text → Text → Texts
texts_of old new =
    record { old_bytes = old.bytes.items; new_bytes = new.bytes.items; old = old.program; new = new.program }

-- Two texts that were read and can be compared, with what they give to judge.
pub record IsMatched (m : Matched) : Type 0 where
  pub old_accepted : IsAccepted m.old.bytes.items m.old.program
  pub new_accepted : IsAccepted m.new.bytes.items m.new.program
  pub is_work : m.work ≡ programs_of (texts_of m.old m.new)
  pub no_clash : clash_of (texts_of m.old m.new) ≡ None

abbrev pub named : Option NamedCertificate → Option (List ℕ × List ℕ)
named None = None
named (Some file) = Some (file.name.now, file.text.items)

abbrev pub outcome_of : Reply → Outcome
outcome_of reply =
    record {
      status = reply.status;
      text = reply.text.items;
      pairs = reply.pairs.items;
      table = reply.table.items;
      deaths = reply.deaths.items;
      certificate = named reply.certificate;
    }

-- a report, with these deaths and this certificate
abbrev pub outcome_with : Report → List Death → Option (List ℕ × List ℕ) → Outcome
outcome_with report deaths certificate =
    record {
      status = report.status;
      text = report.text.items;
      pairs = report.pairs.items;
      table = report.table.items;
      deaths = deaths;
      certificate = certificate;
    }

-- the certificate is made where a file is named for it, and doesn't pass the limit of a replay
abbrev pub IsMade : Texts → PairedPrograms → List Proved → Option (List ℕ) → Option (List ℕ × List ℕ) → Type 0
IsMade t work proofs None None = Unit {0}
IsMade t work proofs (Some name) (Some file) =
    (file.0 ≡ name) × IsWritten work (digests_of t) proofs file.1 × (length file.1 ≤ 9223372036854775807)
IsMade t work proofs _ _ = ⊥

-- what is answered where the text that this word names has a fault
abbrev pub IsTextReply : List ℕ → TextFault → Outcome → Type 0
IsTextReply word (Refused r) o = o ≡ message (refusal_status r) (text_error word r)
IsTextReply word _ o = ⊥

-- what is answered where two texts clash
abbrev pub IsClashReply : MatchError → Outcome → Type 0
IsClashReply matching.NoMemory o = ⊥
IsClashReply (matching.GlobalTypes x) o = o ≡ message 4 (match_error (global_types x))
IsClashReply (matching.FunctionSignatures f) o = o ≡ message 4 (match_error (function_signatures f))

-- what is answered to bytes that are refused as a certificate
abbrev pub refusal : CertError → Outcome
refusal e = message 5 (certificate_error e)

-- the bytes were replayed as a certificate of two texts, or they are none
abbrev pub IsJudged : List ℕ → Texts → Outcome → Type 0
IsJudged bytes t o = IsReplay bytes t o ⊎ ((e : CertError) × IsRefused bytes t e × (o ≡ refusal e))

-- the content is beyond the limit, or they were judged
abbrev pub IsReplayReply : Option (List ℕ) → Texts → Outcome → Type 0
IsReplayReply known t o =
    (WhereKnown known (λ bytes. 9223372036854775807 < length bytes) × (o ≡ message 9 certificate_size))
    ⊎ ((bytes : List ℕ) × Holds known bytes × (length bytes ≤ 9223372036854775807) × IsJudged bytes t o)

-- what a task on two texts comes to
abbrev pub IsTaskReply : Task → (List ℕ → Option (List ℕ)) → Texts → Outcome → Type 0
IsTaskReply (verify workers leaves name) content t o = IsComparison leaves name t o
IsTaskReply (replay name) content t o = IsReplayReply (content name) t o

-- the texts clash, or they were judged
abbrev pub IsTextsReply : Task → (List ℕ → Option (List ℕ)) → Texts → Outcome → Type 0
IsTextsReply task content t o =
    ((r : Refusal) × (clash_of t ≡ Some r) × (o ≡ message 4 (match_error r)))
    ⊎ ((clash_of t ≡ None) × IsTaskReply task content t o)
