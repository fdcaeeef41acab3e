use Rattle.std.proofs.Common.{◌∙◌, ap, sym, refl, take, inl, inr, Err}
use Rattle.sd_base.specs.Outside.{appended}
use Rattle.sd_run.specs.Replies.{named, outcome_of}
use Rattle.sd_run.proofs.Rows.{known_by, six_known, seven_known, eight_known, row_known}
use Rattle.sd_run.proofs.Endings.{row_apart, file_rose, ended_answer, ended_headline, ended_unknown, files_since, files_same, broken_same, unbroken}
use Rattle.sd_run.proofs.running.run.Goals as goal

pub returns-in-Err-Failed-clause-known : goal.returns-in-Err-Failed-clause-known
returns-in-Err-Failed-clause-known g c = known_by c.stopped.result.status.code 6 c.stopped.ensures.status six_known

pub returns-in-Err-Memory-clause-known : goal.returns-in-Err-Memory-clause-known
returns-in-Err-Memory-clause-known g c = known_by c.stopped-in-Err-Memory.result.status.code 8 c.stopped-in-Err-Memory.ensures.status eight_known

pub returns-then-is_broken-clause-known : goal.returns-then-is_broken-clause-known
returns-then-is_broken-clause-known g c = known_by c.end_with.result.status.code 7 c.end_with.ensures.status seven_known

pub returns-then-is_broken-clause-cut_short : goal.returns-then-is_broken-clause-cut_short
returns-then-is_broken-clause-cut_short g c _ =
    let r = c.in-Ok.reply in let e = c.end_with in let w = c.write_certificate-file in (
      r.status,
      r.text.items,
      named r.certificate,
      ended_answer _ _ e.result r.status r.status r.text.items (named r.certificate) (outcome_of r) refl e.ensures.outcome c.in-Ok.ensures.answer,
      e.ensures.length,
      files_same g.F.Files.content c.args.files.now w.new.files (named r.certificate) w.result e.result.certificate_file e.ensures.file (files_since g.F.Files.content c.args.files.now _ w.new.files (named r.certificate) w.result c.in-Ok.ensures.stay w.ensures.files),
      inl (broken_same w.result e.result.certificate_file c.is_broken.result e.ensures.file c.is_broken.ensures c.if-is_broken.true, refl),
    )

pub returns-then-is_broken-clause-headline : goal.returns-then-is_broken-clause-headline
returns-then-is_broken-clause-headline g c =
    let r = c.in-Ok.reply in ended_headline _ _ c.end_with.result r.status r.status r.text.items (named r.certificate) (outcome_of r) refl c.end_with.ensures.outcome c.in-Ok.ensures.answer

pub returns-then-is_broken-clause-unknown : goal.returns-then-is_broken-clause-unknown
returns-then-is_broken-clause-unknown g c =
    let r = c.in-Ok.reply in ended_unknown _ _ c.end_with.result r.status r.status r.text.items (named r.certificate) (outcome_of r) refl c.end_with.ensures.outcome c.in-Ok.ensures.answer

pub returns-in-Ok-write_all-clause-known : goal.returns-in-Ok-write_all-clause-known
returns-in-Ok-write_all-clause-known g c =
    let r = c.in-Ok.reply in known_by c.end_with-in-Ok-write_all.result.status.code r.status c.end_with-in-Ok-write_all.ensures.status (row_known _ _ (outcome_of r) c.in-Ok.ensures.answer)

pub returns-in-Ok-write_all-clause-answer : goal.returns-in-Ok-write_all-clause-answer
returns-in-Ok-write_all-clause-answer g c _ _ _ =
    let r = c.in-Ok.reply in let e = c.end_with-in-Ok-write_all in let w = c.write_certificate-file in (
      r.text.items,
      named r.certificate,
      ended_answer _ _ e.result r.status e.result.status.code r.text.items (named r.certificate) (outcome_of r) e.ensures.status e.ensures.outcome c.in-Ok.ensures.answer,
      e.ensures.length,
      e.ensures.file ∙ w.ensures.whole (unbroken w.result c.is_broken.result c.is_broken.ensures c.if-is_broken.false),
      files_same g.F.Files.content c.args.files.now w.new.files (named r.certificate) w.result e.result.certificate_file e.ensures.file (files_since g.F.Files.content c.args.files.now _ w.new.files (named r.certificate) w.result c.in-Ok.ensures.stay w.ensures.files),
      c.in-Ok-write_all.ensures.ok ∙ ap (λ t. appended (g.S.Sink.written c.args.out.now) t) c.as_slice.ensures.value,
    )

pub returns-in-Ok-write_all-clause-silent : goal.returns-in-Ok-write_all-clause-silent
returns-in-Ok-write_all-clause-silent g c h =
    let r = c.in-Ok.reply in absurd (row_apart _ _ (outcome_of r) c.in-Ok.ensures.answer (elim h [ inl s ↦ inl (sym c.end_with-in-Ok-write_all.ensures.status ∙ s) | inr s ↦ inr (inr (sym c.end_with-in-Ok-write_all.ensures.status ∙ s)) ]))

pub returns-in-Ok-write_all-clause-headline : goal.returns-in-Ok-write_all-clause-headline
returns-in-Ok-write_all-clause-headline g c =
    let r = c.in-Ok.reply in ended_headline _ _ c.end_with-in-Ok-write_all.result r.status r.status r.text.items (named r.certificate) (outcome_of r) refl c.end_with-in-Ok-write_all.ensures.outcome c.in-Ok.ensures.answer

pub returns-in-Ok-write_all-clause-unknown : goal.returns-in-Ok-write_all-clause-unknown
returns-in-Ok-write_all-clause-unknown g c =
    let r = c.in-Ok.reply in ended_unknown _ _ c.end_with-in-Ok-write_all.result r.status r.status r.text.items (named r.certificate) (outcome_of r) refl c.end_with-in-Ok-write_all.ensures.outcome c.in-Ok.ensures.answer

pub returns-in-Err-clause-known : goal.returns-in-Err-clause-known
returns-in-Err-clause-known g c = known_by c.end_with-in-Err.result.status.code 7 c.end_with-in-Err.ensures.status seven_known

pub returns-in-Err-clause-cut_short : goal.returns-in-Err-clause-cut_short
returns-in-Err-clause-cut_short g c _ =
    let r = c.in-Ok.reply in let e = c.end_with-in-Err in let w = c.write_certificate-file in let p = c.write_all.ensures.part in (
      r.status,
      r.text.items,
      named r.certificate,
      ended_answer _ _ e.result r.status r.status r.text.items (named r.certificate) (outcome_of r) refl e.ensures.outcome c.in-Ok.ensures.answer,
      e.ensures.length,
      files_same g.F.Files.content c.args.files.now w.new.files (named r.certificate) w.result e.result.certificate_file e.ensures.file (files_since g.F.Files.content c.args.files.now _ w.new.files (named r.certificate) w.result c.in-Ok.ensures.stay w.ensures.files),
      inr (
        e.ensures.file ∙ w.ensures.whole (unbroken w.result c.is_broken.result c.is_broken.ensures c.if-is_broken.false),
        (p.0, p.1 ∙ ap (λ t. appended (g.S.Sink.written c.args.out.now) (take p.0 t)) c.as_slice.ensures.value),
      ),
    )

pub returns-in-Err-clause-headline : goal.returns-in-Err-clause-headline
returns-in-Err-clause-headline g c =
    let r = c.in-Ok.reply in ended_headline _ _ c.end_with-in-Err.result r.status r.status r.text.items (named r.certificate) (outcome_of r) refl c.end_with-in-Err.ensures.outcome c.in-Ok.ensures.answer

pub returns-in-Err-clause-unknown : goal.returns-in-Err-clause-unknown
returns-in-Err-clause-unknown g c =
    let r = c.in-Ok.reply in ended_unknown _ _ c.end_with-in-Err.result r.status r.status r.text.items (named r.certificate) (outcome_of r) refl c.end_with-in-Err.ensures.outcome c.in-Ok.ensures.answer

pub returns-in-Ok-write_all-clause-first_fault : goal.returns-in-Ok-write_all-clause-first_fault
returns-in-Ok-write_all-clause-first_fault g c _ _ =
    let r = c.in-Ok.ensures.first_fault (λ bad. cc) in
    let w = c.write_certificate-file.ensures.no_fault (unbroken c.write_certificate-file.result c.is_broken.result c.is_broken.ensures c.if-is_broken.false) in
    (λ name. w.0 name ∙ r.0 name, λ name. w.1 name ∙ r.1 name, λ name. w.2 name ∙ r.2 name)

pub returns-in-Err-clause-first_fault : goal.returns-in-Err-clause-first_fault
returns-in-Err-clause-first_fault g c _ _ =
    let r = c.in-Ok.ensures.first_fault (λ bad. cc) in
    let w = c.write_certificate-file.ensures.no_fault (unbroken c.write_certificate-file.result c.is_broken.result c.is_broken.ensures c.if-is_broken.false) in
    (λ name. w.0 name ∙ r.0 name, λ name. w.1 name ∙ r.1 name, λ name. w.2 name ∙ r.2 name)

pub returns-then-is_broken-clause-write_fault : goal.returns-then-is_broken-clause-write_fault
returns-then-is_broken-clause-write_fault g c _ =
    let r = c.in-Ok.reply in
    let e = c.end_with in
    let w = c.write_certificate-file in
    let same = c.in-Ok.ensures.first_fault (λ bad. cc) in (
      λ is. file_rose _ _ (outcome_of r) (named r.certificate) _ _ _ c.in-Ok.ensures.answer refl same.1 (w.ensures.not_started (sym e.ensures.file ∙ is)),
      λ is. file_rose _ _ (outcome_of r) (named r.certificate) _ _ _ c.in-Ok.ensures.answer refl same.2 (w.ensures.cut (sym e.ensures.file ∙ is)),
      λ whole. absurd (whole (broken_same w.result e.result.certificate_file c.is_broken.result e.ensures.file c.is_broken.ensures c.if-is_broken.true)),
    )

pub returns-in-Ok-write_all-clause-write_fault : goal.returns-in-Ok-write_all-clause-write_fault
returns-in-Ok-write_all-clause-write_fault g c seven =
    absurd (row_apart _ _ (outcome_of c.in-Ok.reply) c.in-Ok.ensures.answer (inr (inl (sym c.end_with-in-Ok-write_all.ensures.status ∙ seven))))

pub returns-in-Err-Failed-clause-read_fault : goal.returns-in-Err-Failed-clause-read_fault
returns-in-Err-Failed-clause-read_fault g c _ = c.in-Err-Failed.ensures.read_fault (ap Err c.in-Err-Failed.field-0-is)
