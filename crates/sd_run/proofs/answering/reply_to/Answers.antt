use Rattle.std.proofs.Common.{◌∙◌, ap, Err}
use Rattle.sd_words.specs.Jobs.{names_of}
use Rattle.sd_run.specs.Outcome.{message}
use Rattle.sd_run.specs.Replies.{texts_of, outcome_of}
use Rattle.sd_run.specs.Answer.{no_job, old_rose, new_rose, certificate_rose}
use Rattle.sd_run.proofs.Certified.{ok-map}
use Rattle.sd_run.proofs.Rows.{are_read, known_accepted, old_row, new_row, texts_row, rose_since, certificate_since, named_by, unnamed_by}
use Rattle.sd_run.proofs.answering.reply_to.Goals as goal

pub returns-in_default-clause-answer : goal.returns-in_default-clause-answer
returns-in_default-clause-answer g c = no_job (unnamed_by _ c.in_ok-found.found c.in_ok-found.ensures.job c.in_default.is) (c.in_ok-message.ensures ∙ ap (message 2) c.as_bytes.ensures.value)

pub returns-in-Err-clause-answer : goal.returns-in-Err-clause-answer
returns-in-Err-clause-answer g c =
    ok-map c.refuse.result c.refuse.ensures.reply (λ reply h. old_row _ _ (outcome_of reply) (names_of c.in-Some.job) c.in-Err.fault (named_by _ c.in_ok-found.found c.in-Some.job c.in_ok-found.ensures.job c.in-Some.is) c.in-Err.ensures.refused h)

pub returns-in-Err-read_text-clause-answer : goal.returns-in-Err-read_text-clause-answer
returns-in-Err-read_text-clause-answer g c =
    ok-map c.refuse-in-Err-read_text.result c.refuse-in-Err-read_text.ensures.reply
    (λ reply h. new_row _ _ (outcome_of reply) (names_of c.in-Some.job) c.in-Ok.old.program c.in-Err-read_text.fault (named_by _ c.in_ok-found.found c.in-Some.job c.in_ok-found.ensures.job c.in-Some.is) (known_accepted _ c.in-Ok.old.bytes.items c.in-Ok.old.program c.in-Ok.ensures.content c.in-Ok.ensures.accepted)
    (λ r is bytes known. c.in-Err-read_text.ensures.refused r is bytes (c.read_text.ensures.stay c.in-Some.job.new.now ∙ known)) h)

pub returns-clause-answer : goal.returns-clause-answer
returns-clause-answer g c =
    ok-map c.reply_on.result c.reply_on.ensures.reply
    (λ reply h. texts_row _ _ _ (outcome_of reply) (names_of c.in-Some.job) (texts_of c.in-Ok.old c.in-Ok-read_text.new) (named_by _ c.in_ok-found.found c.in-Some.job c.in_ok-found.ensures.job c.in-Some.is)
    (are_read _ _ (names_of c.in-Some.job) (texts_of c.in-Ok.old c.in-Ok-read_text.new) (c.read_text.ensures.stay c.in-Some.job.new.now) c.in-Ok.ensures.content c.in-Ok.ensures.accepted c.in-Ok-read_text.ensures.content c.in-Ok-read_text.ensures.accepted)
    (λ name. c.read_text-2.ensures.stay name ∙ c.read_text.ensures.stay name) h)

pub returns-in-Err-clause-read_fault : goal.returns-in-Err-clause-read_fault
returns-in-Err-clause-read_fault g c failed =
    old_rose (names_of c.in-Some.job) (named_by _ c.in_ok-found.found c.in-Some.job c.in_ok-found.ensures.job c.in-Some.is) (c.in-Err.ensures.cause (ap Err (c.refuse.ensures.failed.0 failed)))

pub returns-in-Err-read_text-clause-read_fault : goal.returns-in-Err-read_text-clause-read_fault
returns-in-Err-read_text-clause-read_fault g c failed =
    new_rose (names_of c.in-Some.job) c.in-Ok.old.program (named_by _ c.in_ok-found.found c.in-Some.job c.in_ok-found.ensures.job c.in-Some.is) (known_accepted _ c.in-Ok.old.bytes.items c.in-Ok.old.program c.in-Ok.ensures.content c.in-Ok.ensures.accepted)
    (rose_since (g.F.Files.read_faults c.args.files.now) (g.F.Files.read_faults c.read_text.new.files) (g.F.Files.read_faults c.read_text-2.new.files) c.in-Some.job.new.now (c.in-Ok.ensures.no_fault (λ bad. cc)).0 (c.in-Err-read_text.ensures.cause (ap Err (c.refuse-in-Err-read_text.ensures.failed.0 failed))))

pub returns-clause-read_fault : goal.returns-clause-read_fault
returns-clause-read_fault g c failed =
    let job = names_of c.in-Some.job in
    let t = texts_of c.in-Ok.old c.in-Ok-read_text.new in
    let r = c.reply_on.ensures.cause failed in
    let first = c.in-Ok.ensures.no_fault (λ bad. cc) in
    let second = c.in-Ok-read_text.ensures.no_fault (λ bad. cc) in
    certificate_rose job t (named_by _ c.in_ok-found.found c.in-Some.job c.in_ok-found.ensures.job c.in-Some.is)
    (record { are_read = are_read _ _ job t (c.read_text.ensures.stay c.in-Some.job.new.now) c.in-Ok.ensures.content c.in-Ok.ensures.accepted c.in-Ok-read_text.ensures.content c.in-Ok-read_text.ensures.accepted; no_clash = r.0 })
    (certificate_since job.task (g.F.Files.read_faults c.args.files.now) (g.F.Files.read_faults c.read_text-2.new.files) (g.F.Files.read_faults c.reply_on.new.files) (λ name. second.0 name ∙ first.0 name) r.1)
