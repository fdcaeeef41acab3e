use Rattle.std.proofs.Common.{List, ℕ, subst, refl, arith}
use Rattle.sd_run.specs.Answer.{ReadRose}
use Rattle.symdiff.specs.Exit.{WriteRose}
use Rattle.symdiff.proofs.ExitLemmas.{words-known}
use Rattle.symdiff.proofs.status_of.Goals as goal

pub returns-in-Ok-clause-read_fault : goal.returns-in-Ok-clause-read_fault
returns-in-Ok-clause-read_fault g c six =
    subst (λ (ws : List (List ℕ)). ReadRose ws (g.F.Files.content c.args.files.now) (g.F.Files.read_faults c.args.files.now) (g.F.Files.read_faults c.status_with.new.files))
    (words-known c.args.words c.in-Ok.words c.as_slice.result.now c.in-Ok.is c.as_slice.ensures.value) (c.status_with.ensures.read_fault six)

pub returns-in-Ok-clause-write_fault : goal.returns-in-Ok-clause-write_fault
returns-in-Ok-clause-write_fault g c seven =
    subst (λ (ws : List (List ℕ)). WriteRose ws g.F.Files.content g.F.Files.start_faults g.F.Files.append_faults c.args.files.now c.status_with.new.files (g.S.Sink.faults c.args.out.now) (g.S.Sink.faults c.status_with.new.out))
    (words-known c.args.words c.in-Ok.words c.as_slice.result.now c.in-Ok.is c.as_slice.ensures.value) (c.status_with.ensures.write_fault seven)

pub returns-in-Err-Memory-clause-known : goal.returns-in-Err-Memory-clause-known
returns-in-Err-Memory-clause-known g c = (8, omega arith, refl)
