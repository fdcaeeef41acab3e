use Rattle.std.proofs.Common.{inl, inr}
use Rattle.symdiff.proofs.ExitLemmas.{answered, begun, unbroken, write_rose}
use Rattle.symdiff.proofs.status_with.Goals as goal

pub returns-clause-answer : goal.returns-clause-answer
returns-clause-answer g c six seven eight = answered _ g.F.Files.content _ _ _ _ c.run-ended.result _ (c.run-ended.ensures.answer six seven eight)

pub returns-clause-cut_short : goal.returns-clause-cut_short
returns-clause-cut_short g c seven = begun _ g.F.Files.content _ _ _ _ c.run-ended.result (c.run-ended.ensures.cut_short seven)

pub returns-clause-write_fault : goal.returns-clause-write_fault
returns-clause-write_fault g c seven =
    write_rose _ g.F.Files.content g.F.Files.start_faults g.F.Files.append_faults _ _ _ _ c.run-ended.result.certificate_file (c.run-ended.ensures.write_fault seven)

pub returns-clause-no_fault : goal.returns-clause-no_fault
returns-clause-no_fault g c six seven = (
  c.run-ended.ensures.first_fault six (unbroken _ g.F.Files.content _ _ _ _ c.run-ended.result _ six seven c.run-ended.ensures.answer (λ eight. (c.run-ended.ensures.silent (inr eight)).0)),
  c.run-ended.ensures.first_write_fault (inl seven),
)
