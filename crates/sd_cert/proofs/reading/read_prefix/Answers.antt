use Rattle.std.specs.Prelude.{Option, Some, None}
use Rattle.std.proofs.Common.{subst}
use Rattle.sd_cert.specs.declared.line.Line.{Line}
use Rattle.sd_cert.specs.declared.prefix.Prefix.{Prefix}
use Rattle.sd_cert.specs.Prefixes.{IsExtension}
use Rattle.sd_cert.specs.Faults.{IsPlaceFault}
use Rattle.sd_cert.proofs.FaultLemmas.{prefix-step, stuck_fault}
use Rattle.sd_cert.proofs.reading.read_prefix.Goals as goal

pub returns-in-None-clause-fault : goal.returns-in-None-clause-fault
returns-in-None-clause-fault c =
    let line = c.index-lines-i.result in
    stuck_fault c.args.lines.now c.loop-i.i line c.loop-i.prefix c.fault_at.result c.loop-i-test.true c.loop-i.invariant.phase
    (subst (λ (l : Line). IsExtension c.loop-i.prefix l None) c.index-lines-i.is (subst (λ (o : Option Prefix). IsExtension c.loop-i.prefix line o) c.in-None.is c.in_ok-longer.ensures))
    (subst (λ (l : Line). IsPlaceFault c.loop-i.i l c.fault_at.result) c.index-lines-i.is c.fault_at.ensures)

pub loop-i-preserved : goal.loop-i-preserved
loop-i-preserved c =
    let line = c.index-lines-i.result in
    let r = prefix-step c.args.lines.now c.loop-i.i line c.loop-i.prefix c.loop-i-test.true c.loop-i.invariant.lines c.loop-i.invariant.phase c.in-Some.longer
    (subst (λ (l : Line). IsExtension c.loop-i.prefix l (Some c.in-Some.longer)) c.index-lines-i.is (subst (λ (o : Option Prefix). IsExtension c.loop-i.prefix line o) c.in-Some.is c.in_ok-longer.ensures))
    in record { lines = r.0; phase = r.1 }
