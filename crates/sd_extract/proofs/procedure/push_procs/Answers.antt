use Rattle.sd_extract.specs.Numbered.{program_of, number_of}
use Rattle.sd_extract.specs.Sources.{source_in}
use Rattle.sd_extract.proofs.CodeLoops.{procs_made}
use Rattle.sd_extract.proofs.procedure.push_procs.Goals as goal

pub returns-clause-out : goal.returns-clause-out
returns-clause-out c =
    procs_made (program_of c.args.callees.now) (number_of c.args.callees.now) (source_in c.args.source.now) c.in_ok-body_proc.field-0 c.in_ok-first.first c.as_slice.result.now c.args.out.now c.push.new.self c.push_loops.new.out
    c.in_ok-body_proc.ensures c.in_ok-push.ensures.ok c.in_ok-first.ensures c.as_slice.ensures c.in_ok-next.ensures.out
