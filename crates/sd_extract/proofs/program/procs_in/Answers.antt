use Rattle.sd_extract.specs.Numbered.{program_of}
use Rattle.sd_extract.proofs.CodePrograms.{decls_next}
use Rattle.sd_extract.proofs.program.procs_in.Goals as goal

pub loop-decl-preserved : goal.loop-decl-preserved
loop-decl-preserved c =
    decls_next (program_of c.args.callees.now) (program_of c.args.callees.now).decls c.loop-decl.decl-index c.decl-item.result c.loop-decl.next c.in_ok-next.next c.loop-decl.out c.push_decl.new.out _ c.loop-decl-test.true c.decl-item.is
    c.in_ok-next.ensures c.loop-decl.invariant
