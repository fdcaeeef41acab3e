use Rattle.sd_kernel.specs.declared.RowLine.TheVariants.{Fact}
use Rattle.sd_cert.proofs.SpellLemmas.{rows-pushed}
use Rattle.sd_cert.proofs.spelling.push_rows.Goals as goal

pub loop-row-preserved : goal.loop-row-preserved
loop-row-preserved c =
    rows-pushed c.args.text.now.items c.loop-row.text.items c.push_line.new.text.items c.args.rows.now c.loop-row.row-index (Fact 0) c.loop-row-test.true c.loop-row.invariant c.in_ok-push_line.ensures
