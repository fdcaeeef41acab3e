use Rattle.std.proofs.Common.{List, ◌++◌, sym, ap, ◌∙◌, subst}
use Rattle.std.specs.List.{AllByRecursion}
use Rattle.sd_cert.specs.declared.line.Line.{Line}
use Rattle.sd_cert.specs.Lines.{IsLine}
use Rattle.sd_cert.specs.Text.{lines_text}
use Rattle.sd_base.proofs.Lists.{all-push}
use Rattle.sd_cert.proofs.TextLemmas.{whole-push}
use Rattle.sd_cert.proofs.text.read_lines.Goals as goal

pub lines-preserved : goal.lines-preserved
lines-preserved c =
    let first = rw c.in-Some.is at c.in_ok-line.ensures in record {
      fit = subst (λ (ls : List Line). AllByRecursion IsLine ls) (sym c.in_ok-push.ensures.ok) (all-push IsLine c.lines.lines c.in-Some.line c.lines.invariant.fit first.0);
      whole = whole-push c.args.text.now c.lines.rest.now c.in-Some.after.now c.lines.lines c.in-Some.line c.lines.invariant.whole first.1 ∙ ap (λ ls. lines_text ls ++ c.in-Some.after.now) (sym c.in_ok-push.ensures.ok);
    }
