use Rattle.std.proofs.Common.{◌≡◌, ◌++◌, length}
use Rattle.std.specs.List.{AllByRecursion}
use Rattle.sd_cert.specs.Lines.{IsLine}
use Rattle.sd_cert.specs.Text.{lines_text}
use Rattle.sd_cert.proofs.text.read_lines.Given as goal

abbrev pub invariant-lines : goal.invariant-lines
invariant-lines l = record {
  fit : AllByRecursion IsLine l.lines;
  whole : l.text ≡ lines_text l.lines ++ l.rest;
}

abbrev pub decreases-lines : goal.decreases-lines
decreases-lines l = length l.rest
