use Rattle.std.proofs.Common.{◌≡◌, take}
use Rattle.std.specs.Prelude.{Some}
use Rattle.sd_cert.specs.Prefixes.{prefix_lines, phase_of}
use Rattle.sd_cert.specs.Phases.{at_version, after_lines}
use Rattle.sd_cert.proofs.reading.read_prefix.Given as goal

abbrev pub invariant-loop-i : goal.invariant-loop-i
invariant-loop-i l = record {
  lines : prefix_lines l.prefix ≡ take l.i l.lines;
  phase : after_lines at_version (take l.i l.lines) ≡ Some (phase_of l.prefix);
}
