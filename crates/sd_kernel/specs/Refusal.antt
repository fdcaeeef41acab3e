-- what a step of a walk answers: the bad line, or nothing where the walk continues
use Rattle.std.specs.Prelude.{Option, Some, None}
use Rattle.sd_kernel.specs.declared.step.BadLine.{BadLine}
use Rattle.sd_kernel.specs.Proof.{State, Next, fails, continues}

-- the refusal at the bad line, or else the walk continues from the state
abbrev pub refusal_or : Option BadLine → State → Next
refusal_or None s = continues s
refusal_or (Some bad) s = fails bad.line bad.cause
