use Rattle.std.proofs.Common.{◌≡◌, ◌++◌, length}
use Rattle.sd_cert.proofs.NumberLemmas.{spaced, AreLess}
use Rattle.sd_cert.proofs.numbers.read_numbers.Given as goal

abbrev pub invariant-numbers : goal.invariant-numbers
invariant-numbers l = record {
  less : AreLess l.numbers;
  whole : l.text ≡ spaced l.numbers ++ l.rest;
}

abbrev pub decreases-numbers : goal.decreases-numbers
decreases-numbers l = length l.rest
