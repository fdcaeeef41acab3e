use Rattle.std.proofs.Common.{◌≡◌, ◌<◌, ℕ, length, drop, get_or}
use Rattle.std.specs.Prelude.{None}
use Rattle.sd_match.specs.Pairs.{least}
use Rattle.sd_match.specs.Tables.{calls_lacking, lower}
use Rattle.sd_match.proofs.unmatched.first_lacking.Given as goal

abbrev pub invariant-procs : goal.invariant-procs
invariant-procs l = record {
  count : length l.entries.items ≡ length l.procs;
  known : (i : ℕ) → i < length l.procs → lower (get_or l.entries.items i None) (least (calls_lacking l.partners i l.place (drop l.place l.procs))) ≡ least (calls_lacking l.partners i 0 l.procs);
}
