-- Which lines can follow one another.
use Rattle.std.specs.Prelude.{ℕ, ◌+◌, ◌==◌, nat_lt, ◌&&◌, zero, suc, Bool, true, false, List, [], ◌∷◌, Option, Some}
use Rattle.std.specs.Prelude.{None, if◌then◌else◌}
use Rattle.std.specs.Option.{option_and_then}
use Rattle.sd_cert.specs.declared.line.Line.{Line}
use Rattle.sd_cert.specs.declared.line.Line.TheVariants.{Version, Old, New, Settings, Pairs, Pair, Candidate}
use Rattle.sd_cert.specs.declared.line.Line.TheVariants.{Step as StepLine, Rows, Row, End}

-- What comes next: a line of the head, or what stands below so many pairs, of which so many began, the last with a
-- candidate or without, where so many row lines still have to come.
pub data Phase : Type 0 where
  at_version : Phase
  at_old : Phase
  at_new : Phase
  at_settings : Phase
  at_pairs : Phase
  in_pairs : ℕ → ℕ → Bool → ℕ → Phase
  complete : Phase

abbrev pub after_line : Phase → Line → Option Phase
after_line at_version (Version n) = if n == 1 then Some at_old else None
after_line at_old (Old d) = Some at_new
after_line at_new (New d) = Some at_settings
after_line at_settings (Settings d) = Some at_pairs
after_line at_pairs (Pairs n) = Some (in_pairs n 0 false 0)
after_line (in_pairs n i c zero) (Pair j s) = if (j == i) && nat_lt i n then Some (in_pairs n (i + 1) false 0) else None
after_line (in_pairs n i c zero) (Candidate k) = if nat_lt 0 i then Some (in_pairs n i true 0) else None
after_line (in_pairs n i c zero) (StepLine s) = if c then Some (in_pairs n i true 0) else None
after_line (in_pairs n i c zero) (Rows rows) = if c then Some (in_pairs n i true rows) else None
after_line (in_pairs n i c zero) End = if i == n then Some complete else None
after_line (in_pairs n i c (suc rows)) (Row row) = Some (in_pairs n i c rows)
after_line _ _ = None

abbrev pub after_lines : Phase → List Line → Option Phase
after_lines p [] = Some p
after_lines p (l ∷ ls) = option_and_then (λ q. after_lines q ls) (after_line p l)
