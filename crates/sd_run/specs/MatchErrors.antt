-- The line that says why two texts can't be compared.
use Rattle.std.specs.Prelude.{ℕ, List, ◌++◌, codes}
use Rattle.sd_match.specs.Refusals.{Refusal, global_types, function_signatures}
use Rattle.sd_run.specs.Report.{line_end}

abbrev pub clash_text : Refusal → List ℕ
clash_text (global_types x) = codes "globals " ++ x
clash_text (function_signatures f) = codes "functions " ++ f

abbrev pub match_error : Refusal → List ℕ
match_error r = codes "error: match " ++ clash_text r ++ line_end
