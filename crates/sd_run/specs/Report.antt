-- The text of the report and the other texts that are written.
use Rattle.std.specs.Prelude.{ℕ, List, [], ◌∷◌, ◌++◌, Bool, true, false, ◌||◌, codes, decimal, length, is_some, if◌then◌else◌, count_by}
use Rattle.std.specs.List.{flat_map}
use Rattle.sd_core.specs.declared.CoreProc.{CoreProc}
use Rattle.sd_core.specs.declared.CoreProgram.{CoreProgram}
use Rattle.sd_match.specs.Places.{proc_named}
use Rattle.sd_run.specs.declared.verdict.PairVerdict.{PairVerdict}
use Rattle.sd_run.specs.declared.verdict.VerdictState.{VerdictState}
use Rattle.sd_run.specs.declared.verdict.VerdictState.TheVariants.{Safe, Unknown, Unproved, Signature, UnmatchedRecursion}

abbrev pub line_end : List ℕ
line_end = 10 ∷ []

-- how the line of a pair begins and ends, by what is said of it
abbrev pub beginning : VerdictState → List ℕ
beginning Safe = codes "safe "
beginning Unknown = codes "unknown "
beginning Unproved = codes "unproved "
beginning Signature = codes "refused "
beginning (UnmatchedRecursion x) = codes "refused "

abbrev pub ending : VerdictState → List ℕ
ending Signature = codes " signature" ++ line_end
ending (UnmatchedRecursion x) = codes " unmatched-recursion " ++ x ++ line_end
ending _ = line_end

abbrev pub verdict_line : PairVerdict → List ℕ
verdict_line v = beginning v.state ++ v.old ++ codes " " ++ v.new ++ ending v.state

-- a line for a procedure without partner among the others; a loop has none
abbrev pub only_line : List ℕ → List CoreProc → CoreProc → List ℕ
only_line word others p =
    if is_some p.parent || is_some (proc_named others p.name) then [] else word ++ p.name ++ line_end

abbrev pub is_safe : VerdictState → Bool
is_safe Safe = true
is_safe _ = false

-- no claim on the flags of the pair was shown
abbrev pub is_unknown : VerdictState → Bool
is_unknown Unknown = true
is_unknown Unproved = true
is_unknown _ = false

abbrev pub is_refused : VerdictState → Bool
is_refused Signature = true
is_refused (UnmatchedRecursion x) = true
is_refused _ = false

-- how many verdicts have such a state
abbrev pub count_of : (VerdictState → Bool) → List PairVerdict → ℕ
count_of test verdicts = count_by (λ v. test v.state) verdicts

-- the last line: how many pairs there are and how many of each kind, and how many axioms each text has
abbrev pub summary : List PairVerdict → ℕ → ℕ → List ℕ
summary verdicts old_axioms new_axioms =
    codes "pairs " ++ decimal (length verdicts) ++ codes " safe " ++ decimal (count_of is_safe verdicts)
    ++ codes " equal 0 unknown " ++ decimal (count_of is_unknown verdicts) ++ codes " refused "
    ++ decimal (count_of is_refused verdicts) ++ codes " axioms " ++ decimal old_axioms ++ codes " "
    ++ decimal new_axioms ++ line_end

abbrev pub report : CoreProgram → CoreProgram → List PairVerdict → List ℕ
report old new verdicts =
    flat_map verdict_line verdicts ++ flat_map (only_line (codes "only old ") new.procs) old.procs
    ++ flat_map (only_line (codes "only new ") old.procs) new.procs
    ++ summary verdicts (length old.axioms) (length new.axioms)

abbrev pub usage_text : List ℕ
usage_text =
    codes "usage: symdiff verify OLD NEW [--settings FILE] [--workers N] [--leaves N] [--certificate FILE]"
    ++ line_end ++ codes "       symdiff replay OLD NEW CERTIFICATE [--settings FILE]" ++ line_end
    ++ codes "       symdiff gen N [--workers N] [--leaves N]" ++ line_end

abbrev pub certificate_size : List ℕ
certificate_size = codes "error: certificate size" ++ line_end
