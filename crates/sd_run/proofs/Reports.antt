-- A report from its parts.
use Rattle.std.proofs.Common.{◌≡◌, ◌∙◌, ap, ℕ, List, [], ◌++◌}
use Rattle.std.specs.Prelude.{codes, length}
use Rattle.std.specs.List.{flat_map}
use Rattle.sd_core.specs.declared.CoreProc.{CoreProc}
use Rattle.sd_core.specs.declared.CoreProgram.{CoreProgram}
use Rattle.sd_run.specs.declared.verdict.PairVerdict.{PairVerdict}
use Rattle.sd_run.specs.Report.{verdict_line, only_line, summary, report}

-- four pieces added one after another
four : (o p q r s a b c d : List ℕ) → o ≡ [] → p ≡ o ++ a → q ≡ p ++ b → r ≡ q ++ c → s ≡ r ++ d → s ≡ a ++ b ++ c ++ d
four o p q r s a b c d e f g h k = k ∙ ap (λ x. x ++ d) (h ∙ ap (λ x. x ++ c) (g ∙ ap (λ x. x ++ b) (f ∙ ap (λ x. x ++ a) e)))

pub report_joined : (verdicts : List PairVerdict) (old new : CoreProgram) (olds news : List CoreProc) (m n : ℕ) (o p q r s : List ℕ) → olds ≡ old.procs → news ≡ new.procs → m ≡ length old.axioms → n ≡ length new.axioms
    → o ≡ [] → p ≡ o ++ flat_map verdict_line verdicts → q ≡ p ++ flat_map (only_line (codes "only old ") news) olds → r ≡ q ++ flat_map (only_line (codes "only new ") olds) news → s ≡ r ++ summary verdicts m n
    → s ≡ report old new verdicts
report_joined verdicts old new olds news m n o p q r s is_old is_new om on e f g h k =
    four o p q r s _ _ _ _ e f g h k
    ∙ (λ i. flat_map verdict_line verdicts ++ flat_map (only_line (codes "only old ") (is_new i)) (is_old i) ++ flat_map (only_line (codes "only new ") (is_old i)) (is_new i) ++ summary verdicts (om i) (on i))
