-- Lines of a word and numbers.
use Rattle.std.specs.Prelude.{ℕ, List, [], ◌∷◌, Option, Some, None}
use Rattle.sd_kernel.specs.declared.Step.TheVariants.{Term, Split, Order, Ite, Chain, Close}
use Rattle.sd_kernel.specs.declared.NodeLine.TheVariants.{Eq, Le, Read, Diff}
use Rattle.sd_kernel.specs.declared.RowLine.TheVariants.{Fact, Back, Add, Cut}
use Rattle.sd_cert.specs.declared.keyword.Keyword.{Keyword}
use Rattle.sd_cert.specs.declared.keyword.Keyword.TheVariants as word
use Rattle.sd_cert.specs.declared.line.Line.{Line}
use Rattle.sd_cert.specs.declared.line.Line.TheVariants.{Version, Pairs, Candidate, Step as StepLine, Rows, Row}

-- the word and the numbers of a line that has nothing else
abbrev pub word_and_numbers : Line → Option (Keyword × List ℕ)
word_and_numbers (Version n) = Some (word.Version, n ∷ [])
word_and_numbers (Pairs n) = Some (word.Pairs, n ∷ [])
word_and_numbers (Candidate k) = Some (word.Candidate, k ∷ [])
word_and_numbers (StepLine (Term (Eq a b))) = Some (word.TermEq, a ∷ b ∷ [])
word_and_numbers (StepLine (Term (Le a b))) = Some (word.TermLe, a ∷ b ∷ [])
word_and_numbers (StepLine (Term (Read a b))) = Some (word.TermRead, a ∷ b ∷ [])
word_and_numbers (StepLine (Term (Diff a b))) = Some (word.TermDiff, a ∷ b ∷ [])
word_and_numbers (StepLine (Split t)) = Some (word.Split, t ∷ [])
word_and_numbers (StepLine (Order e l r)) = Some (word.Order, e ∷ l ∷ r ∷ [])
word_and_numbers (StepLine (Ite t e)) = Some (word.Ite, t ∷ e ∷ [])
word_and_numbers (StepLine (Chain e fs)) = Some (word.Chain, e ∷ fs)
word_and_numbers (StepLine (Close k)) = Some (word.Close, k ∷ [])
word_and_numbers (Rows n) = Some (word.Rows, n ∷ [])
word_and_numbers (Row (Fact k)) = Some (word.Fact, k ∷ [])
word_and_numbers (Row (Back k)) = Some (word.Back, k ∷ [])
word_and_numbers (Row (Add a m b n)) = Some (word.Add, a ∷ m ∷ b ∷ n ∷ [])
word_and_numbers (Row (Cut a)) = Some (word.Cut, a ∷ [])
word_and_numbers _ = None
