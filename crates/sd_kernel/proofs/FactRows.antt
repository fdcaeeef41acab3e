-- the rows of the facts of a branch
use Rattle.std.proofs.Common.{◌≡◌, List, [], ◌∷◌, refl, true, false}
use Rattle.sd_term.specs.declared.node.Head.{Head}
use Rattle.sd_term.specs.Heads.{Eq}
use Rattle.sd_term.specs.Tree.{Tree, head_of, and-left}
use Rattle.sd_term.specs.Sorts.{sort_of}
use Rattle.sd_term.specs.Truth.{Valuation}
use Rattle.sd_forms.specs.FactRows.{part_at, is_eq_head, is_le_head, is_int_sort, is_int_eq, is_le}
use Rattle.sd_forms.specs.LinearForms.{columns_under}
use Rattle.sd_forms.proofs.RowsHold.{rows_of-hold}
use Rattle.sd_kernel.specs.Known.{Trail}
use Rattle.sd_kernel.proofs.Members.{sorted-in, AreAbout}
use Rattle.sd_kernel.proofs.Grows.{AreTerms}
use Rattle.sd_kernel.proofs.RowLines.{FactsHold}
use Rattle.sd_kernel.proofs.Says.{AllTrue}

-- an equality is no order
pub eq-no-order : (t : Tree) → is_int_eq t ≡ true → is_le t ≡ false
eq-no-order t e = go (head_of t) (and-left (is_eq_head (head_of t)) (is_int_sort (sort_of (part_at t 0))) e)
  where
    go : (h : Head) → is_eq_head h ≡ true → is_le_head h ≡ false
    go Eq e = refl
    go _ e = let f : false ≡ true = e in cc

-- the rows of true facts hold
pub facts-hold : (v : Valuation) (terms : List Tree) → AreTerms terms → (trail : Trail) → AreAbout terms trail → AllTrue v trail → FactsHold (columns_under v terms) terms trail
facts-hold v terms w [] about a = tt
facts-hold v terms w (f ∷ fs) about a =
    (rows_of-hold v terms f.0 f.1 w.closed about.0 (sorted-in terms f.0 w.sorted about.0) a.0, facts-hold v terms w fs about.1 a.1)
