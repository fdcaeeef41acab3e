-- Queries are facts: terms with a truth value.
use Rattle.std.specs.Prelude.{◌≡◌, Bool, true, List}
use Rattle.std.specs.List.{AllByRecursion}
use Rattle.sd_term.specs.Tree.{Tree}
use Rattle.sd_term.specs.Sorts.{is_truth_valued}
use Rattle.sd_product.specs.Work.{PairedPrograms, AreWellFormed, queries_of}

abbrev pub AreTruths : List Tree → Type 0
AreTruths facts = AllByRecursion (λ t. is_truth_valued t ≡ true) facts

-- each fact of each query is truth-valued, under every table
abbrev pub QueriesAreTruths : Type 0
QueriesAreTruths =
    (work : PairedPrograms) → AreWellFormed work → (table : List Bool) →
    AllByRecursion AreTruths (queries_of work table)
