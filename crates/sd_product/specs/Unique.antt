-- Which unique constants occur in some terms, and that they differ.
use Rattle.std.specs.Prelude.{List, [], ◌∷◌, ◌++◌, if◌then◌else◌}
use Rattle.sd_base.specs.declared.Var.{Var}
use Rattle.sd_core.specs.Formed.{same_sort}
use Rattle.sd_term.specs.Tree.{Tree}
use Rattle.sd_term.specs.Sorts.{sort_of}
use Rattle.sd_term.specs.Build.{not_of, eq_of}
use Rattle.sd_product.specs.Query.{any_constant, constant_term}

-- the constants that are among these terms
abbrev pub present : List Tree → List Var → List Tree
present terms [] = []
present terms (c ∷ cs) = (if any_constant c terms then constant_term c ∷ [] else []) ++ present terms cs

-- two terms differ, where they have one type
abbrev pub differ_two : Tree → Tree → List Tree
differ_two t u = if same_sort (sort_of t) (sort_of u) then not_of (eq_of t u) ∷ [] else []

abbrev pub differ_from : Tree → List Tree → List Tree
differ_from t [] = []
differ_from t (u ∷ us) = differ_two t u ++ differ_from t us

-- each two of them
abbrev pub differ : List Tree → List Tree
differ [] = []
differ (t ∷ ts) = differ_from t ts ++ differ ts
