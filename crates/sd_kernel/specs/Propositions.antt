-- terms about truth values alone
use Rattle.std.specs.Prelude.{◌≡◌, List, [], ◌∷◌}
use Rattle.sd_base.specs.declared.sort.Sort.{Bool as Truth}
use Rattle.sd_term.specs.Tree.{Tree}
use Rattle.sd_term.specs.Sorts.{sort_of, IsWellSorted}
use Rattle.sd_kernel.specs.Boolean.{IsBoolean}

-- a well-sorted truth-valued term whose parts are all truth values
abbrev pub IsProposition : Tree → Type 0
IsProposition t = IsBoolean t × IsWellSorted t × (sort_of t ≡ Truth)

abbrev pub AllPropositions : List Tree → Type 0
AllPropositions [] = Unit {0}
AllPropositions (t ∷ ts) = IsProposition t × AllPropositions ts
