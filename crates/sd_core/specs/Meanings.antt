-- Which meanings and which inputs count for a core program.
use Rattle.std.specs.Prelude.{◌≡◌, ◌≢◌, Bool, true, false, List, [], ◌∷◌, IsTrue}
use Rattle.std.specs.List.{AllByRecursion}
use Rattle.sd_base.specs.declared.sort.Sort.{Sort}
use Rattle.sd_base.specs.declared.sort.Var.{Var}
use Rattle.sd_base.specs.Value.{Value}
use Rattle.sd_base.specs.Sorts.{HasSort}
use Rattle.sd_base.specs.Meaning.{Table, Meaning}
use Rattle.sd_core.specs.declared.tree.Function.{Function}
use Rattle.sd_core.specs.declared.tree.CoreProgram.{CoreProgram}
use Rattle.sd_core.specs.Run.{is_true}
use Rattle.sd_core.specs.Interpretation.{core_interpretation}

-- values of these types, one by one
abbrev pub HaveSorts : List Sort → List Value → Type 0
HaveSorts [] vs = vs ≡ []
HaveSorts (s ∷ ss) [] = ⊥
HaveSorts (s ∷ ss) (v ∷ vs) = HasSort s v × HaveSorts ss vs

abbrev pub FitsTable : List Sort → Sort → Table → Type 0
FitsTable args result t =
    HasSort result t.otherwise × AllByRecursion (λ row. HaveSorts args row.0 × HasSort result row.1) t.rows

-- a function, or a constant, has its type
abbrev pub FitsBy : Meaning → Function → Bool → Type 0
FitsBy M g true = HasSort g.result (M.constant g.name)
FitsBy M g false = FitsTable g.args g.result (M.function g.name)

abbrev pub Fits : Meaning → Function → Type 0
Fits M g = FitsBy M g g.constant

-- the constants of one type have different values
abbrev pub Differ : Meaning → List Var → Type 0
Differ M [] = Unit {0}
Differ M (c ∷ cs) = AllByRecursion (λ d. c.sort ≡ d.sort → M.constant c.name ≢ M.constant d.name) cs × Differ M cs

-- a meaning of the functions, constants and types of a core program
pub record IsMeaningOf (P : CoreProgram) (M : Meaning) : Type 0 where
  pub starts : (s : Sort) → HasSort s (M.start s)
  pub functions : AllByRecursion (Fits M) P.functions
  pub axioms : AllByRecursion (λ e. IsTrue (is_true (core_interpretation P M) e)) P.axioms
  pub uniques : Differ M P.uniques
