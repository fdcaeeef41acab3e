-- What is worked out once for two programs, before their procedures are paired.
use Rattle.std.specs.Prelude.{◌≡◌, ℕ, suc, ◌<◌, ◌==◌, Bool, List, [], ◌∷◌, ◌++◌, map, length, Option, Some, None, get_or, is_none, if◌then◌else◌}
use Rattle.std.specs.List.{filter}
use Rattle.sd_core.specs.declared.CoreProc.{CoreProc}
use Rattle.sd_core.specs.declared.CoreProgram.{CoreProgram}
use Rattle.sd_core.specs.Failure.{shared_of}
use Rattle.sd_runs.specs.Calls.{callees_of}
use Rattle.sd_match.specs.Pairs.{owner, least, least_with, partner, unmatched_calls}
use Rattle.sd_match.specs.declared.tables.Tables.{Tables}

-- the lesser of two numbers, where both are there
abbrev pub lower : Option ℕ → Option ℕ → Option ℕ
lower None b = b
lower (Some n) b = Some (least_with n b)

-- whether this list of partners has none for procedure q
abbrev pub lacks : List (Option ℕ) → ℕ → Bool
lacks partners q = is_none (get_or partners q None)

-- the procedures without a partner that the body of procedure i and those of its loops call
abbrev pub calls_lacking : List (Option ℕ) → ℕ → ℕ → List CoreProc → List ℕ
calls_lacking partners i n [] = []
calls_lacking partners i n (p ∷ ps) =
    (if owner n p.parent == i then filter (lacks partners) (callees_of p.body) else [])
    ++ calls_lacking partners i (suc n) ps

-- for each procedure of the text the first one without a partner that it or a loop of it calls
abbrev pub AreLeast : List (Option ℕ) → List CoreProc → List (Option ℕ) → Type 0
AreLeast partners procs entries =
    (i : ℕ) → i < length procs → get_or entries i None ≡ least (calls_lacking partners i 0 procs)

-- so of two programs
abbrev pub AreFirstUnmatched : CoreProgram → CoreProgram → List (Option ℕ) → Type 0
AreFirstUnmatched P Q entries =
    (i : ℕ) → i < length P.procs → get_or entries i None ≡ least (unmatched_calls P Q i 0 P.procs)

-- the tables of two programs
pub record AreTablesOf (P Q : CoreProgram) (tables : Tables) : Type 0 where
  pub partners : tables.partners.items ≡ map (partner P Q) P.procs
  pub olds : AreFirstUnmatched P Q tables.olds.items
  pub news : AreFirstUnmatched Q P tables.news.items
  pub shared : tables.shared.items ≡ shared_of P.globals Q.globals
