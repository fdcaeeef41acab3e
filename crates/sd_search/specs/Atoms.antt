-- the literals that give atoms their values
use Rattle.std.specs.Prelude.{ℕ, suc, Bool, false, cond, List, [], ◌∷◌, Option, unwrap_or}
use Rattle.sd_term.specs.declared.cube.Literal.{Literal}
use Rattle.sd_term.specs.Tree.{Tree}
use Rattle.sd_cube.specs.Atoms.{is_atom}

-- the values of the atoms among terms whose numbers begin at i
abbrev pub atom_literals : ℕ → List Tree → List (Option Bool) → List Literal
atom_literals i [] ks = []
atom_literals i (t ∷ ts) [] = []
atom_literals i (t ∷ ts) (k ∷ ks) =
    cond (is_atom t) (record { term = i; value = unwrap_or k false } ∷ atom_literals (suc i) ts ks)
    (atom_literals (suc i) ts ks)
