-- When a table of live candidates stands on proofs.
use Rattle.std.specs.Prelude.{◌≡◌, ℕ, suc, Bool, true, false, List, [], ◌∷◌, Some, map, slice_get}
use Rattle.std.specs.List.{AllByRecursion}
use Rattle.sd_term.specs.Tree.{Tree}
use Rattle.sd_kernel.specs.Proof.{Proves}
use Rattle.sd_kernel.specs.declared.proved.How.{How}
use Rattle.sd_kernel.specs.declared.proved.How.TheVariants.{Steps}
use Rattle.sd_kernel.specs.declared.proved.Proved.{Proved}
use Rattle.sd_product.specs.Work.{PairedPrograms, queries_of}

-- the numbers of the live candidates of a table that begins with this number
abbrev pub live_from : ℕ → List Bool → List ℕ
live_from n [] = []
live_from n (true ∷ bs) = n ∷ live_from (suc n) bs
live_from n (false ∷ bs) = live_from (suc n) bs

-- the candidates of proofs
abbrev pub proved_of : List Proved → List ℕ
proved_of = map (λ p. p.candidate)

-- what a live candidate with this query stands on
abbrev pub IsHow : List Tree → How → Type 0
IsHow facts (Steps proof) = Proves facts proof.steps

pub record IsProved (queries : List (List Tree)) (p : Proved) : Type 0 where
  pub facts : List Tree
  pub query : slice_get queries p.candidate ≡ Some facts
  pub how : IsHow facts p.how

-- each live candidate has one entry, in ascending order, with a proof of its query among these
pub record AreProved (queries : List (List Tree)) (table : List Bool) (proofs : List Proved) : Type 0 where
  pub numbers : proved_of proofs ≡ live_from 0 table
  pub proved : AllByRecursion (IsProved queries) proofs

-- the live candidates of a work are proved, under this same table
abbrev pub IsInductive : PairedPrograms → List Bool → List Proved → Type 0
IsInductive work table proofs = AreProved (queries_of work table) table proofs
