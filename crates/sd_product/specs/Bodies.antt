-- Of which pair bodies are, and which candidates are judged over them.
use Rattle.std.specs.Prelude.{◌≡◌, ℕ, Some, length, slice_get, take}
use Rattle.sd_product.specs.Query.{Claimed}
use Rattle.sd_product.specs.Work.{PairedPrograms, pairs_in, claims_in, claims_of}

-- a pair of two programs, by its place
pub record PairOf : Type 0 where
  pub work : PairedPrograms
  pub pair : ℕ

-- candidate n of all is one of pair i
pub record IsAbout (work : PairedPrograms) (n i : ℕ) : Type 0 where
  pub claimed : Claimed
  pub claim_is : slice_get (claims_in work) n ≡ Some claimed
  pub pair_is : slice_get (pairs_in work) i ≡ Some claimed.pair

-- how many candidates the pairs before pair i have
abbrev pub count_before : PairedPrograms → ℕ → ℕ
count_before work i = length (claims_of work (take i (pairs_in work)))
