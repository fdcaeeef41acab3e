-- The table of live candidates while candidates die.
use Rattle.std.specs.Prelude.{◌≡◌, ℕ, ◌<◌, Bool, true, false, List, [], ◌∷◌, Some, length, slice_get, slice_set, Contains}
pub use Rattle.sd_product.specs.Inductive.{live_from}

-- the table after these candidates died
abbrev pub cleared : List Bool → List ℕ → List Bool
cleared table [] = table
cleared table (c ∷ cs) = cleared (slice_set table c false) cs

-- a table of so many candidates that holds each one which did not die before
pub record HoldsAllBut (count : ℕ) (dead : List ℕ) (table : List Bool) : Type 0 where
  pub size : length table ≡ count
  pub held : (c : ℕ) → c < count → (Contains dead c → ⊥) → slice_get table c ≡ Some true
