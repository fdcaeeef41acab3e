-- Which trees the numbers of a query in the making stand for.
use Rattle.std.specs.Prelude.{◌≡◌, ℕ, ◌<◌, List, ◌++◌, All, map, length}
use Rattle.sd_core.specs.Store.{Store, map_store}
use Rattle.sd_term.specs.Tree.{Tree}
use Rattle.sd_term.specs.Bank.{tree_at}
use Rattle.sd_term.specs.Build.{Extends}
use Rattle.sd_product.specs.Relations.{exit}
use Rattle.sd_product.specs.declared.relations.StateTerms.{StateTerms}
use Rattle.sd_product.specs.declared.relations.EndTerms.{EndTerms}

-- Numbers xs of a bank have become ys of a later one, which stand for the same trees and then for these further ones.
pub record Adds (a : List Tree) (xs : List ℕ) (b : List Tree) (ys : List ℕ) (ts : List Tree) : Type 0 where
  pub within : All (λ id. id < length b) ys
  pub trees : map (tree_at b) ys ≡ map (tree_at a) xs ++ ts
  pub kept : Extends a b

-- ---- states

-- the numbers at the spots of a state
abbrev pub numbers_of : StateTerms → Store ℕ
numbers_of n = exit n.ins.now n.outs.now n.globals.now

-- the trees that they stand for
abbrev pub store_at : List Tree → StateTerms → Store Tree
store_at bank n = map_store (tree_at bank) (numbers_of n)

-- they are of the bank
pub record AreWithin (bank : List Tree) (n : StateTerms) : Type 0 where
  pub ins : All (λ id. id < length bank) n.ins.now
  pub outs : All (λ id. id < length bank) n.outs.now
  pub globals : All (λ id. id < length bank) n.globals.now

pub record IsEndWithin (bank : List Tree) (n : EndTerms) : Type 0 where
  pub state : AreWithin bank n.state
  pub flag : n.flag < length bank
