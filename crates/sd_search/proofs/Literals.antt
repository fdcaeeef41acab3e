-- the literals of the atoms by number
use Rattle.std.proofs.Common.{◌≡◌, ℕ, suc, ◌<◌, ◌≤◌, List, [], ◌∷◌, ◌++◌, map, length, get_or, refl, sym, ap, ◌∙◌, Bool, true, false, cond, unwrap_or, All, arith, append_assoc, length-append}
use Rattle.std.proofs.lemmas.List.Elements.{All-cons, All-nil}
use Rattle.sd_term.specs.declared.cube.Literal.{Literal}
use Rattle.sd_term.specs.Tree.{Tree}
use Rattle.sd_term.specs.Bank.{tree_at}
use Rattle.sd_term.specs.Sorts.{is_truth_valued}
use Rattle.sd_kernel.specs.Known.{Trail, known}
use Rattle.sd_cube.specs.Atoms.{is_atom}
use Rattle.sd_cube.specs.CubeTerms.{literals_of}
use Rattle.sd_cube.specs.OpenCube.{NoneTwice}
use Rattle.sd_search.specs.Atoms.{atom_literals}
use Rattle.sd_search.proofs.AtomFacts.{atom-truth}
use Rattle.sd_search.proofs.Same.{atom_facts}

tree_at-mid : (pre ts : List Tree) (t : Tree) → tree_at (pre ++ t ∷ ts) (length pre) ≡ t
tree_at-mid [] ts t = refl
tree_at-mid (u ∷ pre) ts t = tree_at-mid pre ts t

module _ (terms : List Tree) (b : Trail) where
  -- one term on
  place-next : (pre : List Tree) (t : Tree) (i : ℕ) → i ≡ length pre → suc i ≡ length (pre ++ t ∷ [])
  place-next pre t i e = omega (arith, e, length-append pre (t ∷ []))

  place-tree : (pre ts : List Tree) (t : Tree) (i : ℕ) → i ≡ length pre → terms ≡ pre ++ t ∷ ts → tree_at terms i ≡ t
  place-tree pre ts t i e f = (λ j. tree_at (f j) (e j)) ∙ tree_at-mid pre ts t

  place-below : (pre ts : List Tree) (t : Tree) (i : ℕ) → i ≡ length pre → terms ≡ pre ++ t ∷ ts → i < length terms
  place-below pre ts t i e f = let k : length terms ≡ length (pre ++ t ∷ ts) = ap length f in omega (arith, e, k, length-append pre (t ∷ ts))

  pub literals-facts : (pre ts : List Tree) (i : ℕ) → i ≡ length pre → terms ≡ pre ++ ts → literals_of terms (atom_literals i ts (map (λ t. known b t) ts)) ≡ atom_facts b ts
  literals-facts pre [] i e f = refl
  literals-facts pre (t ∷ ts) i e f =
      go (is_atom t) (place-tree pre ts t i e f) (literals-facts (pre ++ t ∷ []) ts (suc i) (place-next pre t i e) (f ∙ sym (append_assoc pre (t ∷ []) ts)))
    where
      go : (q : Bool) → tree_at terms i ≡ t → literals_of terms (atom_literals (suc i) ts (map (λ u. known b u) ts)) ≡ atom_facts b ts
          → literals_of terms (cond q (record { term = i; value = unwrap_or (known b t) false } ∷ atom_literals (suc i) ts (map (λ u. known b u) ts)) (atom_literals (suc i) ts (map (λ u. known b u) ts)))
          ≡ cond q ((t, unwrap_or (known b t) false) ∷ atom_facts b ts) (atom_facts b ts)
      go true here more = λ j. (here j, unwrap_or (known b t) false) ∷ more j
      go false here more = more

  -- each literal has one of these numbers, and names a truth value
  pub record IsNamed (i n : ℕ) (l : Literal) : Type 0 where
    pub from : i ≤ l.term
    pub below : l.term < n
    pub sort : is_truth_valued (tree_at terms l.term) ≡ true

  named-more : (i n : ℕ) (l : Literal) → IsNamed (suc i) n l → IsNamed i n l
  named-more i n l h = record { from = let k = h.from in omega (arith, k); below = h.below; sort = h.sort }

  pub literals-named : (pre ts : List Tree) (i : ℕ) → i ≡ length pre → terms ≡ pre ++ ts → All (IsNamed i (length terms)) (atom_literals i ts (map (λ t. known b t) ts))
  literals-named pre [] i e f = All-nil (IsNamed i (length terms))
  literals-named pre (t ∷ ts) i e f =
      go (is_atom t) refl (place-tree pre ts t i e f) (place-below pre ts t i e f) (literals-named (pre ++ t ∷ []) ts (suc i) (place-next pre t i e) (f ∙ sym (append_assoc pre (t ∷ []) ts)))
    where
      go : (q : Bool) → is_atom t ≡ q → tree_at terms i ≡ t → i < length terms → All (IsNamed (suc i) (length terms)) (atom_literals (suc i) ts (map (λ u. known b u) ts))
          → All (IsNamed i (length terms)) (cond q (record { term = i; value = unwrap_or (known b t) false } ∷ atom_literals (suc i) ts (map (λ u. known b u) ts)) (atom_literals (suc i) ts (map (λ u. known b u) ts)))
      go true a here long more =
          All-cons (IsNamed i (length terms)) (record { term = i; value = unwrap_or (known b t) false }) (atom_literals (suc i) ts (map (λ u. known b u) ts))
          (record { from = omega arith; below = long; sort = ap is_truth_valued here ∙ atom-truth t a })
          (λ k d lt. named-more i (length terms) (get_or (atom_literals (suc i) ts (map (λ u. known b u) ts)) k d) (more k d lt))
      go false a here long more = λ k d lt. named-more i (length terms) (get_or (atom_literals (suc i) ts (map (λ u. known b u) ts)) k d) (more k d lt)

  pub literals-once : (pre ts : List Tree) (i : ℕ) → i ≡ length pre → terms ≡ pre ++ ts → NoneTwice (atom_literals i ts (map (λ t. known b t) ts))
  literals-once pre [] i e f = tt
  literals-once pre (t ∷ ts) i e f =
      go (is_atom t) (literals-named (pre ++ t ∷ []) ts (suc i) (place-next pre t i e) (f ∙ sym (append_assoc pre (t ∷ []) ts)))
      (literals-once (pre ++ t ∷ []) ts (suc i) (place-next pre t i e) (f ∙ sym (append_assoc pre (t ∷ []) ts)))
    where
      go : (q : Bool) → All (IsNamed (suc i) (length terms)) (atom_literals (suc i) ts (map (λ u. known b u) ts)) → NoneTwice (atom_literals (suc i) ts (map (λ u. known b u) ts))
          → NoneTwice (cond q (record { term = i; value = unwrap_or (known b t) false } ∷ atom_literals (suc i) ts (map (λ u. known b u) ts)) (atom_literals (suc i) ts (map (λ u. known b u) ts)))
      go true names more = ((λ k d lt same. let h = (names k d lt).from in absurd (omega (arith, h, same))), more)
      go false names more = more
