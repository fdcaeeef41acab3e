-- what is known of terms under the values of their atoms
use Rattle.std.proofs.Common.{◌≡◌, ◌≢◌, List, [], ◌∷◌, ◌++◌, refl, sym, ap, ◌∙◌, Bool, true, false, cond, ◌||◌, Option, Some, None, unwrap_or, is_some}
use Rattle.std.specs.List.{AllByRecursion}
use Rattle.sd_term.specs.Tree.{Tree, leaf, call, head_of, below, subterms, at_parts, same_tree, same_tree-true}
use Rattle.sd_term.specs.Sorts.{sort_of, sorts_of, is_truth_valued, IsWellSorted, PartsWellSorted, Takes}
use Rattle.sd_term.specs.Numbering.{has, AllIn}
use Rattle.sd_term.proofs.Numbers.{AllIn-left, AllIn-right}
use Rattle.sd_kernel.specs.Known.{Fact, Trail, first_fact, by_parts, known_by, known}
use Rattle.sd_cube.specs.Atoms.{is_atom}
use Rattle.sd_search.proofs.AtomFacts.{atom-truth, atom-known, unjudged-atom}
use Rattle.sd_search.proofs.Judged.{AreKnown, are-known-last, IfJudged, judged-some}

-- the values of the atoms, as facts
abbrev pub atom_facts : Trail → List Tree → Trail
atom_facts b [] = []
atom_facts b (t ∷ ts) = cond (is_atom t) ((t, unwrap_or (known b t) false) ∷ atom_facts b ts) (atom_facts b ts)

pub or-cases : {P : Type 0} (a c : Bool) → a || c ≡ true → (a ≡ true → P) → (a ≡ false → c ≡ true → P) → P
or-cases true c e f g = f refl
or-cases false c e f g = g refl e

atom-first : (b : Trail) (ts : List Tree) (t : Tree) → has ts t ≡ true → is_atom t ≡ true → first_fact (atom_facts b ts) t ≡ Some (unwrap_or (known b t) false)
atom-first b [] t h a = let f : false ≡ true = h in cc
atom-first b (u ∷ ts) t h a =
    or-cases (same_tree u t) (has ts t) h
    (λ e. let same : u ≡ t = same_tree-true u t e in
    ap (λ q. first_fact (cond q ((u, unwrap_or (known b u) false) ∷ atom_facts b ts) (atom_facts b ts)) t) (ap is_atom same ∙ a)
    ∙ ap (λ q. cond q (Some (unwrap_or (known b u) false)) (first_fact (atom_facts b ts) t)) e
    ∙ ap (λ w. Some (unwrap_or (known b w) false)) same)
    (λ e k. go (is_atom u) e (atom-first b ts t k a))
  where
    go : (q : Bool) → same_tree u t ≡ false → first_fact (atom_facts b ts) t ≡ Some (unwrap_or (known b t) false)
        → first_fact (cond q ((u, unwrap_or (known b u) false) ∷ atom_facts b ts) (atom_facts b ts)) t ≡ Some (unwrap_or (known b t) false)
    go true e ih = ap (λ q. cond q (Some (unwrap_or (known b u) false)) (first_fact (atom_facts b ts) t)) e ∙ ih
    go false e ih = ih

some-value : (k : Option Bool) → is_some k ≡ true → Some (unwrap_or k false) ≡ k
some-value (Some x) e = refl
some-value None e = let f : false ≡ true = e in cc

pub not-none-some : (k : Option Bool) → k ≢ None → is_some k ≡ true
not-none-some (Some x) n = refl
not-none-some None n = absurd (n refl)

pub some-not-none : (k : Option Bool) → is_some k ≡ true → k ≢ None
some-not-none k e n = let f : false ≡ true = ap (λ (o : Option Bool). is_some o) (sym n) ∙ e in cc

-- each fact is on a truth-valued term
abbrev pub AllTruths : Trail → Type 0
AllTruths b = AllByRecursion (λ (f : Fact). is_truth_valued f.0 ≡ true) b

-- facts on truth-valued terms alone say nothing of others
no-fact : (b : Trail) (t : Tree) → AllTruths b → is_truth_valued t ≡ false → first_fact b t ≡ None
no-fact [] t a n = refl
no-fact (f ∷ b) t a n = go (same_tree f.0 t) refl (no-fact b t a.1 n)
  where
    go : (q : Bool) → same_tree f.0 t ≡ q → first_fact b t ≡ None → cond q (Some f.1) (first_fact b t) ≡ None
    go true e ih = let g : true ≡ false = sym a.0 ∙ ap is_truth_valued (same_tree-true f.0 t e) ∙ n in cc
    go false e ih = ih

pub atom-truths : (b : Trail) (ts : List Tree) → AllTruths (atom_facts b ts)
atom-truths b [] = tt
atom-truths b (t ∷ ts) = go (is_atom t) refl (atom-truths b ts)
  where
    go : (q : Bool) → is_atom t ≡ q → AllTruths (atom_facts b ts) → AllTruths (cond q ((t, unwrap_or (known b t) false) ∷ atom_facts b ts) (atom_facts b ts))
    go true e ih = (atom-truth t e, ih)
    go false e ih = ih

module _ (terms : List Tree) (b : Trail) (truths : AllTruths b) (atoms : (t : Tree) → has terms t ≡ true → is_atom t ≡ true → is_some (known b t) ≡ true) where
  first-same : (t : Tree) → has terms t ≡ true → by_parts (head_of t) (sorts_of t) (at_parts (known_by b) t) ≡ None → first_fact (atom_facts b terms) t ≡ first_fact b t
  first-same t h e = go (is_truth_valued t) refl
    where
      go : (q : Bool) → is_truth_valued t ≡ q → first_fact (atom_facts b terms) t ≡ first_fact b t
      go true s =
          let a : is_atom t ≡ true = unjudged-atom t (at_parts (known_by b) t) s e in
          atom-first b terms t h a ∙ some-value (known b t) (atoms t h a) ∙ atom-known b t a
      go false s = no-fact (atom_facts b terms) t (atom-truths b terms) s ∙ sym (no-fact b t truths s)

  node-same : (t : Tree) → has terms t ≡ true → at_parts (known_by (atom_facts b terms)) t ≡ at_parts (known_by b) t → known (atom_facts b terms) t ≡ known b t
  node-same t h e =
      ap (λ ks. unwrap_or (by_parts (head_of t) (sorts_of t) ks) (first_fact (atom_facts b terms) t)) e
      ∙ go (by_parts (head_of t) (sorts_of t) (at_parts (known_by b) t)) refl
    where
      go : (o : Option (Option Bool)) → by_parts (head_of t) (sorts_of t) (at_parts (known_by b) t) ≡ o → unwrap_or o (first_fact (atom_facts b terms) t) ≡ unwrap_or o (first_fact b t)
      go None f = first-same t h f
      go (Some k) f = refl

  parts-same : (t : Tree) → AllIn terms (below t) → at_parts (known_by (atom_facts b terms)) t ≡ at_parts (known_by b) t
  parts-same (leaf h) w = refl
  parts-same (call f x) w =
      let right : AllIn terms (below x ++ x ∷ []) = AllIn-right terms (below f) (below x ++ x ∷ []) w in
      λ i. parts-same f (AllIn-left terms (below f) (below x ++ x ∷ []) w) i
      ++ node-same x (AllIn-right terms (below x) (x ∷ []) right).0 (parts-same x (AllIn-left terms (below x) (x ∷ []) right)) i ∷ []

  -- every term has one value under the facts and under the values of the atoms
  pub known-same : (t : Tree) → AllIn terms (subterms t) → known (atom_facts b terms) t ≡ known b t
  known-same t w = node-same t (AllIn-right terms (below t) (t ∷ []) w).0 (parts-same t (AllIn-left terms (below t) (t ∷ []) w))

module _ (terms : List Tree) (b : Trail) (atoms : (t : Tree) → has terms t ≡ true → is_atom t ≡ true → is_some (known b t) ≡ true) where
  node-some : (t : Tree) → has terms t ≡ true → Takes (head_of t) (sorts_of t) → AreKnown (at_parts (known_by b) t) (sorts_of t) → is_truth_valued t ≡ true → is_some (known b t) ≡ true
  node-some t h w a s = go (by_parts (head_of t) (sorts_of t) (at_parts (known_by b) t)) refl (judged-some (head_of t) (sorts_of t) (at_parts (known_by b) t) w a)
    where
      go : (o : Option (Option Bool)) → by_parts (head_of t) (sorts_of t) (at_parts (known_by b) t) ≡ o → IfJudged o → is_some (known b t) ≡ true
      go None e j = atoms t h (unjudged-atom t (at_parts (known_by b) t) s e)
      go (Some k) e j = ap (λ (p : Option (Option Bool)). is_some (unwrap_or p (first_fact b t))) e ∙ j

  parts-some : (t : Tree) → AllIn terms (below t) → PartsWellSorted t → AreKnown (at_parts (known_by b) t) (sorts_of t)
  parts-some (leaf h) w p = tt
  parts-some (call f x) w p =
      let right : AllIn terms (below x ++ x ∷ []) = AllIn-right terms (below f) (below x ++ x ∷ []) w in
      are-known-last (at_parts (known_by b) f) (sorts_of f) (known b x) (sort_of x) (parts-some f (AllIn-left terms (below f) (below x ++ x ∷ []) w) p.0)
      (node-some x (AllIn-right terms (below x) (x ∷ []) right).0 p.1.1 (parts-some x (AllIn-left terms (below x) (x ∷ []) right) p.1.0))

  -- every truth-valued term has a value where the atoms have
  pub known-some : (t : Tree) → AllIn terms (subterms t) → IsWellSorted t → is_truth_valued t ≡ true → is_some (known b t) ≡ true
  known-some t w p s = node-some t (AllIn-right terms (below t) (t ∷ []) w).0 p.1 (parts-some t (AllIn-left terms (below t) (t ∷ []) w) p.0) s
