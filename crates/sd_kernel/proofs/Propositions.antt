-- building over propositions gives propositions
use Rattle.std.proofs.Common.{List, [], ◌∷◌, ◌++◌, Bool, true, false, if◌then◌else◌, Option, Some, None}
use Rattle.sd_term.specs.declared.node.Head.{Head}
use Rattle.sd_term.specs.Heads.{True, False, Not, And, Or, Ite}
use Rattle.sd_term.specs.Tree.{Tree, leaf, call, head_of, parts_of, tree}
use Rattle.sd_term.specs.Sorts.{sort_of, same_sort, is_truth_valued}
use Rattle.sd_term.specs.Build.{part_or, not_by, not_of, constant_of, and_by, and_of, or_by, or_of, ite_by, ite_of}
use Rattle.sd_kernel.specs.Boolean.{PartsBoolean, IsBoolean, AllBoolean}

boolean-last : (ts : List Tree) (t : Tree) → AllBoolean ts → IsBoolean t → AllBoolean (ts ++ t ∷ [])
boolean-last [] t a b = (b, tt)
boolean-last (u ∷ ts) t a b = (a.0, boolean-last ts t a.1 b)

parts-boolean : (t : Tree) → PartsBoolean t → AllBoolean (parts_of t)
parts-boolean (leaf h) b = tt
parts-boolean (call f x) b = boolean-last (parts_of f) x (parts-boolean f b.0) b.1

part_or-boolean : (part whole : Tree) → IsBoolean part → IsBoolean whole → IsBoolean (part_or part whole)
part_or-boolean part whole p w = go (is_truth_valued part)
  where
    go : (q : Bool) → IsBoolean (if q then part else whole)
    go true = p
    go false = w

pub not-boolean : (a : Tree) → IsBoolean a → IsBoolean (not_of a)
not-boolean a b = go (head_of a) (parts_of a) (parts-boolean a b.0)
  where
    go : (h : Head) (ps : List Tree) → AllBoolean ps → IsBoolean (not_by h ps a)
    go True ps p = (tt, tt)
    go False ps p = (tt, tt)
    go Not (x ∷ ps) p = part_or-boolean x (tree Not (a ∷ [])) p.0 ((tt, b), tt)
    go Not [] p = ((tt, b), tt)
    go _ ps p = ((tt, b), tt)

module _ (a b : Tree) (p : IsBoolean a) (q : IsBoolean b) where
  pub and-boolean : IsBoolean (and_of a b)
  and-boolean = go (constant_of a) (constant_of b)
    where
      go : (k l : Option Bool) → IsBoolean (and_by k l a b)
      go (Some true) l = part_or-boolean b (tree And (a ∷ b ∷ [])) q (((tt, p), q), tt)
      go (Some false) l = (tt, tt)
      go None (Some true) = part_or-boolean a (tree And (a ∷ b ∷ [])) p (((tt, p), q), tt)
      go None (Some false) = (tt, tt)
      go None None = (((tt, p), q), tt)

  pub or-boolean : IsBoolean (or_of a b)
  or-boolean = go (constant_of a) (constant_of b)
    where
      go : (k l : Option Bool) → IsBoolean (or_by k l a b)
      go (Some true) l = (tt, tt)
      go (Some false) l = part_or-boolean b (tree Or (a ∷ b ∷ [])) q (((tt, p), q), tt)
      go None (Some true) = (tt, tt)
      go None (Some false) = part_or-boolean a (tree Or (a ∷ b ∷ [])) p (((tt, p), q), tt)
      go None None = (((tt, p), q), tt)

pub ite-boolean : (c a b : Tree) → IsBoolean c → IsBoolean a → IsBoolean b → IsBoolean (ite_of c a b)
ite-boolean c a b o p q = go (constant_of c)
  where
    whole : IsBoolean (tree Ite (c ∷ a ∷ b ∷ []))
    whole = ((((tt, o), p), q), tt)

    chosen : (k : Bool) → IsBoolean (if k then b else tree Ite (c ∷ a ∷ b ∷ []))
    chosen true = q
    chosen false = whole

    go : (k : Option Bool) → IsBoolean (ite_by k c a b)
    go (Some true) = p
    go (Some false) = chosen (same_sort (sort_of a) (sort_of b))
    go None = whole

-- ---- propositions
