-- what is known of the truth of a term in a branch
use Rattle.std.specs.Prelude.{ℕ, Bool, true, false, not, ◌&&◌, cond, List, [], ◌∷◌, Option, Some, None, unwrap_or, slice_index_or}
use Rattle.std.specs.List.{list_any}
use Rattle.sd_term.specs.declared.node.Head.{Head}
use Rattle.sd_term.specs.Heads.{True, False, Not, And, Or, Eq, Ite}
use Rattle.sd_base.specs.declared.sort.Sort.{Sort}
use Rattle.sd_term.specs.Tree.{Tree, head_of, at_parts, folded, same_tree}
use Rattle.sd_term.specs.Sorts.{is_truth_sort, sort_at, sorts_of}
use Rattle.sd_term.specs.Truth.{same_bool}

-- a term with its truth value
abbrev pub Fact : Type 0
Fact = Tree × Bool

-- the facts of a branch, in order
abbrev pub Trail : Type 0
Trail = List Fact

abbrev pub first_fact : Trail → Tree → Option Bool
first_fact [] t = None
first_fact (f ∷ fs) t = cond (same_tree f.0 t) (Some f.1) (first_fact fs t)

abbrev pub has_fact : Trail → Tree → Bool → Bool
has_fact fs t b = list_any (λ (f : Fact). same_tree f.0 t && same_bool f.1 b) fs

-- the three-valued connectives
abbrev pub not3 : Option Bool → Option Bool
not3 None = None
not3 (Some a) = Some (not a)

abbrev pub and3 : Option Bool → Option Bool → Option Bool
and3 (Some true) b = b
and3 (Some false) b = Some false
and3 None (Some false) = Some false
and3 None (Some true) = None
and3 None None = None

abbrev pub or3 : Option Bool → Option Bool → Option Bool
or3 (Some true) b = Some true
or3 (Some false) b = b
or3 None (Some true) = Some true
or3 None (Some false) = None
or3 None None = None

abbrev pub iff3 : Option Bool → Option Bool → Option Bool
iff3 (Some a) (Some b) = Some (same_bool a b)
iff3 (Some a) None = None
iff3 None b = None

abbrev pub ite3 : Option Bool → Option Bool → Option Bool → Option Bool
ite3 (Some true) a b = a
ite3 (Some false) a b = b
ite3 None a b = None

abbrev pub known_at : List (Option Bool) → ℕ → Option Bool
known_at ks n = slice_index_or ks n None

abbrev pub if_truth : Sort → Option Bool → Option (Option Bool)
if_truth s k = cond (is_truth_sort s) (Some k) None

-- the value by the parts, for the terms that are judged so
abbrev pub by_parts : Head → List Sort → List (Option Bool) → Option (Option Bool)
by_parts True ss ks = Some (Some true)
by_parts False ss ks = Some (Some false)
by_parts Not ss ks = Some (not3 (known_at ks 0))
by_parts And ss ks = Some (and3 (known_at ks 0) (known_at ks 1))
by_parts Or ss ks = Some (or3 (known_at ks 0) (known_at ks 1))
by_parts Eq ss ks = if_truth (sort_at ss 0) (iff3 (known_at ks 0) (known_at ks 1))
by_parts Ite ss ks = if_truth (sort_at ss 1) (ite3 (known_at ks 0) (known_at ks 1) (known_at ks 2))
by_parts _ ss ks = None

abbrev pub known_by : Trail → Tree → List (Option Bool) → Option Bool
known_by trail t ks = unwrap_or (by_parts (head_of t) (sorts_of t) ks) (first_fact trail t)

-- the value of a term in a branch
abbrev pub known : Trail → Tree → Option Bool
known trail t = folded (known_by trail) t

-- the value of a term by its parts alone
abbrev pub known_by_parts : Trail → Tree → Option Bool
known_by_parts trail t = unwrap_or (by_parts (head_of t) (sorts_of t) (at_parts (known_by trail) t)) None

abbrev pub is_known : Option Bool → Bool → Bool
is_known None b = false
is_known (Some a) b = same_bool a b
