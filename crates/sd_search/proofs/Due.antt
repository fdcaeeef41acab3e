-- literals that were due when they were split, and searches that are spent
use Rattle.std.proofs.Common.{◌≡◌, suc, List, [], ◌∷◌, ◌++◌, refl, sym, ap, ◌∙◌, subst, Bool, true, false, not, cond, ◌⊎◌, inl, inr, Some, None, unwrap_or, get_or, append_assoc, append-nil, arith}
use Rattle.std.specs.Prelude.{Contains, AllPairs}
use Rattle.std.specs.List.{AllByRecursion}
use Rattle.std.proofs.lemmas.List.Elements.{All-from_recursion}
use Rattle.std.proofs.lemmas.List.Quantifiers.{all_pairs_push}
use Rattle.sd_term.specs.declared.cube.Cube.{Cube}
use Rattle.sd_term.specs.Tree.{Tree, same_tree, same_tree-true}
use Rattle.sd_term.specs.Numbering.{has, AllIn}
use Rattle.sd_linear.specs.Elimination.{elimination}
use Rattle.sd_kernel.specs.Known.{Fact, Trail, first_fact}
use Rattle.sd_kernel.specs.Proof.{start}
use Rattle.sd_cube.specs.Atoms.{is_atom}
use Rattle.sd_cube.specs.CubeRows.{eliminated_branch}
use Rattle.sd_cube.specs.Spent.{IsReached, IsLeft, IsDue, AreDue, cube_literals, AreApart, IsOutside}
use Rattle.sd_search.specs.Path.{IsBehind}
use Rattle.sd_search.specs.Terms.{AreTerms}
use Rattle.sd_search.proofs.AtomFacts.{atom-known, first-none-left, first-none-right, first-other, first-here}
use Rattle.sd_search.proofs.Behind.{behind-parts}
use Rattle.sd_search.proofs.GrownRows.{branch_rows-grown}

-- each fact is about one of the terms
abbrev pub Among : List Tree → Trail → Type 0
Among terms fs = AllByRecursion (λ (f : Fact). has terms f.0 ≡ true) fs

among-append : (terms : List Tree) (fs gs : Trail) → Among terms fs → Among terms gs → Among terms (fs ++ gs)
among-append terms [] gs a b = b
among-append terms (f ∷ fs) gs a b = (a.0, among-append terms fs gs a.1 b)

among-start : (terms facts : List Tree) → AllIn terms facts → Among terms (start facts)
among-start terms [] h = tt
among-start terms (t ∷ ts) h = (h.0, among-start terms ts h.1)

-- no fact is about a term that isn't there
first-missing : (terms : List Tree) (fs : Trail) (t : Tree) → Among terms fs → has terms t ≡ false → first_fact fs t ≡ None
first-missing terms [] t a n = refl
first-missing terms (f ∷ fs) t a n = go (same_tree f.0 t) refl (first-missing terms fs t a.1 n)
  where
    go : (b : Bool) → same_tree f.0 t ≡ b → first_fact fs t ≡ None → cond b (Some f.1) (first_fact fs t) ≡ None
    go true e h = let g : true ≡ false = sym a.0 ∙ ap (has terms) (same_tree-true f.0 t e) ∙ n in cc
    go false e h = h

module _ (facts : List Tree) where
  module _ (terms : List Tree) (t : Tree) (are : AreTerms facts terms) (lacks : has terms t ≡ false) (atom : is_atom t ≡ true) where
    due-one : (trail : Trail) (u : Tree) → Among terms trail → IsDue facts terms trail u → IsDue facts (terms ++ t ∷ []) trail u
    due-one trail u among d = record { atom = d.atom; unknown = d.unknown; none_false = d.none_false; due = moved d.due }
      where
        same : eliminated_branch (terms ++ t ∷ []) trail ≡ eliminated_branch terms trail
        same = ap elimination (branch_rows-grown terms t are.closed trail are.sorted (atom-known trail t atom ∙ first-missing terms trail t among lacks))

        moved : IsReached facts trail u ⊎ IsLeft facts terms trail u → IsReached facts trail u ⊎ IsLeft facts (terms ++ t ∷ []) trail u
        moved (inl r) = inl r
        moved (inr l) = inr (l.0, (λ e. l.1 (sym same ∙ e)), l.2)

    -- literals about the terms stay due where an atom is added
    pub due-more : (before fs : Trail) → Among terms before → Among terms fs → AreDue facts terms before fs → AreDue facts (terms ++ t ∷ []) before fs
    due-more before [] a b d = tt
    due-more before (f ∷ fs) a b d = (
      due-one (start facts ++ before) f.0 (among-append terms (start facts) before (among-start terms facts are.there) a) d.0,
      due-more (before ++ f ∷ []) fs (among-append terms before (f ∷ []) a (b.0, tt)) b.1 d.1,
    )

  module _ (terms : List Tree) where
    pub due-last : (before fs : Trail) (f : Fact) → AreDue facts terms before fs → IsDue facts terms (start facts ++ (before ++ fs)) f.0 → AreDue facts terms before (fs ++ f ∷ [])
    due-last before [] f d h = (subst (λ b. IsDue facts terms (start facts ++ b) f.0) (append-nil before) h, tt)
    due-last before (g ∷ fs) f d h = (d.0, due-last (before ++ g ∷ []) fs f d.1 (subst (λ b. IsDue facts terms (start facts ++ b) f.0) (sym (append_assoc before (g ∷ []) fs)) h))

    pub due-front : (before fs gs : Trail) → AreDue facts terms before (fs ++ gs) → AreDue facts terms before fs
    due-front before [] gs d = tt
    due-front before (g ∷ fs) gs d = (d.0, due-front (before ++ g ∷ []) fs gs d.1)

    pub due-turn : (before fs : Trail) (t : Tree) → AreDue facts terms before (fs ++ (t, true) ∷ []) → AreDue facts terms before (fs ++ (t, false) ∷ [])
    due-turn before [] t d = (d.0, tt)
    due-turn before (g ∷ fs) t d = (d.0, due-turn (before ++ g ∷ []) fs t d.1)

    -- a term that is true in the literals and false by the first fact of the path
    pub record Apart (before fs ls : Trail) : Type 0 where
      pub term : Tree
      pub true_there : Contains ls (term, true)
      pub false_first : first_fact fs term ≡ Some false
      pub none_before : first_fact before term ≡ None

    pub behind-apart : (before fs ls : Trail) → AreDue facts terms before fs → IsBehind fs ls → Apart before fs ls
    behind-apart before [] ls d b = absurd b
    behind-apart before (f ∷ fs) [] d b = absurd b
    behind-apart before (f ∷ fs) (l ∷ ls) d b = go b (λ h. behind-apart (before ++ f ∷ []) fs ls d.1 h)
      where
        unknown : first_fact (start facts ++ before) f.0 ≡ None
        unknown = sym (atom-known (start facts ++ before) f.0 d.0.atom) ∙ d.0.unknown

        go : IsBehind (f ∷ fs) (l ∷ ls) → (IsBehind fs ls → Apart (before ++ f ∷ []) fs ls) → Apart before (f ∷ fs) (l ∷ ls)
        go (inl h) ih = record {
          term = f.0;
          true_there = (0, omega arith, λ i. (h.0 i, h.1 i));
          false_first = first-here f fs ∙ ap (λ v. Some v) h.2;
          none_before = first-none-right (start facts) before f.0 unknown;
        }
        go (inr h) ih = let p = ih h.1 in record {
          term = p.term;
          true_there = (suc p.true_there.0, (let lt = p.true_there.1 in omega arith), p.true_there.2);
          false_first = first-other f fs p.term (first-none-right before (f ∷ []) p.term p.none_before) ∙ p.false_first;
          none_before = first-none-left before (f ∷ []) p.term p.none_before;
        }

-- the first value on the path, or else true
abbrev pub value_on : Trail → Tree → Bool
value_on path t = unwrap_or (first_fact path t) true

module _ (facts terms : List Tree) (path : Trail) (due : AreDue facts terms [] path) where
  pub all-outside : (cubes : List Cube) → AllByRecursion (λ c. IsBehind path (cube_literals facts c)) cubes → AllByRecursion (IsOutside facts (value_on path)) cubes
  all-outside [] b = tt
  all-outside (c ∷ cs) b =
      let p = behind-apart facts terms [] path (cube_literals facts c) due b.0 in
      ((p.term, subst (λ v. Contains (cube_literals facts c) (p.term, not v)) (sym (ap (λ o. unwrap_or o true) p.false_first)) p.true_there), all-outside cs b.1)

pub all-apart : (facts : List Tree) (cubes : List Cube) (c : Cube) → AllPairs (AreApart facts) cubes → AllByRecursion (λ d. IsBehind (cube_literals facts c) (cube_literals facts d)) cubes → AllPairs (AreApart facts) (cubes ++ c ∷ [])
all-apart facts cubes c pairs behind =
    all_pairs_push (AreApart facts) cubes c pairs
    (λ k d lt. let p = behind-parts (cube_literals facts c) (cube_literals facts (get_or cubes k d)) (All-from_recursion (λ e. IsBehind (cube_literals facts c) (cube_literals facts e)) cubes behind k d lt) in
    (p.term, true, p.true_there, p.false_here))
