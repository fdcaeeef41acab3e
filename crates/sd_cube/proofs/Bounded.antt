-- the cubes of a spent search are fewer than the assignments of truth values to the terms that its literals are about
use Rattle.std.proofs.Common.{◌≡◌, ℕ, zero, suc, ◌<◌, ◌^◌, List, [], ◌∷◌, ◌++◌, map, get_or, append_assoc, refl, sym, ap, ◌∙◌, subst, Bool, true, false, not, cond, Option, Some, None, unwrap_or, is_some, length, ◌⊎◌, inl, inr, arith}
use Rattle.std.specs.Prelude.{AllPairs, Contains}
use Rattle.std.specs.List.{AllByRecursion}
use Rattle.std.proofs.lemmas.List.{length-map}
use Rattle.std.proofs.lemmas.List.Elements.{recursion_from_All, All-from_recursion, All-contains}
use Rattle.sd_base.specs.declared.sort.Sort.{Sort}
use Rattle.sd_term.specs.declared.node.Head.{Head}
use Rattle.sd_term.specs.Heads.{True, False, Not, And, Or, Eq, Ite}
use Rattle.sd_term.specs.declared.cube.Cube.{Cube}
use Rattle.sd_term.specs.Tree.{Tree, head_of, parts_of, at_parts, same_tree, and-right}
use Rattle.sd_term.specs.Sorts.{is_truth_sort, is_truth_valued, sort_at, sorts_of}
use Rattle.sd_term.specs.Numbering.{has, numbered, AllIn}
use Rattle.sd_term.proofs.Numbers.{numbered-facts}
use Rattle.sd_term.proofs.ClosedTerms.{IsClosed-numbered, parts-in}
use Rattle.sd_kernel.specs.Known.{Fact, Trail, first_fact, known, known_by, by_parts}
use Rattle.sd_kernel.specs.Proof.{start}
use Rattle.sd_kernel.proofs.Tables.{first_fact-hit}
use Rattle.sd_cube.specs.Atoms.{is_atom}
use Rattle.sd_cube.specs.Needed.{IsNeeded}
use Rattle.sd_cube.specs.CubeTerms.{cube_terms}
use Rattle.sd_cube.specs.Spent.{Reaches, IsReached, IsLeft, IsDue, AreDue, IsClosedCube, cube_literals, AreApart, IsOutside, IsSpent}
use Rattle.sd_cube.specs.Laws.{AtomsAmong, LiteralsAmong, NeverLeft, FactAtomsAmong, SpentSearchesAreSmall, ReachedSearchesAreSmall, SpentCubesAreFew}
use Rattle.sd_cube.proofs.Counting.{DifferAmong, AllDiffer, differing-are-few}

-- what is known of an atom is the value of the first fact on it

either-some : (b : Bool) (x y : Option Bool) → not (is_some (cond b (Some x) None)) ≡ true → cond b (Some y) None ≡ None
either-some true x y e = let f : false ≡ true = e in cc
either-some false x y e = refl

not-by-parts : (h : Head) (ss : List Sort) (ks : List (Option Bool)) → not (is_some (by_parts h ss [])) ≡ true → by_parts h ss ks ≡ None
not-by-parts True ss ks e = let f : false ≡ true = e in cc
not-by-parts False ss ks e = let f : false ≡ true = e in cc
not-by-parts Not ss ks e = let f : false ≡ true = e in cc
not-by-parts And ss ks e = let f : false ≡ true = e in cc
not-by-parts Or ss ks e = let f : false ≡ true = e in cc
not-by-parts Eq ss ks e = either-some (is_truth_sort (sort_at ss 0)) _ _ e
not-by-parts Ite ss ks e = either-some (is_truth_sort (sort_at ss 1)) _ _ e
not-by-parts _ ss ks e = refl

known-atom : (trail : Trail) (t : Tree) → is_atom t ≡ true → known trail t ≡ first_fact trail t
known-atom trail t e =
    ap (λ o. unwrap_or o (first_fact trail t))
    (not-by-parts (head_of t) (sorts_of t) (at_parts (known_by trail) t) (and-right (is_truth_valued t) (not (is_some (by_parts (head_of t) (sorts_of t) []))) e))

-- a due atom is needed

has-contained : (a xs : List Tree) (t : Tree) → AllIn a xs → (k : ℕ) → k < length xs → get_or xs k t ≡ t → has a t ≡ true
has-contained a [] t h k within is = absurd (omega arith)
has-contained a (x ∷ xs) t h zero within is = subst (λ u. has a u ≡ true) is h.0
has-contained a (x ∷ xs) t h (suc k) within is = has-contained a xs t h.1 k (omega arith) is

module _ (facts : List Tree) where
  needed-reached : (trail : Trail) (way : List Tree) (t u : Tree) → IsNeeded facts t → Reaches trail t way u → IsNeeded facts u
  needed-reached trail [] t u n r = subst (IsNeeded facts) r.0 n
  needed-reached trail (p ∷ ps) t u n r = needed-reached trail ps p u (IsNeeded.part t p n r.1) r.2

  needed-due : (terms : List Tree) (trail : Trail) (u : Tree) → IsReached facts trail u ⊎ IsLeft facts terms trail u → IsNeeded facts u
  needed-due terms trail u (inl r) =
      needed-reached trail r.1 r.0 u (IsNeeded.term r.0 (has-contained (numbered facts) facts r.0 (numbered-facts facts) r.2.0 r.2.1 r.2.2)) r.3
  needed-due terms trail u (inr r) = r.2

  -- an atom that is reached is among the terms of the facts

  reached-there : (trail : Trail) (way : List Tree) (t u : Tree) → has (numbered facts) t ≡ true → Reaches trail t way u → has (numbered facts) u ≡ true
  reached-there trail [] t u n r = subst (λ w. has (numbered facts) w ≡ true) r.0 n
  reached-there trail (p ∷ ps) t u n r =
      reached-there trail ps p u (has-contained (numbered facts) (parts_of t) p (parts-in (numbered facts) t (IsClosed-numbered facts t n)) r.1.0 r.1.1 r.1.2) r.2

  reached-fact : (trail : Trail) (u : Tree) → IsReached facts trail u → has (numbered facts) u ≡ true
  reached-fact trail u r = reached-there trail r.1 r.0 u (has-contained (numbered facts) facts r.0 (numbered-facts facts) r.2.0 r.2.1 r.2.2) r.3

  -- a literal of due ones has its term's value, and its term is a needed atom

  first_fact-after : (xs ys : Trail) (t : Tree) → first_fact xs t ≡ None → first_fact (xs ++ ys) t ≡ first_fact ys t
  first_fact-after [] ys t e = refl
  first_fact-after (x ∷ xs) ys t e = go (same_tree x.0 t) (first_fact-after xs ys t) e
    where
      go : (b : Bool) → (first_fact xs t ≡ None → first_fact (xs ++ ys) t ≡ first_fact ys t) → cond b (Some x.1) (first_fact xs t) ≡ None → cond b (Some x.1) (first_fact (xs ++ ys) t) ≡ first_fact ys t
      go true f e = cc
      go false f e = f e

  abbrev IsSettled : Trail → Fact → Type 0
  IsSettled trail f = (first_fact trail f.0 ≡ Some f.1) × (is_atom f.0 ≡ true) × IsNeeded facts f.0

  settled-first : (terms : List Tree) (before fs : Trail) (f : Fact) → IsDue facts terms before f.0 → IsSettled (before ++ f ∷ fs) f
  settled-first terms before fs f d = (
    first_fact-after before (f ∷ fs) f.0 (sym (known-atom before f.0 d.atom) ∙ d.unknown) ∙ first_fact-hit f fs f.0 refl,
    d.atom,
    needed-due terms before f.0 d.due,
  )

  all-settled : (terms : List Tree) (before fs : Trail) → AreDue facts terms before fs → AllByRecursion (IsSettled (start facts ++ (before ++ fs))) fs
  all-settled terms before [] d = tt
  all-settled terms before (f ∷ fs) d = (
    subst (λ l. IsSettled l f) (append_assoc (start facts) before (f ∷ fs)) (settled-first terms (start facts ++ before) fs f d.0),
    subst (λ l. AllByRecursion (IsSettled (start facts ++ l)) fs) (append_assoc before (f ∷ []) fs) (all-settled terms (before ++ f ∷ []) fs d.1),
  )

  -- the value of each term in a cube
  abbrev value_in : Cube → Tree → Option Bool
  value_in cube t = first_fact (start facts ++ cube_literals facts cube) t

  settled-in : (cube : Cube) → IsClosedCube facts cube → AllByRecursion (IsSettled (start facts ++ cube_literals facts cube)) (cube_literals facts cube)
  settled-in cube c = all-settled (cube_terms facts cube) [] (cube_literals facts cube) c.due

  literal-value : (cube : Cube) (t : Tree) (b : Bool) → IsClosedCube facts cube → Contains (cube_literals facts cube) (t, b) → value_in cube t ≡ Some b
  literal-value cube t b c h =
      let s = All-contains (IsSettled (start facts ++ cube_literals facts cube)) (cube_literals facts cube) (t, b) (All-from_recursion _ (cube_literals facts cube) (settled-in cube c)) h in
      s.0

  module _ (atoms : List Tree) where
    abbrev IsAmong : Fact → Type 0
    IsAmong f = Contains atoms f.0

    literal-among : (cube : Cube) (t : Tree) (b : Bool) → AllByRecursion IsAmong (cube_literals facts cube) → Contains (cube_literals facts cube) (t, b) → Contains atoms t
    literal-among cube t b h k = All-contains IsAmong (cube_literals facts cube) (t, b) (All-from_recursion IsAmong (cube_literals facts cube) h) k

    -- cubes that are apart differ at an atom, and each from the values that are outside of it
    differs : (c d : Cube) → IsClosedCube facts c → IsClosedCube facts d → AllByRecursion IsAmong (cube_literals facts c) → AreApart facts c d → DifferAmong atoms (value_in c) (value_in d)
    differs c d k l among a = (a.0, a.1, literal-among c a.0 a.1 among a.2, literal-value c a.0 a.1 k a.2, literal-value d a.0 (not a.1) l a.3)

    differ-later : (c : Cube) (ds : List Cube) → IsClosedCube facts c → AllByRecursion IsAmong (cube_literals facts c) → AllByRecursion (IsClosedCube facts) ds → AllByRecursion (AreApart facts c) ds
        → AllByRecursion (DifferAmong atoms (value_in c)) (map value_in ds)
    differ-later c [] k among closed apart = tt
    differ-later c (d ∷ ds) k among closed apart = (differs c d k closed.0 among apart.0, differ-later c ds k among closed.1 apart.1)

    all-differ : (cs : List Cube) → LiteralsAmong facts cs atoms → AllByRecursion (IsClosedCube facts) cs → AllPairs (AreApart facts) cs → AllDiffer atoms (map value_in cs)
    all-differ [] among closed apart = tt
    all-differ (c ∷ cs) among closed apart = (
      differ-later c cs closed.0 among.0 closed.1 (recursion_from_All (AreApart facts c) cs (λ k d within. apart zero (suc k) d (omega arith) (omega arith))),
      all-differ cs among.1 closed.1 (λ i j d below within. apart (suc i) (suc j) d (omega arith) (omega arith)),
    )

    outside-differs : (values : Tree → Bool) (cs : List Cube) → LiteralsAmong facts cs atoms → AllByRecursion (IsClosedCube facts) cs → AllByRecursion (IsOutside facts values) cs
        → AllByRecursion (DifferAmong atoms (λ t. Some (values t))) (map value_in cs)
    outside-differs values [] among closed outside = tt
    outside-differs values (c ∷ cs) among closed outside =
        let o = outside.0 in (
          (o.0, values o.0, literal-among c o.0 (not (values o.0)) among.0 o.1, refl, literal-value c o.0 (not (values o.0)) closed.0 o.1),
          outside-differs values cs among.1 closed.1 outside.1,
        )

    pub spent-bounded : (cubes : List Cube) (leaves : ℕ) → LiteralsAmong facts cubes atoms → IsSpent facts cubes leaves → leaves < 2 ^ length atoms
    spent-bounded cubes leaves among s =
        let few = differing-are-few atoms ((λ t. Some (s.values t)) ∷ map value_in cubes) (outside-differs s.values cubes among s.closed s.outside, all-differ cubes among s.closed s.apart) in
        let long = length-map cubes value_in in
        let count = s.count in
        omega arith

    -- the literals of closed cubes are needed atoms
    settled-among : AtomsAmong facts atoms → (trail fs : Trail) → AllByRecursion (IsSettled trail) fs → AllByRecursion IsAmong fs
    settled-among all trail [] h = tt
    settled-among all trail (f ∷ fs) h = (all f.0 h.0.1 h.0.2, settled-among all trail fs h.1)

    pub closed-among : AtomsAmong facts atoms → (cubes : List Cube) → AllByRecursion (IsClosedCube facts) cubes → LiteralsAmong facts cubes atoms
    closed-among all [] closed = tt
    closed-among all (c ∷ cs) closed = (settled-among all (start facts ++ cube_literals facts c) (cube_literals facts c) (settled-in c closed.0), closed-among all cs closed.1)

    -- where only reached atoms are due, the literals of closed cubes are atoms among the terms of the facts
    due-among : NeverLeft facts → FactAtomsAmong facts atoms → (cube : Cube) (before fs : Trail) → AreDue facts (cube_terms facts cube) before fs → AllByRecursion IsAmong fs
    due-among never all cube before [] d = tt
    due-among never all cube before (f ∷ fs) d = (all f.0 d.0.atom (there d.0.due), due-among never all cube (before ++ f ∷ []) fs d.1)
      where
        there : IsReached facts (start facts ++ before) f.0 ⊎ IsLeft facts (cube_terms facts cube) (start facts ++ before) f.0 → has (numbered facts) f.0 ≡ true
        there (inl r) = reached-fact (start facts ++ before) f.0 r
        there (inr l) = absurd (never cube before f.0 l)

    pub reached-among : NeverLeft facts → FactAtomsAmong facts atoms → (cubes : List Cube) → AllByRecursion (IsClosedCube facts) cubes → LiteralsAmong facts cubes atoms
    reached-among never all [] closed = tt
    reached-among never all (c ∷ cs) closed = (due-among never all c [] (cube_literals facts c) closed.0.due, reached-among never all cs closed.1)

pub spent-few : SpentCubesAreFew
spent-few facts cubes leaves atoms among s = spent-bounded facts atoms cubes leaves among s

pub spent-small : SpentSearchesAreSmall
spent-small facts cubes leaves atoms all s = spent-bounded facts atoms cubes leaves (closed-among facts atoms all cubes s.closed) s

pub spent-reached : ReachedSearchesAreSmall
spent-reached facts cubes leaves atoms never all s = spent-bounded facts atoms cubes leaves (reached-among facts atoms never all cubes s.closed) s
