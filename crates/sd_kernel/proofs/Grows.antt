-- what a step makes of the terms and of what the facts are about
use Rattle.std.proofs.Common.{◌≡◌, ℕ, List, [], ◌∷◌, ◌++◌, refl, sym, ◌∙◌, subst, Bool, true, false}
use Rattle.sd_base.specs.declared.sort.Sort.{Sort, Int}
use Rattle.sd_base.specs.Sorts.{MapOf}
use Rattle.sd_term.specs.Tree.{Tree, tree, and-left, and-right}
use Rattle.sd_term.specs.Numbering.{has, numbered}
use Rattle.sd_term.specs.Sorts.{sort_of, same_sort, same_sort-true, IsWellSorted, AllWellSorted}
use Rattle.sd_term.proofs.BuildSorts.{eq-well, le-well}
use Rattle.sd_term.specs.Closed.{IsClosed}
use Rattle.sd_forms.specs.FactRows.{is_int_sort}
use Rattle.sd_term.proofs.ClosedTerms.{IsClosed-numbered, IsClosed-more}
use Rattle.sd_kernel.specs.declared.step.NodeLine.{NodeLine}
use Rattle.sd_kernel.specs.declared.step.NodeLine.TheVariants.{Eq as EqLine, Le as LeLine, Read as ReadLine, Diff as DiffLine}
use Rattle.sd_kernel.specs.declared.step.Step.{Step}
use Rattle.sd_kernel.specs.declared.step.Step.TheVariants.{Split, Close, Term, Order, Ite as ChooseBranch, Chain, Rows}
use Rattle.sd_kernel.specs.Known.{Trail}
use Rattle.sd_kernel.specs.Steps.{leaves, outcome, is_read_by, is_map, fits, line_head}
use Rattle.sd_kernel.proofs.Needs.{Adds, TermNeeds, SplitNeeds, term-needs, split-needs, order-needs, ite-needs, chain-needs, close-needs}
use Rattle.sd_kernel.proofs.RowLines.{rows-closed}
use Rattle.sd_term.proofs.Numbers.{has-more}
use Rattle.sd_kernel.proofs.Members.{has-get, sorted-in, sorted-append, AreAbout, AllAbout, about-snoc, about-more}

-- terms with their parts, well sorted
pub record AreTerms (terms : List Tree) : Type 0 where
  pub sorted : AllWellSorted terms
  pub closed : IsClosed terms

-- terms after a step, and the branches that it leaves
pub record Grows (terms mid : List Tree) (branches : List Trail) : Type 0 where
  pub are_terms : AreTerms mid
  pub kept : (t : Tree) → has terms t ≡ true → has mid t ≡ true
  pub about : AllAbout mid branches

-- ---- the sorts of a new term

pub is-int : (s : Sort) → is_int_sort s ≡ true → s ≡ Int
is-int Int e = refl
is-int _ e = let f : false ≡ true = e in cc

pub read-by : (s r : Sort) → is_read_by s r ≡ true → (i : Sort) × (v : Sort) × (s ≡ MapOf i v) × (i ≡ r)
read-by (MapOf i v) r e = (i, v, refl, same_sort-true i r e)
read-by _ r e = let f : false ≡ true = e in cc

pub is-map : (s : Sort) → is_map s ≡ true → (i : Sort) × (v : Sort) × (s ≡ MapOf i v)
is-map (MapOf i v) e = (i, v, refl)
is-map _ e = let f : false ≡ true = e in cc

pub fits-well : (line : NodeLine) (a b : Tree) → IsWellSorted a → IsWellSorted b → fits line (sort_of a) (sort_of b) ≡ true → IsWellSorted (tree (line_head line) (a ∷ b ∷ []))
fits-well (EqLine m n) a b wa wb e = eq-well a b wa wb (same_sort-true (sort_of a) (sort_of b) e)
fits-well (LeLine m n) a b wa wb e =
    le-well a b wa wb (is-int (sort_of a) (and-left (is_int_sort (sort_of a)) (is_int_sort (sort_of b)) e)) (is-int (sort_of b) (and-right (is_int_sort (sort_of a)) (is_int_sort (sort_of b)) e))
fits-well (ReadLine m n) a b wa wb e =
    let r = read-by (sort_of a) (sort_of b) e in
    (((tt, wa), wb), (r.0, r.1, λ i. r.2 i ∷ sym r.3 i ∷ []))
fits-well (DiffLine m n) a b wa wb e =
    let r = is-map (sort_of a) (and-left (is_map (sort_of a)) (same_sort (sort_of a) (sort_of b)) e) in
    let same : sort_of a ≡ sort_of b = same_sort-true (sort_of a) (sort_of b) (and-right (is_map (sort_of a)) (same_sort (sort_of a) (sort_of b)) e) in
    (((tt, wa), wb), (r.0, r.1, λ i. r.2 i ∷ (sym same ∙ r.2) i ∷ []))

-- ---- each step

module _ (terms : List Tree) (trail : Trail) (w : AreTerms terms) (a : AreAbout terms trail) (mid : List Tree) (branches : List Trail) where
  stays : terms ≡ mid → AllAbout terms branches → Grows terms mid branches
  stays e b = subst (λ m. Grows terms m branches) e (record { are_terms = w; kept = λ t h. h; about = b })

  one-more : (t : Tree) (b : Bool) → has terms t ≡ true → Adds terms trail t b mid branches → Grows terms mid branches
  one-more t b h m = stays m.same (subst (AllAbout terms) m.one (about-snoc terms trail (t, b) a h, tt))

  term-grows : (line : NodeLine) → TermNeeds terms trail line mid branches → Grows terms mid branches
  term-grows line n =
      let p : has terms n.a ≡ true = has-get terms _ n.a n.a_at in
      let q : has terms n.b ≡ true = has-get terms _ n.b n.b_at in
      let t : Tree = tree (line_head line) (n.a ∷ n.b ∷ []) in
      let keep : (u : Tree) → has terms u ≡ true → has (terms ++ t ∷ []) u ≡ true = λ u h. has-more terms (t ∷ []) u h in
      subst (λ m. Grows terms m branches) n.grown (record {
        are_terms = record {
          sorted = sorted-append terms (t ∷ []) w.sorted (fits-well line n.a n.b (sorted-in terms n.a w.sorted p) (sorted-in terms n.b w.sorted q) n.sorts, tt);
          closed = IsClosed-more terms t w.closed (p, (q, tt));
        };
        kept = keep;
        about = subst (AllAbout (terms ++ t ∷ [])) n.one (about-more terms (terms ++ t ∷ []) trail keep a, tt);
      })

  split-grows : (k : ℕ) → SplitNeeds terms trail k mid branches → Grows terms mid branches
  split-grows k n =
      let h : has terms n.t ≡ true = has-get terms k n.t n.t_at in
      stays n.same (subst (AllAbout terms) n.two (about-snoc terms trail (n.t, true) a h, (about-snoc terms trail (n.t, false) a h, tt)))

  -- one line for each kind of step
  pub step-grows : (s : Step) → outcome terms trail s ≡ leaves mid branches → Grows terms mid branches
  step-grows (Term line) e = term-grows line (term-needs terms trail mid branches line e)
  step-grows (Split n) e = split-grows n (split-needs terms trail mid branches n e)
  step-grows (Order e l r) h = let n = order-needs terms trail mid branches e l r h in one-more n.q false (has-get terms r n.q n.q_at) n.more
  step-grows (ChooseBranch t e) h = let n = ite-needs terms trail mid branches t e h in one-more n.u true (has-get terms e n.u n.u_at) n.more
  step-grows (Chain e fs) h = let n = chain-needs terms trail mid branches e fs h in one-more n.t true (has-get terms e n.t n.t_at) n.more
  step-grows (Close k) e = let n = close-needs terms trail mid branches k e in stays n.same (subst (AllAbout terms) n.nothing tt)
  step-grows (Rows lines) e = let n = rows-closed terms trail mid branches 1 [] lines e in stays n.0 (subst (AllAbout terms) n.1 tt)

-- the terms of facts
pub numbered-terms : (facts : List Tree) → AllWellSorted (numbered facts) → AreTerms (numbered facts)
numbered-terms facts w = record { sorted = w; closed = IsClosed-numbered facts }
