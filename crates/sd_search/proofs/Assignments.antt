-- values beside the facts of a query: how they begin, and how values and terms are added
use Rattle.std.proofs.Common.{◌≡◌, ℕ, suc, ◌<◌, List, [], ◌∷◌, ◌++◌, map, length, refl, sym, ap, ◌∙◌, subst, true, Option, Bool, All, append_assoc, append-nil, arith, length-append, get_or}
use Rattle.std.specs.List.{AllByRecursion}
use Rattle.std.proofs.lemmas.List.Elements.{All-cons, All-nil, All-append}
use Rattle.sd_base.proofs.Lists.{all-append}
use Rattle.sd_term.specs.declared.node.TermNode.{TermNode}
use Rattle.sd_term.specs.declared.cube.Cube.{Cube}
use Rattle.sd_term.specs.Tree.{Tree}
use Rattle.sd_term.specs.Bank.{tree_at, tree_of, PartsBelow}
use Rattle.sd_term.specs.Sorts.{is_truth_valued, AllWellSorted}
use Rattle.sd_term.specs.Numbering.{numbered, AllIn}
use Rattle.sd_term.specs.Closed.{IsClosed}
use Rattle.sd_term.proofs.Trees.{tree_at-append}
use Rattle.sd_kernel.specs.declared.known.Fact.{Fact as NumberedFact}
use Rattle.sd_kernel.specs.declared.step.Step.TheVariants.{Term}
use Rattle.sd_kernel.specs.declared.step.NodeLine.{NodeLine}
use Rattle.sd_kernel.specs.Known.{Fact, Trail}
use Rattle.sd_kernel.specs.Facts.{fact_of, trail_of}
use Rattle.sd_kernel.specs.Steps.{leaves, outcome}
use Rattle.sd_kernel.specs.Proof.{State, front, start, next, continues}
use Rattle.sd_kernel.proofs.Opened.{trail_of-snoc}
use Rattle.sd_cube.specs.CubeTerms.{cube_terms}
use Rattle.sd_cube.specs.Required.{IsRequired}
use Rattle.sd_cube.specs.OpenCube.{AreExtra, IsOpenCube}
use Rattle.sd_search.specs.declared.assignment.Assignment.{Assignment}
use Rattle.sd_search.specs.Atoms.{atom_literals}
use Rattle.sd_search.specs.Settled.{IsSettled}
use Rattle.sd_search.specs.Terms.{AreValuesUnder}
use Rattle.sd_search.specs.Running.{IsRunning}
use Rattle.sd_search.specs.Assignment.{IsAssignment}
use Rattle.sd_search.proofs.OpenCubes.{open-cube}
use Rattle.sd_search.proofs.Runs.{front-is, truths-of, term-terms, term-running, running-terms}

-- facts keep their terms where terms are added
trail-grown : (terms more : List Tree) (fs : List NumberedFact) → All (λ (f : NumberedFact). f.term < length terms) fs → trail_of (terms ++ more) fs ≡ trail_of terms fs
trail-grown terms more [] below = refl
trail-grown terms more (f ∷ fs) below =
    λ i. (tree_at-append terms more f.term (below 0 f (omega arith)) i, f.value) ∷ trail-grown terms more fs (λ k d lt. below (suc k) d (omega (arith, lt))) i

-- the facts alone
pub facts-alone : (facts : List Tree) (walk : State) (ids : List ℕ) (extra : List TermNode) (trail : List NumberedFact) → IsRunning facts walk ids [] extra []
    → trail_of walk.0 trail ≡ front walk → All (λ (f : NumberedFact). f.term < length walk.0) trail → IsAssignment facts (record { walk = walk; facts = ids; extra = extra; trail = trail })
facts-alone facts walk ids extra trail r e below =
    let is : trail_of walk.0 trail ≡ start facts ++ [] = e ∙ front-is facts walk ids [] extra [] r in record {
      running = r;
      begins = ([], is);
      below = below;
      truths = subst (AllByRecursion (λ (f : Fact). is_truth_valued f.0 ≡ true)) (sym (is ∙ append-nil (start facts))) (truths-of facts walk ids [] extra [] r facts r.truths);
    }

-- one more value
pub one-more : (facts : List Tree) (a : Assignment) (f : NumberedFact) (trail : List NumberedFact) → IsAssignment facts a → f.term < length a.walk.0 → is_truth_valued (tree_at a.walk.0 f.term) ≡ true
    → trail ≡ a.trail ++ f ∷ [] → IsAssignment facts (record { walk = a.walk; facts = a.facts; extra = a.extra; trail = trail })
one-more facts a f trail h lt truth e =
    let is : trail_of a.walk.0 trail ≡ trail_of a.walk.0 a.trail ++ fact_of a.walk.0 f ∷ [] = ap (trail_of a.walk.0) e ∙ trail_of-snoc a.walk.0 a.trail f in record {
      running = h.running;
      begins = (h.begins.0 ++ fact_of a.walk.0 f ∷ [], is ∙ ap (λ b. b ++ fact_of a.walk.0 f ∷ []) h.begins.1 ∙ append_assoc (start facts) h.begins.0 (fact_of a.walk.0 f ∷ []));
      below = subst (All (λ (g : NumberedFact). g.term < length a.walk.0)) (sym e)
          (All-append (λ (g : NumberedFact). g.term < length a.walk.0) a.trail (f ∷ []) h.below (All-cons (λ (g : NumberedFact). g.term < length a.walk.0) f [] lt (All-nil (λ (g : NumberedFact). g.term < length a.walk.0))));
      truths = subst (AllByRecursion (λ (g : Fact). is_truth_valued g.0 ≡ true)) (sym is)
          (all-append (λ (g : Fact). is_truth_valued g.0 ≡ true) (trail_of a.walk.0 a.trail) (fact_of a.walk.0 f ∷ []) h.truths (truth, tt));
    }

-- one more term
pub term-more : (facts : List Tree) (a : Assignment) (h : IsAssignment facts a) (line : NodeLine) (t : Tree) (required : IsRequired a.walk.0 (trail_of a.walk.0 a.trail) t)
    → (made : outcome a.walk.0 (trail_of a.walk.0 a.trail) (Term line) ≡ leaves (a.walk.0 ++ t ∷ []) (trail_of a.walk.0 a.trail ∷ [])) (walk : State) (node : TermNode) (extra : List TermNode)
    → next a.walk (Term line) ≡ continues walk → PartsBelow (length a.walk.0) node → tree_of a.walk.0 node ≡ t → extra ≡ a.extra ++ node ∷ []
    → IsAssignment facts (record { walk = walk; facts = a.facts; extra = extra; trail = a.trail })
term-more facts a h line t required made walk node extra e below is x =
    let b = trail_of a.walk.0 a.trail in
    let grown : walk.0 ≡ a.walk.0 ++ t ∷ [] = term-terms facts a.walk a.facts [] a.extra [] h.running line t b required made walk e in
    let same : trail_of walk.0 a.trail ≡ b = ap (λ ts. trail_of ts a.trail) grown ∙ trail-grown a.walk.0 (t ∷ []) a.trail h.below in record {
      running = subst (λ y. IsRunning facts walk a.facts [] y []) (sym x) (term-running facts a.walk a.facts [] a.extra [] h.running line t b required made walk node e below is);
      begins = (h.begins.0, same ∙ h.begins.1);
      below = λ k d lt. omega (arith, h.below k d lt, ap length grown, length-append a.walk.0 (t ∷ []));
      truths = subst (AllByRecursion (λ (g : Fact). is_truth_valued g.0 ≡ true)) (sym same) h.truths;
    }

-- where nothing is left to do, the values are an open cube
pub settled-cube : (facts : List Tree) (a : Assignment) (cube : Cube) (values : List (Option Bool)) → IsAssignment facts a → IsSettled facts a.walk.0 (trail_of a.walk.0 a.trail)
    → AreValuesUnder (trail_of a.walk.0 a.trail) a.walk.0 values → cube.extra ≡ a.extra → cube.literals ≡ atom_literals 0 a.walk.0 values → IsOpenCube facts cube
settled-cube facts a cube values h settled is extra_is lits_are =
    let b = trail_of a.walk.0 a.trail in
    let same : a.walk.0 ≡ cube_terms facts cube = running-terms facts a.walk a.facts [] a.extra [] h.running cube extra_is in
    open-cube facts b cube values (subst (AreExtra facts (numbered facts)) (sym extra_is) h.running.are_extra)
    (subst AllWellSorted same h.running.terms.sorted) (subst IsClosed same h.running.terms.closed) h.truths (subst (λ ts. AllIn ts facts) same h.running.terms.there)
    (subst (λ ts. IsSettled facts ts b) same settled) (subst (λ ts. AreValuesUnder b ts values) same is) (lits_are ∙ ap (λ ts. atom_literals 0 ts values) same)
