-- each thing that a search does keeps it running
use Rattle.std.proofs.Common.{◌≡◌, ℕ, suc, ◌<◌, List, [], ◌∷◌, ◌++◌, map, length, get_or, refl, sym, ap, ◌∙◌, subst, Bool, true, false, ◌⊎◌, inl, inr, Option, All, append_assoc, append-nil, arith, length-append}
use Rattle.std.specs.List.{AllByRecursion}
use Rattle.std.proofs.lemmas.List.Elements.{All-cons, All-nil, All-append}
use Rattle.sd_term.specs.declared.node.TermNode.{TermNode}
use Rattle.sd_term.specs.declared.cube.Cube.{Cube}
use Rattle.sd_term.specs.declared.cube.Literal.{Literal}
use Rattle.sd_term.specs.Tree.{Tree}
use Rattle.sd_term.specs.Bank.{tree_at, tree_of, grown, PartsBelow}
use Rattle.sd_term.specs.Sorts.{is_truth_sort, sort_of, IsWellSorted, AllWellSorted}
use Rattle.sd_term.specs.Numbering.{numbered, has, AllIn}
use Rattle.sd_term.specs.Closed.{IsClosed}
use Rattle.sd_term.proofs.Numbers.{has-at}
use Rattle.sd_term.proofs.Trees.{grown-append, tree_at-append, tree_at-last, tree_of-same}
use Rattle.sd_kernel.specs.declared.step.Step.{Step}
use Rattle.sd_kernel.specs.declared.step.Step.TheVariants.{Split, Term}
use Rattle.sd_kernel.specs.declared.step.NodeLine.{NodeLine}
use Rattle.sd_kernel.specs.declared.step.StepCause.TheVariants.{Shape}
use Rattle.sd_kernel.specs.Known.{Fact, Trail}
use Rattle.sd_kernel.specs.Steps.{leaves, named, needs, outcome}
use Rattle.sd_kernel.specs.Proof.{State, IsOpen, front, start, next, continues, after}
use Rattle.sd_kernel.proofs.Lookups.{get-tree}
use Rattle.sd_cube.specs.Atoms.{is_atom}
use Rattle.sd_cube.specs.Required.{IsRequired}
use Rattle.sd_cube.specs.Needed.{IsNeeded}
use Rattle.sd_cube.specs.CubeTerms.{cube_terms, literals_of}
use Rattle.sd_cube.specs.OpenCube.{AreExtra, IsOpenCube}
use Rattle.sd_cube.specs.Spent.{IsDue, AreDue, IsClosedCube, ClosesBranch, cube_literals, IsSpent}
use Rattle.sd_search.specs.Path.{waiting, IsBehind, IsPast, IsTurned, AllSecond}
use Rattle.sd_search.specs.Reading.{Reads, Continues, others}
use Rattle.sd_search.specs.Outcome.{closings}
use Rattle.sd_search.specs.Running.{IsRunning, IsSearch}
use Rattle.sd_search.specs.Atoms.{atom_literals}
use Rattle.sd_search.specs.Settled.{IsSettled}
use Rattle.sd_search.specs.Terms.{AreTerms, AllTruthValued, AreValuesUnder}
use Rattle.sd_search.proofs.Same.{AllTruths}
use Rattle.sd_search.proofs.OpenCubes.{open-cube}
use Rattle.sd_search.proofs.AtomFacts.{atom-truth}
use Rattle.sd_search.proofs.Behind.{past-self, past-fronts, past-turn, behind-past, behind-more, waiting-true, waiting-false, waiting-seconds}
use Rattle.sd_search.proofs.Due.{Among, due-more, due-last, due-front, due-turn, all-apart, value_on, all-outside}
use Rattle.sd_search.proofs.GrownTerms.{IsNew, new-term, term-outcome, required-needed, grown-terms, extra-last, first-terms}
use Rattle.sd_search.proofs.ChoiceLemmas.{required-atom}
use Rattle.sd_search.proofs.Steps.{next-first, front-first, others-first, reads-none}

abbrev pub literal : ℕ → Bool → Literal
literal n b = record { term = n; value = b }

literals-append : (terms : List Tree) (a b : List Literal) → literals_of terms (a ++ b) ≡ literals_of terms a ++ literals_of terms b
literals-append terms [] b = refl
literals-append terms (l ∷ a) b = ap (λ fs. (tree_at terms l.term, l.value) ∷ fs) (literals-append terms a b)

-- the literals name the same trees among more terms
literals-more : (terms more : List Tree) (ls : List Literal) → All (λ (l : Literal). l.term < length terms) ls → literals_of (terms ++ more) ls ≡ literals_of terms ls
literals-more terms more [] h = refl
literals-more terms more (l ∷ ls) h =
    let one : tree_at (terms ++ more) l.term ≡ tree_at terms l.term = tree_at-append terms more l.term (h 0 l (omega arith)) in
    let rest = literals-more terms more ls (λ k d lt. h (suc k) d (omega (arith, lt))) in
    λ i. (one i, l.value) ∷ rest i

-- the literals are about terms that are there
among-literals : (terms : List Tree) (ls : List Literal) → All (λ (l : Literal). l.term < length terms) ls → Among terms (literals_of terms ls)
among-literals terms [] h = tt
among-literals terms (l ∷ ls) h = (has-at terms (tree_at terms l.term) l.term (h 0 l (omega arith)) refl, among-literals terms ls (λ k d lt. h (suc k) d (omega (arith, lt))))

facts-more : (terms more : List Tree) (ids : List ℕ) → All (λ f. f < length terms) ids → map (λ f. tree_at (terms ++ more) f) ids ≡ map (λ f. tree_at terms f) ids
facts-more terms more [] h = refl
facts-more terms more (n ∷ ids) h =
    let one : tree_at (terms ++ more) n ≡ tree_at terms n = tree_at-append terms more n (h 0 0 (omega arith)) in
    let rest = facts-more terms more ids (λ k d lt. h (suc k) d (omega (arith, lt))) in
    λ i. one i ∷ rest i

all-left : {A : Type 0} (P : A → Type 0) (xs ys : List A) → All P (xs ++ ys) → All P xs
all-left P [] ys p = All-nil P
all-left P (x ∷ xs) ys p = All-cons P x xs (p 0 x (omega arith)) (all-left P xs ys (λ k d lt. p (suc k) d (omega (arith, lt))))

all-right : {A : Type 0} (P : A → Type 0) (xs ys : List A) → All P (xs ++ ys) → All P ys
all-right P [] ys p = p
all-right P (x ∷ xs) ys p = all-right P xs ys (λ k d lt. p (suc k) d (omega (arith, lt)))

recursion-map : {A : Type 0} (P Q : A → Type 0) (xs : List A) → ((x : A) → P x → Q x) → AllByRecursion P xs → AllByRecursion Q xs
recursion-map P Q [] f h = tt
recursion-map P Q (x ∷ xs) f h = (f x h.0, recursion-map P Q xs f h.1)

recursion-last : {A : Type 0} (P : A → Type 0) (xs : List A) (x : A) → AllByRecursion P xs → P x → AllByRecursion P (xs ++ x ∷ [])
recursion-last P [] x h p = (p, tt)
recursion-last P (y ∷ xs) x h p = (h.0, recursion-last P xs x h.1 p)

continues-state : (s t : State) → continues s ≡ continues t → s ≡ t
continues-state s t e = cc

split-outcome : (terms : List Tree) (b : Trail) (n : ℕ) → n < length terms → is_atom (tree_at terms n) ≡ true
    → outcome terms b (Split n) ≡ leaves terms ((b ++ (tree_at terms n, true) ∷ []) ∷ (b ++ (tree_at terms n, false) ∷ []) ∷ [])
split-outcome terms b n h a =
    ap (λ o. named o (λ t. needs (is_truth_sort (sort_of t)) Shape (leaves terms ((b ++ (t, true) ∷ []) ∷ (b ++ (t, false) ∷ []) ∷ [])))) (get-tree terms n h)
    ∙ ap (λ q. needs q Shape (leaves terms ((b ++ (tree_at terms n, true) ∷ []) ∷ (b ++ (tree_at terms n, false) ∷ []) ∷ [])))
    (atom-truth (tree_at terms n) a)

module _ (facts : List Tree) (s : State) (ids : List ℕ) (path : List Literal) (extra : List TermNode) (cubes : List Cube) (r : IsRunning facts s ids path extra cubes) where
  abbrev lits : Trail
  lits = literals_of s.0 path

  abbrev branch : Trail
  branch = start facts ++ lits

  abbrev rest : List Trail
  rest = waiting (start facts) lits

  pub front-is : front s ≡ branch
  front-is = front-first s branch rest r.branches

  -- ---- a split

  module _ (n : ℕ) (lt : n < length s.0) (due : IsDue facts s.0 (front s) (tree_at s.0 n)) where
    abbrev two : List Trail
    two = (branch ++ (tree_at s.0 n, true) ∷ []) ∷ (branch ++ (tree_at s.0 n, false) ∷ []) ∷ rest

    split-next : next s (Split n) ≡ continues (s.0, two)
    split-next = next-first s branch rest (Split n) r.branches ∙ ap (after rest) (split-outcome s.0 branch n lt due.atom)

    pub split-continues : Continues s (Split n)
    split-continues = ((s.0, two), split-next)

    due_here : IsDue facts s.0 branch (tree_at s.0 n)
    due_here = subst (λ b. IsDue facts s.0 b (tree_at s.0 n)) front-is due

    longer : literals_of s.0 (path ++ literal n true ∷ []) ≡ lits ++ (tree_at s.0 n, true) ∷ []
    longer = literals-append s.0 path (literal n true ∷ [])

    branches_two : two ≡ (start facts ++ literals_of s.0 (path ++ literal n true ∷ [])) ∷ waiting (start facts) (literals_of s.0 (path ++ literal n true ∷ []))
    branches_two =
        (λ i. append_assoc (start facts) lits ((tree_at s.0 n, true) ∷ []) i ∷ append_assoc (start facts) lits ((tree_at s.0 n, false) ∷ []) i ∷ rest)
        ∙ ap (λ ws. (start facts ++ (lits ++ (tree_at s.0 n, true) ∷ [])) ∷ ws) (sym (waiting-true (start facts) lits (tree_at s.0 n)))
        ∙ ap (λ fs. (start facts ++ fs) ∷ waiting (start facts) fs) (sym longer)

    pub split-running : (s' : State) → next s (Split n) ≡ continues s' → IsRunning facts s' ids (path ++ literal n true ∷ []) extra cubes
    split-running s' e =
        subst (λ w. IsRunning facts w ids (path ++ literal n true ∷ []) extra cubes) (continues-state (s.0, two) s' (sym split-next ∙ e)) (record {
          branches = branches_two;
          grown_by = r.grown_by;
          are_extra = r.are_extra;
          terms = r.terms;
          truths = r.truths;
          facts_are = r.facts_are;
          below = r.below;
          path_below = All-append (λ (l : Literal). l.term < length s.0) path (literal n true ∷ []) r.path_below
              (All-cons (λ (l : Literal). l.term < length s.0) (literal n true) [] lt (All-nil (λ (l : Literal). l.term < length s.0)));
          due = subst (AreDue facts s.0 []) (sym longer) (due-last facts s.0 [] lits (tree_at s.0 n, true) r.due due_here);
          closed = r.closed;
          apart = r.apart;
          behind = subst (λ fs. AllByRecursion (λ c. IsBehind fs (cube_literals facts c)) cubes) (sym longer)
              (recursion-map (λ c. IsBehind lits (cube_literals facts c)) (λ c. IsBehind (lits ++ (tree_at s.0 n, true) ∷ []) (cube_literals facts c)) cubes (λ c h. behind-more lits ((tree_at s.0 n, true) ∷ []) (cube_literals facts c) h) r.behind);
        })

  -- ---- a new term

  module _ (line : NodeLine) (t : Tree) (b : Trail) (required : IsRequired s.0 b t) (made : outcome s.0 b (Term line) ≡ leaves (s.0 ++ t ∷ []) (b ∷ [])) where
    abbrev more : List Tree
    more = s.0 ++ t ∷ []

    term-next : next s (Term line) ≡ continues (more, branch ∷ rest)
    term-next =
        next-first s branch rest (Term line) r.branches
        ∙ ap (after rest) (term-outcome s.0 b branch line t made)

    pub term-continues : Continues s (Term line)
    term-continues = ((more, branch ∷ rest), term-next)

    pub term-new : IsNew s.0 t
    term-new = new-term s.0 b line t r.terms.sorted r.terms.closed made

    pub term-terms : (s' : State) → next s (Term line) ≡ continues s' → s'.0 ≡ more
    term-terms s' e = ap (λ (w : State). w.0) (sym (continues-state (more, branch ∷ rest) s' (sym term-next ∙ e)))

    pub term-running : (s' : State) (node : TermNode) → next s (Term line) ≡ continues s' → PartsBelow (length s.0) node → tree_of s.0 node ≡ t → IsRunning facts s' ids path (extra ++ node ∷ []) cubes
    term-running s' node e below is =
        let need : IsNeeded facts t = required-needed facts s.0 b t r.terms required in
        let same : literals_of more path ≡ lits = literals-more s.0 (t ∷ []) path r.path_below in
        let up : (k : ℕ) → k < length s.0 → k < length more = λ k lt. omega (arith, lt, length-append s.0 (t ∷ [])) in
        let here : tree_of (grown (numbered facts) extra) node ≡ t = ap (λ ts. tree_of ts node) (sym r.grown_by) ∙ is in
        subst (λ w. IsRunning facts w ids path (extra ++ node ∷ []) cubes) (continues-state (more, branch ∷ rest) s' (sym term-next ∙ e)) (record {
          branches = ap (λ fs. (start facts ++ fs) ∷ waiting (start facts) fs) (sym same);
          grown_by = (λ i. r.grown_by i ++ sym here i ∷ []) ∙ sym (grown-append (numbered facts) extra node);
          are_extra = extra-last facts (numbered facts) extra node r.are_extra (subst (λ ts. PartsBelow (length ts) node) r.grown_by below)
              (subst (λ u. has (grown (numbered facts) extra) u ≡ false) (sym here) (subst (λ ts. has ts t ≡ false) r.grown_by term-new.lacks))
              (subst IsWellSorted (sym here) term-new.sorted) (subst (IsNeeded facts) (sym here) need);
          terms = grown-terms facts s.0 t r.terms term-new need;
          truths = r.truths;
          facts_are = facts-more s.0 (t ∷ []) ids r.below ∙ r.facts_are;
          below = λ k d lt. up (get_or ids k d) (r.below k d lt);
          path_below = λ k d lt. up (get_or path k d).term (r.path_below k d lt);
          due = subst (AreDue facts more []) (sym same) (due-more facts s.0 t r.terms term-new.lacks (required-atom s.0 b t required) [] lits tt (among-literals s.0 path r.path_below) r.due);
          closed = r.closed;
          apart = r.apart;
          behind = subst (λ fs. AllByRecursion (λ c. IsBehind fs (cube_literals facts c)) cubes) (sym same) r.behind;
        })

  -- ---- a closed branch

  module _ (s' : State) (steps : List Step) (c : Cube) (terms_same : s'.0 ≡ s.0) (branches_left : s'.1 ≡ others s) (closes_branch : ClosesBranch s.0 (front s) steps) (extra_is : c.extra ≡ extra) (literals_is : c.literals ≡ path) where
    cube_terms_are : cube_terms facts c ≡ s.0
    cube_terms_are = ap (grown (numbered facts)) extra_is ∙ sym r.grown_by

    cube_literals_are : cube_literals facts c ≡ lits
    cube_literals_are i = literals_of (cube_terms_are i) (literals_is i)

    left : s'.1 ≡ rest
    left = branches_left ∙ others-first s branch rest r.branches

    closed_cube : IsClosedCube facts c
    closed_cube = record {
      extra = subst (AreExtra facts (numbered facts)) (sym extra_is) r.are_extra;
      due = subst (λ ts. AreDue facts ts [] (literals_of ts c.literals)) (sym cube_terms_are) (subst (λ ls. AreDue facts s.0 [] (literals_of s.0 ls)) (sym literals_is) r.due);
      steps = steps;
      closes_branch = subst (λ ts. ClosesBranch ts (start facts ++ literals_of ts c.literals) steps) (sym cube_terms_are)
          (subst (λ ls. ClosesBranch s.0 (start facts ++ literals_of s.0 ls) steps) (sym literals_is) (subst (λ b. ClosesBranch s.0 b steps) front-is closes_branch));
    }

    seconds : (ls : List Literal) → AllSecond ls → AllByRecursion (λ (f : Fact). f.1 ≡ false) (literals_of s.0 ls)
    seconds [] h = tt
    seconds (l ∷ ls) h = (h.0, seconds ls h.1)

    -- no branch waits for second branches alone
    ended : AllSecond path → s'.1 ≡ []
    ended h = left ∙ waiting-seconds (start facts) [] lits (seconds path h)

    module _ (path' : List Literal) (turned : IsTurned path path') where
      abbrev front_lits : Trail
      front_lits = literals_of s.0 turned.front

      abbrev t : Tree
      t = tree_at s.0 turned.term

      abbrev done_lits : Trail
      done_lits = literals_of s.0 turned.done

      old_are : lits ≡ (front_lits ++ (t, true) ∷ []) ++ done_lits
      old_are = ap (literals_of s.0) turned.old_is ∙ literals-append s.0 turned.front (literal turned.term true ∷ turned.done) ∙ sym (append_assoc front_lits ((t, true) ∷ []) done_lits)

      new_are : literals_of s.0 path' ≡ front_lits ++ (t, false) ∷ []
      new_are = ap (literals_of s.0) turned.new_is ∙ literals-append s.0 turned.front (literal turned.term false ∷ [])

      branches_now : rest ≡ (start facts ++ literals_of s.0 path') ∷ waiting (start facts) (literals_of s.0 path')
      branches_now =
          ap (waiting (start facts)) old_are
          ∙ waiting-seconds (start facts) (front_lits ++ (t, true) ∷ []) done_lits (seconds turned.done turned.all_second)
          ∙ waiting-true (start facts) front_lits t
          ∙ ap (λ ws. (start facts ++ (front_lits ++ (t, false) ∷ [])) ∷ ws) (sym (waiting-false (start facts) front_lits t))
          ∙ ap (λ fs. (start facts ++ fs) ∷ waiting (start facts) fs) (sym new_are)

      behind_now : (ls : Trail) → IsPast lits ls → IsBehind (literals_of s.0 path') ls
      behind_now ls p =
          subst (λ fs. IsBehind fs ls) (sym new_are)
          (past-turn front_lits t ls (past-fronts (front_lits ++ (t, true) ∷ []) done_lits ls (subst (λ fs. IsPast fs ls) old_are p)))

      due_now : AreDue facts s.0 [] (literals_of s.0 path')
      due_now =
          subst (AreDue facts s.0 []) (sym new_are)
          (due-turn facts s.0 [] front_lits t (due-front facts s.0 [] (front_lits ++ (t, true) ∷ []) done_lits (subst (AreDue facts s.0 []) old_are r.due)))

      below_now : All (λ (l : Literal). l.term < length s.0) path'
      below_now =
          let all = subst (All (λ (l : Literal). l.term < length s.0)) turned.old_is r.path_below in
          let last = all-right (λ (l : Literal). l.term < length s.0) turned.front (literal turned.term true ∷ turned.done) all in
          subst (All (λ (l : Literal). l.term < length s.0)) (sym turned.new_is)
          (All-append (λ (l : Literal). l.term < length s.0) turned.front (literal turned.term false ∷ []) (all-left (λ (l : Literal). l.term < length s.0) turned.front (literal turned.term true ∷ turned.done) all)
          (All-cons (λ (l : Literal). l.term < length s.0) (literal turned.term false) [] (last 0 (literal 0 true) (omega arith)) (All-nil (λ (l : Literal). l.term < length s.0))))

      turned-running : IsRunning facts s' ids path' extra (cubes ++ c ∷ [])
      turned-running =
          subst (λ w. IsRunning facts w ids path' extra (cubes ++ c ∷ [])) state (record {
            branches = branches_now;
            grown_by = r.grown_by;
            are_extra = r.are_extra;
            terms = r.terms;
            truths = r.truths;
            facts_are = r.facts_are;
            below = r.below;
            path_below = below_now;
            due = due_now;
            closed = recursion-last (IsClosedCube facts) cubes c r.closed closed_cube;
            apart = all-apart facts cubes c r.apart (subst (λ fs. AllByRecursion (λ d. IsBehind fs (cube_literals facts d)) cubes) (sym cube_literals_are) r.behind);
            behind = recursion-last (λ d. IsBehind (literals_of s.0 path') (cube_literals facts d)) cubes c
                (recursion-map (λ d. IsBehind lits (cube_literals facts d)) (λ d. IsBehind (literals_of s.0 path') (cube_literals facts d)) cubes (λ d h. behind_now (cube_literals facts d) (behind-past lits (cube_literals facts d) h)) r.behind)
                (behind_now (cube_literals facts c) (subst (IsPast lits) (sym cube_literals_are) (past-self lits)));
          })
        where
          state : (s.0, rest) ≡ s'
          state i = (sym terms_same i, sym left i)

    pub close-running : (path' : List Literal) → (IsTurned path path' ⊎ AllSecond path) → IsOpen s' → IsRunning facts s' ids path' extra (cubes ++ c ∷ [])
    close-running path' (inl turned) opened = turned-running path' turned
    close-running path' (inr second) opened = absurd (opened (ended second))

  -- ---- an open cube

  pub truths-of : (ls : List Tree) → AllTruthValued ls → AllTruths (start ls)
  truths-of [] h = tt
  truths-of (u ∷ ls) h = (h.0, truths-of ls h.1)

  due-truths : (before fs : Trail) → AreDue facts s.0 before fs → AllTruths fs
  due-truths before [] d = tt
  due-truths before (f ∷ fs) d = (atom-truth f.0 d.0.atom, due-truths (before ++ f ∷ []) fs d.1)

  truths-append : (a b : Trail) → AllTruths a → AllTruths b → AllTruths (a ++ b)
  truths-append [] b p q = q
  truths-append (f ∷ a) b p q = (p.0, truths-append a b p.1 q)

  pub running-terms : (cube : Cube) → cube.extra ≡ extra → s.0 ≡ cube_terms facts cube
  running-terms cube extra_is = r.grown_by ∙ ap (grown (numbered facts)) (sym extra_is)

  pub running-cube : (cube : Cube) (values : List (Option Bool)) → IsSettled facts s.0 (front s) → AreValuesUnder (front s) s.0 values → cube.extra ≡ extra → cube.literals ≡ atom_literals 0 s.0 values → IsOpenCube facts cube
  running-cube cube values settled is extra_is lits_are =
      let same = running-terms cube extra_is in
      let truths : AllTruths (front s) = subst AllTruths (sym front-is) (truths-append (start facts) lits (truths-of facts r.truths) (due-truths [] lits r.due)) in
      open-cube facts (front s) cube values (subst (AreExtra facts (numbered facts)) (sym extra_is) r.are_extra)
      (subst AllWellSorted same r.terms.sorted) (subst IsClosed same r.terms.closed) truths (subst (λ ts. AllIn ts facts) same r.terms.there)
      (subst (λ ts. IsSettled facts ts (front s)) same settled)
      (subst (λ ts. AreValuesUnder (front s) ts values) same is)
      (lits_are ∙ ap (λ ts. atom_literals 0 ts values) same)

-- the node of the last of some terms
pub new-node : (old new : List Tree) (t : Tree) (n : ℕ) (node : TermNode) → n ≡ length old → new ≡ old ++ t ∷ [] → PartsBelow n node → tree_of new node ≡ tree_at new n
    → PartsBelow (length old) node × (tree_of old node ≡ t)
new-node old new t n node e f below is = (
  subst (λ k. PartsBelow k node) e below,
  sym (tree_of-same (old ++ t ∷ []) old (length old) node (λ i lt. tree_at-append old (t ∷ []) i lt) (subst (λ k. PartsBelow k node) e below))
      ∙ ap (λ ts. tree_of ts node) (sym f) ∙ is ∙ (λ i. tree_at (f i) (e i)) ∙ tree_at-last old t,
)

-- ---- the start of a search, and a search that is spent

pub new-running : (facts terms : List Tree) (ids : List ℕ) → AllWellSorted facts → terms ≡ numbered facts → map (λ f. tree_at terms f) ids ≡ facts → All (λ f. f < length terms) ids → AllTruthValued facts
    → (walk : State) → walk ≡ (terms, start (map (λ f. tree_at terms f) ids) ∷ []) → IsRunning facts walk ids [] [] []
new-running facts terms ids sorted e are below truths walk w =
    subst (λ s. IsRunning facts s ids [] [] []) (sym w) (record {
      branches = ap (λ b. b ∷ []) (ap start are ∙ sym (append-nil (start facts)));
      grown_by = e;
      are_extra = tt;
      terms = subst (AreTerms facts) (sym e) (first-terms facts sorted);
      truths = truths;
      facts_are = are;
      below = below;
      path_below = All-nil (λ (l : Literal). l.term < length terms);
      due = tt;
      closed = tt;
      apart = λ i j d lt within. absurd (omega arith);
      behind = tt;
    })

pub new-search : (facts terms : List Tree) (ids : List ℕ) → AllWellSorted facts → terms ≡ numbered facts → map (λ f. tree_at terms f) ids ≡ facts → All (λ f. f < length terms) ids → AllTruthValued facts
    → (walk : State) → walk ≡ (terms, start (map (λ f. tree_at terms f) ids) ∷ []) → (steps : List Step) (path : List Literal) (extra : List TermNode) (cubes : List Cube) → steps ≡ [] → path ≡ [] → extra ≡ [] → cubes ≡ []
    → IsSearch facts (record { walk = walk; steps = steps; facts = ids; path = path; extra = extra; cubes = cubes })
new-search facts terms ids sorted e are below truths walk w steps path extra cubes es ep ex ec = record {
  reads = subst (Reads (numbered facts, start facts ∷ []) steps) (sym (w ∙ (λ i. (e i, start (are i) ∷ [])))) (reads-none (numbered facts, start facts ∷ []) steps es);
  count = ap closings es ∙ ap length (sym ec);
  running = λ _.
      subst (λ p. IsRunning facts walk ids p extra cubes) (sym ep) (subst (λ x. IsRunning facts walk ids [] x cubes) (sym ex)
      (subst (λ cs. IsRunning facts walk ids [] [] cs) (sym ec) (new-running facts terms ids sorted e are below truths walk w)));
}

pub spent : (facts : List Tree) (s : State) (ids : List ℕ) (path : List Literal) (extra : List TermNode) (cubes : List Cube) (most : ℕ) → IsRunning facts s ids path extra cubes → length cubes ≡ most → IsSpent facts cubes most
spent facts s ids path extra cubes most r count = record {
  count = count;
  closed = r.closed;
  apart = r.apart;
  values = value_on (literals_of s.0 path);
  outside = all-outside facts s.0 (literals_of s.0 path) r.due cubes r.behind;
}
