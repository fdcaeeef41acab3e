-- steps that are copied with numbers of their own make the rows that they made
use Rattle.std.proofs.Common.{◌≡◌, ℕ, zero, suc, ◌+◌, ◌<◌, ◌≤◌, List, [], ◌∷◌, ◌++◌, length, refl, sym, ap, ◌∙◌, subst, Bool, true, false, arith, ◌==◌, ◌⊎◌, inl, inr, append_assoc, length-append}
use Rattle.std.proofs.Math.ListN.{get_or-append}
use Rattle.std.specs.Prelude.{slice_index_or}
use Rattle.std.specs.List.{list_any}
use Rattle.std.proofs.lemmas.List.Folds.{list_any_at}
use Rattle.std.proofs.Math.Seq.{get_or-append_seam}
use borrow.Author.Tests.{eqb-true, eqb-false, eq-eqb}
use Rattle.sd_rows.specs.declared.row.Row.{Row}
use Rattle.sd_rows.specs.Rows.{nothing, is_within, IsAbsurd}
use Rattle.sd_rows.specs.Divisors.{greatest_divisor}
use Rattle.sd_rows.specs.RowOps.{added, reduced, sizes}
use Rattle.sd_linear.specs.declared.step.RowStep.{RowStep}
use Rattle.sd_linear.specs.declared.step.RowStep.TheVariants.{Input, Add, Cut}
use Rattle.sd_linear.specs.RowSteps.{row_made, made_from, rows_made, IsStep, AreSteps, Refutes, names, AllUsed, IsUseful, AreUseful}
use Rattle.sd_linear.specs.Values.{AllWithin}
use Rattle.sd_linear.specs.Answers.{IsRefutation}
use Rattle.sd_linear.specs.Pruning.{step_at, is_marked, number_of, AllEarlier, AreNeeded, renumbered}
use Rattle.sd_linear.proofs.Deriving.{length-made_from, made_from-append, made_from-front, AreSteps-append, AreUseful-append, at-front, at-end, AllWithin-append}
use Rattle.sd_linear.proofs.Naming.{names-first, names-second}
use Rattle.sd_linear.proofs.Marking.{marked-within}

-- ---- a step and its row, at their place

row_made-more : (inputs before more : List Row) (s : RowStep) → IsStep inputs before s → row_made inputs (before ++ more) s ≡ row_made inputs before s
row_made-more inputs before more (Input i) h = refl
row_made-more inputs before more (Add a m b n) h = λ i. added m (at-front before more a h.0 i) n (at-front before more b h.1 i)
row_made-more inputs before more (Cut a) h = ap reduced (at-front before more a h)

IsStep-more : (inputs before more : List Row) (s : RowStep) → IsStep inputs before s → IsStep inputs (before ++ more) s
IsStep-more inputs before more (Input i) h = h
IsStep-more inputs before more (Add a m b n) h = (omega (arith, h.0, length-append before more), omega (arith, h.1, length-append before more), h.2, h.3, h.4, h.5)
IsStep-more inputs before more (Cut a) h = omega (arith, h, length-append before more)

IsUseful-more : (inputs before more : List Row) (s : RowStep) → IsStep inputs before s → IsUseful before s → IsUseful (before ++ more) s
IsUseful-more inputs before more (Input i) h u = u
IsUseful-more inputs before more (Add a m b n) h u = u
IsUseful-more inputs before more (Cut a) h u = subst (λ (r : Row). 1 < greatest_divisor (sizes r.parts)) (sym (at-front before more a h)) u

named-below : (inputs before : List Row) (s : RowStep) (j : ℕ) → IsStep inputs before s → names s j ≡ true → j < length before
named-below inputs before (Input i) j h e = absurd (cc)
named-below inputs before (Add a m b n) j h e = grind arith
named-below inputs before (Cut a) j h e = grind arith

-- the row of a step follows those before it
front : (inputs before : List Row) (s : RowStep) (ss : List RowStep) → (more : List Row) × (made_from inputs before (s ∷ ss) ≡ before ++ row_made inputs before s ∷ more)
front inputs before s ss =
    let r : Row = row_made inputs before s in
    let m = made_from-front inputs (before ++ r ∷ []) ss in
    (m.0, m.1 ∙ append_assoc before (r ∷ []) m.0)

-- what a step makes, and the row that stands at its place once all are made
pub record StandsAt (inputs all : List Row) (s : RowStep) (place : ℕ) : Type 0 where
  pub is_step : IsStep inputs all s
  pub earlier : (j : ℕ) → names s j ≡ true → j < place
  pub row : slice_index_or all place nothing ≡ row_made inputs all s

stands-at : (inputs before : List Row) (ss : List RowStep) (i : ℕ) → i < length ss → AreSteps inputs before ss → StandsAt inputs (made_from inputs before ss) (step_at ss i) (length before + i)
stands-at inputs before [] i h a = absurd (omega arith)
stands-at inputs before (s ∷ ss) zero h a =
    let r : Row = row_made inputs before s in
    let m = front inputs before s ss in
    let z : length before + 0 ≡ length before = omega arith in
    let f : slice_index_or (before ++ r ∷ m.0) (length before + 0) nothing ≡ r = ap (λ (i : ℕ). slice_index_or (before ++ r ∷ m.0) i nothing) z ∙ at-end before r m.0 in
    subst (λ (l : List Row). StandsAt inputs l s (length before + 0)) (sym m.1)
    (record {
      is_step = IsStep-more inputs before (r ∷ m.0) s a.0;
      earlier = λ j n. omega (arith, named-below inputs before s j a.0 n);
      row = f ∙ sym (row_made-more inputs before (r ∷ m.0) s a.0);
    })
stands-at inputs before (s ∷ ss) (suc i) h a =
    let r : Row = row_made inputs before s in
    let n : length (before ++ r ∷ []) + i ≡ length before + suc i = omega (arith, length-append before (r ∷ [])) in
    subst (λ (k : ℕ). StandsAt inputs (made_from inputs (before ++ r ∷ []) ss) (step_at ss i) k) n
    (stands-at inputs (before ++ r ∷ []) ss i (omega arith) a.1)

pub stands : (inputs : List Row) (ss : List RowStep) (i : ℕ) → i < length ss → AreSteps inputs [] ss → StandsAt inputs (rows_made inputs ss) (step_at ss i) i
stands inputs ss i h a = let n : 0 + i ≡ i = omega arith in subst (λ (k : ℕ). StandsAt inputs (rows_made inputs ss) (step_at ss i) k) n (stands-at inputs [] ss i h a)

useful-at : (inputs before : List Row) (ss : List RowStep) (i : ℕ) → i < length ss → AreSteps inputs before ss → AreUseful inputs before ss → IsUseful (made_from inputs before ss) (step_at ss i)
useful-at inputs before [] i h a u = absurd (omega arith)
useful-at inputs before (s ∷ ss) zero h a u =
    let m = front inputs before s ss in
    subst (λ (l : List Row). IsUseful l s) (sym m.1) (IsUseful-more inputs before (row_made inputs before s ∷ m.0) s a.0 u.0)
useful-at inputs before (s ∷ ss) (suc i) h a u = useful-at inputs (before ++ row_made inputs before s ∷ []) ss i (omega arith) a.1 u.1

pub AllEarlier-steps : (inputs : List Row) (ss : List RowStep) → AreSteps inputs [] ss → AllEarlier ss
AllEarlier-steps inputs ss a = λ i j h n. (stands inputs ss i h a).earlier j n

-- ---- a step by new numbers

names-renumbered : (numbers : List ℕ) (s : RowStep) (j : ℕ) → names s j ≡ true → names (renumbered numbers s) (number_of numbers j) ≡ true
names-renumbered numbers (Input i) j e = e
names-renumbered numbers (Add a m b n) j e = grind arith
names-renumbered numbers (Cut a) j e = grind arith

-- where the rows from which it is made stand at the new numbers, it is a step and makes the row that it made
pub record Matches (numbers : List ℕ) (all made : List Row) (j : ℕ) : Type 0 where
  pub there : number_of numbers j < length made
  pub row : slice_index_or made (number_of numbers j) nothing ≡ slice_index_or all j nothing

IsStep-renumbered : (inputs all made : List Row) (numbers : List ℕ) (s : RowStep) → IsStep inputs all s → ((j : ℕ) → names s j ≡ true → Matches numbers all made j) → IsStep inputs made (renumbered numbers s)
IsStep-renumbered inputs all made numbers (Input i) h f = h
IsStep-renumbered inputs all made numbers (Add a m b n) h f = ((f a (names-first (Add a m b n) a m b n refl)).there, (f b (names-second (Add a m b n) a m b n refl)).there, h.2, h.3, h.4, h.5)
IsStep-renumbered inputs all made numbers (Cut a) h f = (f a (eq-eqb a a refl)).there

row_made-renumbered : (inputs all made : List Row) (numbers : List ℕ) (s : RowStep) → ((j : ℕ) → names s j ≡ true → Matches numbers all made j) → row_made inputs made (renumbered numbers s) ≡ row_made inputs all s
row_made-renumbered inputs all made numbers (Input i) f = refl
row_made-renumbered inputs all made numbers (Add a m b n) f =
    λ i. added m ((f a (names-first (Add a m b n) a m b n refl)).row i) n ((f b (names-second (Add a m b n) a m b n refl)).row i)
row_made-renumbered inputs all made numbers (Cut a) f = ap reduced (f a (eq-eqb a a refl)).row

IsUseful-renumbered : (all made : List Row) (numbers : List ℕ) (s : RowStep) → ((j : ℕ) → names s j ≡ true → Matches numbers all made j) → IsUseful all s → IsUseful made (renumbered numbers s)
IsUseful-renumbered all made numbers (Input i) f u = u
IsUseful-renumbered all made numbers (Add a m b n) f u = u
IsUseful-renumbered all made numbers (Cut a) f u = subst (λ (r : Row). 1 < greatest_divisor (sizes r.parts)) (sym (f a (eq-eqb a a refl)).row) u

within-at : (rs : List Row) (i : ℕ) → i < length rs → AllWithin rs → is_within (slice_index_or rs i nothing) ≡ true
within-at [] i h a = absurd (omega arith)
within-at (r ∷ rs) zero h a = a.0
within-at (r ∷ rs) (suc i) h a = within-at rs i (omega arith) a.1

-- ---- the copy, once the first i steps are done

pub record KeepsRows (inputs : List Row) (steps : List RowStep) (marks : List Bool) (i : ℕ) (numbers : List ℕ) (kept : List RowStep) : Type 0 where
  pub are_steps : AreSteps inputs [] kept
  pub within : AllWithin (rows_made inputs kept)
  pub useful : AreUseful inputs [] kept
  pub rows : (k : ℕ) → k < i → is_marked marks k ≡ true → Matches numbers (rows_made inputs steps) (rows_made inputs kept) k

pub record Copies (steps : List RowStep) (marks : List Bool) (i : ℕ) (numbers : List ℕ) (kept : List RowStep) : Type 0 where
  pub count : length numbers ≡ i
  pub room : length kept ≤ i
  pub below : (k : ℕ) → k < i → is_marked marks k ≡ true → number_of numbers k < length kept
  pub named : (k j : ℕ) → k < i → is_marked marks k ≡ true → names (step_at steps k) j ≡ true → names (step_at kept (number_of numbers k)) (number_of numbers j) ≡ true
  pub comes_from : (j : ℕ) → j < length kept → (k : ℕ) × (k < i) × (is_marked marks k ≡ true) × (number_of numbers k ≡ j)
  pub latest : (k : ℕ) → k + 1 ≡ i → is_marked marks k ≡ true → number_of numbers k + 1 ≡ length kept
  pub rows_kept : (inputs : List Row) → AreSteps inputs [] steps → AllWithin (rows_made inputs steps) → AreUseful inputs [] steps → KeepsRows inputs steps marks i numbers kept

number-old : (numbers : List ℕ) (x k : ℕ) → k < length numbers → number_of (numbers ++ x ∷ []) k ≡ number_of numbers k
number-old numbers x k h = get_or-append numbers (x ∷ []) 0 k h

number-new : (numbers : List ℕ) (x k : ℕ) → k ≡ length numbers → number_of (numbers ++ x ∷ []) k ≡ x
number-new numbers x k e = ap (number_of (numbers ++ x ∷ [])) e ∙ get_or-append_seam numbers x [] 0

-- an older place, or the newest
newest : (k i : ℕ) → k < i + 1 → (k < i) ⊎ (k ≡ i)
newest k i h = grind arith

unmarked : (marks : List Bool) (k i : ℕ) → is_marked marks i ≡ false → is_marked marks k ≡ true → k ≡ i → ⊥
unmarked marks k i e f g = let h : is_marked marks k ≡ is_marked marks i = ap (is_marked marks) g in absurd (cc)

pub copies-skip : (steps : List RowStep) (marks : List Bool) (i : ℕ) (numbers numbers' : List ℕ) (kept : List RowStep) → i < length steps → AllEarlier steps → is_marked marks i ≡ false
    → numbers' ≡ numbers ++ length kept ∷ [] → Copies steps marks i numbers kept → Copies steps marks (i + 1) numbers' kept
copies-skip steps marks i numbers numbers' kept h early e f c = record {
  count = ap (λ (l : List ℕ). length l) f ∙ omega (arith, length-append numbers (length kept ∷ []), c.count);
  room = omega (arith, c.room);
  below = λ k l m. let o : k < i = older k l m in subst (λ (x : ℕ). x < length kept) (sym (old k o)) (c.below k o m);
  named = λ k j l m n.
      let o : k < i = older k l m in
      let p : j < i = omega (arith, early k j (omega arith) n) in
      subst (λ (x : ℕ). names (step_at kept x) (number_of numbers' j) ≡ true) (sym (old k o))
      (subst (λ (x : ℕ). names (step_at kept (number_of numbers k)) x ≡ true) (sym (old j p)) (c.named k j o m n));
  comes_from = λ j l. let d = c.comes_from j l in (d.0, omega (arith, d.1), d.2, old d.0 d.1 ∙ d.3);
  latest = λ k l m. absurd (unmarked marks k i e m (omega arith));
  rows_kept = λ inputs a w v.
      let d : KeepsRows inputs steps marks i numbers kept = c.rows_kept inputs a w v in
      record {
        are_steps = d.are_steps;
        within = d.within;
        useful = d.useful;
        rows = λ k l m.
            let o : k < i = older k l m in
            let q : Matches numbers (rows_made inputs steps) (rows_made inputs kept) k = d.rows k o m in
            record {
              there = subst (λ (x : ℕ). x < length (rows_made inputs kept)) (sym (old k o)) q.there;
              row = ap (λ (x : ℕ). slice_index_or (rows_made inputs kept) x nothing) (old k o) ∙ q.row;
            };
      };
}
  where
    older : (k : ℕ) → k < i + 1 → is_marked marks k ≡ true → k < i
    older k l m = go (newest k i l)
      where
        go : (k < i) ⊎ (k ≡ i) → k < i
        go (inl o) = o
        go (inr o) = absurd (unmarked marks k i e m o)

    old : (k : ℕ) → k < i → number_of numbers' k ≡ number_of numbers k
    old k o = ap (λ (l : List ℕ). number_of l k) f ∙ number-old numbers (length kept) k (omega (arith, c.count))

pub copies-mark : (steps : List RowStep) (marks : List Bool) (i : ℕ) (numbers numbers' : List ℕ) (kept kept' : List RowStep) → i < length steps → AllEarlier steps → AreNeeded steps marks → is_marked marks i ≡ true
    → numbers' ≡ numbers ++ length kept ∷ [] → kept' ≡ kept ++ renumbered numbers (step_at steps i) ∷ [] → Copies steps marks i numbers kept → Copies steps marks (i + 1) numbers' kept'
copies-mark steps marks i numbers numbers' kept kept' h early n e f g c = record {
  count = ap (λ (l : List ℕ). length l) f ∙ omega (arith, length-append numbers (length kept ∷ []), c.count);
  room = omega (arith, longer, c.room);
  below = λ k l m. below k m (newest k i l);
  named = λ k j l m o. named k j m o (newest k i l);
  comes_from = λ j l. comes_from j (newest j (length kept) (omega (arith, longer)));
  latest = λ k l m. let o : k ≡ i = omega arith in ap (λ (x : ℕ). x + 1) (new k o) ∙ sym longer;
  rows_kept = λ inputs a w v. rows_kept inputs a w v (c.rows_kept inputs a w v);
}
  where
    t : RowStep
    t = renumbered numbers (step_at steps i)

    longer : length kept' ≡ length kept + 1
    longer = ap (λ (l : List RowStep). length l) g ∙ length-append kept (renumbered numbers (step_at steps i) ∷ [])

    old : (k : ℕ) → k < i → number_of numbers' k ≡ number_of numbers k
    old k o = ap (λ (l : List ℕ). number_of l k) f ∙ number-old numbers (length kept) k (omega (arith, c.count))

    new : (k : ℕ) → k ≡ i → number_of numbers' k ≡ length kept
    new k o = ap (λ (l : List ℕ). number_of l k) f ∙ number-new numbers (length kept) k (omega (arith, c.count))

    below : (k : ℕ) → is_marked marks k ≡ true → (k < i) ⊎ (k ≡ i) → number_of numbers' k < length kept'
    below k m (inl o) = omega (arith, longer, old k o, c.below k o m)
    below k m (inr o) = omega (arith, longer, new k o)

    step-old : (x : ℕ) → x < length kept → step_at kept' x ≡ step_at kept x
    step-old x o = ap (λ (l : List RowStep). step_at l x) g ∙ get_or-append kept (renumbered numbers (step_at steps i) ∷ []) (Input 0) x o

    step-new : step_at kept' (length kept) ≡ renumbered numbers (step_at steps i)
    step-new = ap (λ (l : List RowStep). step_at l (length kept)) g ∙ get_or-append_seam kept (renumbered numbers (step_at steps i)) [] (Input 0)

    named : (k j : ℕ) → is_marked marks k ≡ true → names (step_at steps k) j ≡ true → (k < i) ⊎ (k ≡ i) → names (step_at kept' (number_of numbers' k)) (number_of numbers' j) ≡ true
    named k j m o (inl l) =
        let q : j < i = omega (arith, early k j (omega arith) o) in
        ap (λ (x : ℕ). names (step_at kept' (number_of numbers' k)) x) (old j q)
        ∙ ap (λ (x : ℕ). names (step_at kept' x) (number_of numbers j)) (old k l)
        ∙ ap (λ (s : RowStep). names s (number_of numbers j)) (step-old (number_of numbers k) (c.below k l m))
        ∙ c.named k j l m o
    named k j m o (inr l) =
        let q : j < i = omega (arith, early k j (omega arith) o) in
        ap (λ (x : ℕ). names (step_at kept' (number_of numbers' k)) x) (old j q)
        ∙ ap (λ (x : ℕ). names (step_at kept' x) (number_of numbers j)) (new k l)
        ∙ ap (λ (s : RowStep). names s (number_of numbers j)) step-new
        ∙ names-renumbered numbers (step_at steps i) j (ap (λ (x : ℕ). names (step_at steps x) j) (sym l) ∙ o)

    comes_from : (j : ℕ) → (j < length kept) ⊎ (j ≡ length kept) → (k : ℕ) × (k < i + 1) × (is_marked marks k ≡ true) × (number_of numbers' k ≡ j)
    comes_from j (inl l) = let d = c.comes_from j l in (d.0, omega (arith, d.1), d.2, old d.0 d.1 ∙ d.3)
    comes_from j (inr l) = (i, omega arith, e, new i refl ∙ sym l)

    rows_kept : (inputs : List Row) → AreSteps inputs [] steps → AllWithin (rows_made inputs steps) → AreUseful inputs [] steps → KeepsRows inputs steps marks i numbers kept → KeepsRows inputs steps marks (i + 1) numbers' kept'
    rows_kept inputs a w v d = record {
      are_steps = subst (AreSteps inputs []) (sym g) (AreSteps-append inputs [] kept (renumbered numbers (step_at steps i) ∷ []) d.are_steps (IsStep-renumbered inputs all made numbers (step_at steps i) s.is_step parts, tt));
      within = subst AllWithin (sym whole) (AllWithin-append made (row_made inputs made (renumbered numbers (step_at steps i)) ∷ []) d.within (ap is_within same ∙ within-at all i long w, tt));
      useful = subst (AreUseful inputs []) (sym g)
          (AreUseful-append inputs [] kept (renumbered numbers (step_at steps i) ∷ []) d.useful (IsUseful-renumbered all made numbers (step_at steps i) parts (useful-at inputs [] steps i h a v), tt));
      rows = λ k l m. rows k m (newest k i l);
    }
      where
        all : List Row
        all = rows_made inputs steps

        made : List Row
        made = rows_made inputs kept

        s : StandsAt inputs (rows_made inputs steps) (step_at steps i) i
        s = stands inputs steps i h a

        long : i < length (rows_made inputs steps)
        long = omega (arith, length-made_from inputs [] steps)

        counted : length (rows_made inputs kept) ≡ length kept
        counted = length-made_from inputs [] kept ∙ omega arith

        parts : (j : ℕ) → names (step_at steps i) j ≡ true → Matches numbers (rows_made inputs steps) (rows_made inputs kept) j
        parts j o = d.rows j (s.earlier j o) (n.closed i j e o)

        same : row_made inputs (rows_made inputs kept) (renumbered numbers (step_at steps i)) ≡ slice_index_or (rows_made inputs steps) i nothing
        same = row_made-renumbered inputs (rows_made inputs steps) (rows_made inputs kept) numbers (step_at steps i) parts ∙ sym s.row

        whole : rows_made inputs kept' ≡ rows_made inputs kept ++ row_made inputs (rows_made inputs kept) (renumbered numbers (step_at steps i)) ∷ []
        whole = ap (rows_made inputs) g ∙ made_from-append inputs [] kept (renumbered numbers (step_at steps i) ∷ [])

        rows : (k : ℕ) → is_marked marks k ≡ true → (k < i) ⊎ (k ≡ i) → Matches numbers' (rows_made inputs steps) (rows_made inputs kept') k
        rows k m (inl o) =
            let q : Matches numbers (rows_made inputs steps) (rows_made inputs kept) k = d.rows k o m in
            record {
              there = omega (arith, below k m (inl o), length-made_from inputs [] kept');
              row = ap (λ (x : ℕ). slice_index_or (rows_made inputs kept') x nothing) (old k o)
                  ∙ ap (λ (l : List Row). slice_index_or l (number_of numbers k) nothing) whole
                  ∙ at-front (rows_made inputs kept) (row_made inputs (rows_made inputs kept) (renumbered numbers (step_at steps i)) ∷ []) (number_of numbers k) q.there
                  ∙ q.row;
            }
        rows k m (inr o) = record {
          there = omega (arith, below k m (inr o), length-made_from inputs [] kept');
          row = ap (λ (x : ℕ). slice_index_or (rows_made inputs kept') x nothing) (new k o ∙ sym counted)
              ∙ ap (λ (l : List Row). slice_index_or l (length (rows_made inputs kept)) nothing) whole
              ∙ at-end (rows_made inputs kept) (row_made inputs (rows_made inputs kept) (renumbered numbers (step_at steps i))) []
              ∙ same
              ∙ ap (λ (x : ℕ). slice_index_or (rows_made inputs steps) x nothing) (sym o);
        }

-- ---- all are done

all-used : (steps : List RowStep) (marks : List Bool) (numbers : List ℕ) (kept : List RowStep) → AreNeeded steps marks → Copies steps marks (length steps) numbers kept → AllUsed kept
all-used steps marks numbers kept n c = λ i h. go i h (c.comes_from i (omega arith))
  where
    go : (i : ℕ) → i + 1 < length kept → (k : ℕ) × (k < length steps) × (is_marked marks k ≡ true) × (number_of numbers k ≡ i) → list_any (λ s. names s i) kept ≡ true
    go i h (k, l, m, e) = last (k + 1 == length steps) refl
      where
        last : (b : Bool) → (k + 1 == length steps) ≡ b → list_any (λ s. names s i) kept ≡ true
        last true f = absurd (omega (arith, c.latest k (eqb-true (k + 1) (length steps) f) m))
        last false f =
            let u = n.used k (omega (arith, eqb-false (k + 1) (length steps) f)) m in
            let o : u.0 < length steps = omega (arith, marked-within marks u.0 u.1, n.count) in
            list_any_at (λ s. names s i) kept (number_of numbers u.0) (Input 0) (c.below u.0 o u.1)
            (ap (λ (x : ℕ). names (step_at kept (number_of numbers u.0)) x) (sym e) ∙ c.named u.0 k o u.1 u.2)

pub copies-done : (steps : List RowStep) (marks : List Bool) (numbers : List ℕ) (kept : List RowStep) (i : ℕ) → i ≡ length steps → AreNeeded steps marks → Copies steps marks i numbers kept
    → (inputs : List Row) → Refutes inputs steps → AllWithin (rows_made inputs steps) → AreUseful inputs [] steps → IsRefutation inputs kept
copies-done steps marks numbers kept i x n d inputs r w v =
    let c : Copies steps marks (length steps) numbers kept = subst (λ (j : ℕ). Copies steps marks j numbers kept) x d in
    let k : ℕ = r.ends.0 in
    let e : k + 1 ≡ length steps = r.ends.1 ∙ length-made_from inputs [] steps ∙ omega arith in
    let m : is_marked marks k ≡ true = n.last k e in
    let q : KeepsRows inputs steps marks (length steps) numbers kept = c.rows_kept inputs r.are_steps w v in
    let p : Matches numbers (rows_made inputs steps) (rows_made inputs kept) k = q.rows k (omega arith) m in
    record {
      refutes = record { are_steps = q.are_steps; ends = (number_of numbers k, omega (arith, c.latest k e m, length-made_from inputs [] kept), subst IsAbsurd (sym p.row) r.ends.2) };
      within = q.within;
      used = all-used steps marks numbers kept n c;
      useful = q.useful;
    }
