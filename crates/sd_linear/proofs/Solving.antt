-- how the columns' values follow from the first column and the others
use Rattle.std.proofs.Common.{◌≡◌, ℕ, zero, suc, ◌+◌, ◌<◌, ◌≤◌, List, [], ◌∷◌, ◌++◌, length, drop, set, filter, cond, not, ◌⊎◌, inl, inr, Option, Some, refl, sym, ap, ◌∙◌, subst, Bool, true, false, arith, length-append, drop-cons, add-one, ℤ}
use Rattle.std.proofs.Math.ListN.{get_or-append}
use Rattle.std.proofs.Math.Seq.{get_or-append_seam}
use Rattle.std.specs.Prelude.{None, slice_index_or, option_and_then, if◌then◌else◌}
use Rattle.sd_rows.specs.declared.row.Row.{Row}
use Rattle.sd_linear.specs.declared.list.DerivedRow.{DerivedRow}
use Rattle.sd_linear.specs.declared.elimination.Eliminated.{Eliminated}
use Rattle.sd_linear.specs.declared.elimination.Eliminated.TheVariants.{Refuted, Point, Gap, Wide, Many}
use Rattle.sd_linear.specs.declared.elimination.Stop.{Stop}
use Rattle.sd_linear.specs.declared.elimination.Stop.TheVariants.{Memory, Ends}
use Rattle.sd_linear.specs.Elimination.{Answer, point, Next, continues, ends, answer_after, combinations, is_free, eliminated, factor_of, left_of, Range, limited, value_of, range_in, in_range, chosen, solved, all_come_in}
use Rattle.sd_rows.specs.Rows.{AllComputable}
use Rattle.sd_linear.specs.DerivedRows.{rows_of, Descends, list_at, rows_at, has_column}
use Rattle.sd_linear.specs.Answers.{answer_of, Justified, IsNoPoint, Stops, Fails}
use Rattle.sd_linear.proofs.Points.{all_come_in-no_point}

solved-continues : (k : ℕ) (ks : List ℕ) (rows later : List Row) → eliminated k rows ≡ continues later → solved (k ∷ ks) rows ≡ chosen k ks rows (solved ks later)
solved-continues k ks rows later e = ap (λ (n : Next). answer_after n (λ l. chosen k ks rows (solved ks l))) e

pub solved-point : (k : ℕ) (ks : List ℕ) (rows later : List Row) (vs : List ℤ) → eliminated k rows ≡ continues later → solved ks later ≡ point vs
    → solved (k ∷ ks) rows ≡ in_range k vs (range_in k (value_of ks vs) rows (None, None))
solved-point k ks rows later vs e f = solved-continues k ks rows later e ∙ ap (chosen k ks rows) f

no_point : (e : Eliminated) → ((vs : List ℤ) → answer_of e ≡ point vs → ⊥) → IsNoPoint e
no_point (Refuted steps) f = tt
no_point (Point values) f = f values refl
no_point (Gap k) f = tt
no_point (Wide k) f = tt
no_point Many f = tt

-- a step of an elimination fails
pub fails-step : (inputs : List Row) (stop : Stop) (k : ℕ) (rs rows : List Row) (f : List Row → Answer) → Stops inputs stop (all_come_in k rs rows) → Fails inputs stop (answer_after (all_come_in k rs rows) f)
fails-step inputs Memory k rs rows f s = tt
fails-step inputs (Ends e) k rs rows f s = (ap (λ (n : Next). answer_after n f) s.0, s.1, no_point e (λ vs g. all_come_in-no_point k rs rows vs (s.0 ∙ ap ends g)))

pass : (inputs : List Row) (k : ℕ) (ks : List ℕ) (rows : List Row) (e : Eliminated) (a : Answer) → a ≡ answer_of e → IsNoPoint e → chosen k ks rows a ≡ answer_of e
pass inputs k ks rows (Refuted steps) a f n = ap (chosen k ks rows) f
pass inputs k ks rows (Point values) a f n = absurd n
pass inputs k ks rows (Gap j) a f n = ap (chosen k ks rows) f
pass inputs k ks rows (Wide j) a f n = ap (chosen k ks rows) f
pass inputs k ks rows Many a f n = ap (chosen k ks rows) f

pub fails-later : (inputs : List Row) (stop : Stop) (k : ℕ) (ks : List ℕ) (rows later : List Row) → eliminated k rows ≡ continues later → Fails inputs stop (solved ks later) → Fails inputs stop (solved (k ∷ ks) rows)
fails-later inputs Memory k ks rows later e s = tt
fails-later inputs (Ends x) k ks rows later e s = (solved-continues k ks rows later e ∙ pass inputs k ks rows x (solved ks later) s.0 s.2, s.1, s.2)

-- ---- column after column

AllComputable-filter : (f : Row → Bool) (rows : List Row) → AllComputable rows → AllComputable (filter f rows)
AllComputable-filter f [] a = tt
AllComputable-filter f (r ∷ rs) a = grind (arith, AllComputable-filter f rs a.1)

-- the lists lead from the first rows to those that are left now, once n columns are gone
pub record Leads (columns : List ℕ) (n : ℕ) (first now : List Row) (lists : List (List DerivedRow)) : Type 0 where
  pub all : List (List Row)
  pub starts : rows_at all 0 ≡ first
  pub ends : rows_at all n ≡ now
  pub descends : Descends columns n all lists

pub leads-start : (columns : List ℕ) (first : List Row) → Leads columns 0 first first []
leads-start columns first = record {
  all = first ∷ [];
  starts = refl;
  ends = refl;
  descends = record {
    count = refl;
    later = λ i h. absurd (omega arith);
    listed = refl;
    with_column = λ i h. absurd (omega arith);
    computable = λ i h. absurd (omega arith);
  };
}

-- an older place, or the newest
older : (i n : ℕ) → i < n + 1 → (i < n) ⊎ (i ≡ n)
older i n h = grind arith

descends-push : (columns : List ℕ) (n : ℕ) (all : List (List Row)) (later : List Row) (lists lists' : List (List DerivedRow)) (with : List DerivedRow) → lists' ≡ lists ++ with ∷ []
    → eliminated (slice_index_or columns n 0) (rows_at all n) ≡ continues later → rows_of with ≡ filter (has_column (slice_index_or columns n 0)) (rows_at all n) → AllComputable (rows_of with)
    → Descends columns n all lists → Descends columns (n + 1) (all ++ later ∷ []) lists'
descends-push columns n all later lists lists' with e g w a d = record {
  count = omega (arith, length-append all (later ∷ []), d.count);
  later = λ i h. eliminated-at i (older i n h);
  listed = ap (λ (l : List (List DerivedRow)). length l) e ∙ omega (arith, length-append lists (with ∷ []), d.listed);
  with_column = λ i h. has i (older i n h);
  computable = λ i h. computable i (older i n h);
}
  where
    row-old : (i : ℕ) → i < n + 1 → rows_at (all ++ later ∷ []) i ≡ rows_at all i
    row-old i h = get_or-append all (later ∷ []) [] i (omega (arith, d.count))

    row-new : rows_at (all ++ later ∷ []) (n + 1) ≡ later
    row-new = ap (rows_at (all ++ later ∷ [])) (sym d.count) ∙ get_or-append_seam all later [] []

    list-old : (i : ℕ) → i < n → list_at lists' i ≡ list_at lists i
    list-old i h = ap (λ (l : List (List DerivedRow)). list_at l i) e ∙ get_or-append lists (with ∷ []) [] i (omega (arith, d.listed))

    list-new : (i : ℕ) → i ≡ n → list_at lists' i ≡ with
    list-new i h = ap (λ (l : List (List DerivedRow)). list_at l i) e ∙ ap (list_at (lists ++ with ∷ [])) (h ∙ sym d.listed) ∙ get_or-append_seam lists with [] []

    eliminated-at : (i : ℕ) → (i < n) ⊎ (i ≡ n) → eliminated (slice_index_or columns i 0) (rows_at (all ++ later ∷ []) i) ≡ continues (rows_at (all ++ later ∷ []) (i + 1))
    eliminated-at i (inl h) = ap (eliminated (slice_index_or columns i 0)) (row-old i (omega arith)) ∙ d.later i h ∙ ap (λ (l : List Row). continues l) (sym (row-old (i + 1) (omega arith)))
    eliminated-at i (inr h) =
        ap (λ (j : ℕ). eliminated (slice_index_or columns j 0) (rows_at (all ++ later ∷ []) j)) h
        ∙ ap (eliminated (slice_index_or columns n 0)) (row-old n (omega arith))
        ∙ g
        ∙ ap (λ (l : List Row). continues l) (sym row-new ∙ ap (λ (j : ℕ). rows_at (all ++ later ∷ []) (j + 1)) (sym h))

    has : (i : ℕ) → (i < n) ⊎ (i ≡ n) → rows_of (list_at lists' i) ≡ filter (has_column (slice_index_or columns i 0)) (rows_at (all ++ later ∷ []) i)
    has i (inl h) = ap rows_of (list-old i h) ∙ d.with_column i h ∙ ap (filter (has_column (slice_index_or columns i 0))) (sym (row-old i (omega arith)))
    has i (inr h) =
        ap rows_of (list-new i h)
        ∙ w
        ∙ ap (filter (has_column (slice_index_or columns n 0))) (sym (row-old n (omega arith)))
        ∙ ap (λ (j : ℕ). filter (has_column (slice_index_or columns j 0)) (rows_at (all ++ later ∷ []) j)) (sym h)

    computable : (i : ℕ) → (i < n) ⊎ (i ≡ n) → AllComputable (rows_of (list_at lists' i))
    computable i (inl h) = subst (λ (l : List DerivedRow). AllComputable (rows_of l)) (sym (list-old i h)) (d.computable i h)
    computable i (inr h) = subst (λ (l : List DerivedRow). AllComputable (rows_of l)) (sym (list-new i h)) a

pub leads-on : (columns : List ℕ) (n k : ℕ) (first now later : List Row) (lists lists' : List (List DerivedRow)) (with : List DerivedRow) → k ≡ slice_index_or columns n 0 → lists' ≡ lists ++ with ∷ []
    → eliminated k now ≡ continues later → rows_of with ≡ filter (has_column k) now → AllComputable now → Leads columns n first now lists → Leads columns (n + 1) first later lists'
leads-on columns n k first now later lists lists' with c e g w a l = record {
  all = l.all ++ later ∷ [];
  starts = get_or-append l.all (later ∷ []) [] 0 (omega (arith, l.descends.count)) ∙ l.starts;
  ends = ap (rows_at (l.all ++ later ∷ [])) (sym l.descends.count) ∙ get_or-append_seam l.all later [] [];
  descends = descends-push columns n l.all later lists lists' with e
      (ap (λ (rs : List Row). eliminated (slice_index_or columns n 0) rs) l.ends ∙ ap (λ (j : ℕ). eliminated j now) (sym c) ∙ g)
      (w ∙ ap (λ (j : ℕ). filter (has_column j) now) c ∙ ap (filter (has_column (slice_index_or columns n 0))) (sym l.ends))
      (subst AllComputable (sym w) (AllComputable-filter (has_column k) now a))
      l.descends;
}

-- what fails at a column fails at the first
climbs : (inputs : List Row) (stop : Stop) (columns : List ℕ) (n : ℕ) (all : List (List Row)) (lists : List (List DerivedRow)) (i : ℕ) → Descends columns n all lists → i ≤ n → n ≤ length columns
    → Fails inputs stop (solved (drop i columns) (rows_at all i)) → Fails inputs stop (solved columns (rows_at all 0))
climbs inputs stop columns n all lists zero d h l f = f
climbs inputs stop columns n all lists (suc i) d h l f =
    let k : ℕ = slice_index_or columns i 0 in
    let e : eliminated k (rows_at all i) ≡ continues (rows_at all (suc i)) = d.later i (omega arith) ∙ ap (λ (j : ℕ). continues (rows_at all j)) (add-one i) in
    let g : Fails inputs stop (solved (k ∷ drop (suc i) columns) (rows_at all i)) = fails-later inputs stop k (drop (suc i) columns) (rows_at all i) (rows_at all (suc i)) e f in
    climbs inputs stop columns n all lists i d (omega arith) l
    (subst (λ (ks : List ℕ). Fails inputs stop (solved ks (rows_at all i))) (sym (drop-cons columns i 0 (omega arith))) g)

-- a column's elimination fails
pub fails-column : (inputs : List Row) (stop : Stop) (columns : List ℕ) (n k : ℕ) (first now : List Row) (lists : List (List DerivedRow)) → Leads columns n first now lists → n < length columns → k ≡ slice_index_or columns n 0
    → Stops inputs stop (eliminated k now) → Fails inputs stop (solved columns first)
fails-column inputs stop columns n k first now lists l h e s =
    let ks : List ℕ = drop (suc n) columns in
    let f : Fails inputs stop (solved (k ∷ ks) now) = fails-step inputs stop k (combinations k now) (filter (is_free k) now) (λ later. chosen k ks now (solved ks later)) s in
    let g : Fails inputs stop (solved (drop n columns) now) = subst (λ (js : List ℕ). Fails inputs stop (solved js now)) (ap (λ (j : ℕ). j ∷ ks) e ∙ sym (drop-cons columns n 0 h)) f in
    let m : Fails inputs stop (solved (drop n columns) (rows_at l.all n)) = subst (λ (rs : List Row). Fails inputs stop (solved (drop n columns) rs)) (sym l.ends) g in
    subst (λ (rs : List Row). Fails inputs stop (solved columns rs)) l.starts (climbs inputs stop columns n l.all lists n l.descends (omega arith) (omega arith) m)

-- ---- value after value

-- the rows without the column say nothing of its value
and_then-same : (f g : ℤ → Option Range) (o : Option ℤ) → ((s : ℤ) → f s ≡ g s) → option_and_then f o ≡ option_and_then g o
and_then-same f g None h = refl
and_then-same f g (Some s) h = h s

range_in-with : (k : ℕ) (x : ℕ → ℤ) (rows : List Row) (range : Range) → range_in k x (filter (has_column k) rows) range ≡ range_in k x rows range
range_in-with k x [] range = refl
range_in-with k x (r ∷ rs) range = go (is_free k r) refl (λ g. range_in-with k x rs g)
  where
    go : (b : Bool) → is_free k r ≡ b → ((g : Range) → range_in k x (filter (has_column k) rs) g ≡ range_in k x rs g)
        → range_in k x (cond (not b) (r ∷ filter (has_column k) rs) (filter (has_column k) rs)) range
        ≡ (if b then range_in k x rs range else option_and_then (λ s. range_in k x rs (limited (factor_of k r.parts) s range)) (left_of k x r.bound r.parts))
    go true e i = i range
    go false e i =
        ap (λ (b : Bool). if b then range_in k x (filter (has_column k) rs) range else option_and_then (λ s. range_in k x (filter (has_column k) rs) (limited (factor_of k r.parts) s range)) (left_of k x r.bound r.parts)) e
        ∙ and_then-same (λ s. range_in k x (filter (has_column k) rs) (limited (factor_of k r.parts) s range)) (λ s. range_in k x rs (limited (factor_of k r.parts) s range)) (left_of k x r.bound r.parts)
        (λ s. i (limited (factor_of k r.parts) s range))

-- the value for a column, given those of the columns after it
abbrev pub choice : List ℕ → List ℕ → List ℤ → List Row → ℕ → Answer
choice columns ks vs rows i = let k = slice_index_or columns i 0 in in_range k vs (range_in k (value_of ks vs) rows (None, None))

pub solved-choice : (columns : List ℕ) (all : List (List Row)) (lists : List (List DerivedRow)) (i n : ℕ) (values : List ℤ) (ks : List ℕ) (vs : List ℤ) (hs : List DerivedRow) → n ≡ i + 1 → Descends columns (length columns) all lists → i < length columns
    → solved (drop n columns) (rows_at all n) ≡ point (drop n values) → ks ≡ drop n columns → vs ≡ drop n values → hs ≡ list_at lists i
    → solved (drop i columns) (rows_at all i) ≡ choice columns ks vs (rows_of hs) i
solved-choice columns all lists i n values ks vs hs m d h p e f g =
    let k : ℕ = slice_index_or columns i 0 in
    let q : eliminated k (rows_at all i) ≡ continues (rows_at all n) = d.later i h ∙ ap (λ (j : ℕ). continues (rows_at all j)) (sym m) in
    let s : suc i ≡ n = sym (m ∙ add-one i) in
    let r : rows_of hs ≡ filter (has_column k) (rows_at all i) = ap rows_of g ∙ d.with_column i h in
    ap (λ (js : List ℕ). solved js (rows_at all i)) (drop-cons columns i 0 h ∙ ap (λ (j : ℕ). k ∷ drop j columns) s)
    ∙ solved-point k (drop n columns) (rows_at all i) (rows_at all n) (drop n values) q p
    ∙ ap (λ (js : List ℕ). choice columns js (drop n values) (rows_at all i) i) (sym e)
    ∙ ap (λ (us : List ℤ). choice columns ks us (rows_at all i) i) (sym f)
    ∙ ap (in_range k vs) (sym (ap (λ (rs : List Row). range_in k (value_of ks vs) rs (None, None)) r ∙ range_in-with k (value_of ks vs) (rows_at all i) (None, None)))

-- no value is found for a column
pub fails-value : (inputs : List Row) (columns : List ℕ) (all : List (List Row)) (lists : List (List DerivedRow)) (i : ℕ) (answer : Eliminated) → Descends columns (length columns) all lists → i < length columns
    → solved (drop i columns) (rows_at all i) ≡ answer_of answer → Justified inputs answer → IsNoPoint answer → Fails inputs (Ends answer) (solved columns (rows_at all 0))
fails-value inputs columns all lists i answer d h p j o = climbs inputs (Ends answer) columns (length columns) all lists i d (omega arith) (omega arith) (p, j, o)

drop-set : (l : List ℤ) (i : ℕ) (v : ℤ) → i < length l → drop i (set l i v) ≡ v ∷ drop (suc i) l
drop-set [] i v h = absurd (omega arith)
drop-set (x ∷ xs) zero v h = refl
drop-set (x ∷ xs) (suc i) v h = drop-set xs i v (omega arith)

-- the values with that of one more column
pub drop-put : (l l' : List ℤ) (i n : ℕ) (v : ℤ) → n ≡ i + 1 → i < length l → l' ≡ set l i v → drop i l' ≡ v ∷ drop n l
drop-put l l' i n v m h e = ap (drop i) e ∙ drop-set l i v h ∙ ap (λ (j : ℕ). v ∷ drop j l) (sym (m ∙ add-one i))
