-- a point of the elimination meets the rows
use Rattle.std.proofs.Common.{◌≡◌, ℕ, ◌/◌, List, [], ◌∷◌, ◌++◌, refl, sym, ap, ◌∙◌, subst, Bool, true, false, arith, nat_le, unsigned_abs, filter, Option, Some, None, ℤ, pos, ◌≤ℤ◌, ◌<ℤ◌, ◌^◌}
use Rattle.std.specs.Prelude.{if◌then◌else◌, int_lt}
use Rattle.std.proofs.lemmas.Int.{ints}
use Rattle.std.proofs.lemmas.Bool.Decides.{Decides-int_eq}
use Rattle.sd_rows.specs.declared.row.Row.{Row}
use Rattle.sd_rows.specs.Rows.{Parts, sum_at, Holds, AllHold, IsProper, is_within, is_empty}
use Rattle.sd_rows.specs.Divisors.{greatest_divisor}
use Rattle.sd_rows.specs.RowOps.{reduced, sizes}
use Rattle.sd_linear.specs.Elimination.{Answer, refuted, point, gap, wide, many, Next, continues, ends, after, answer_after, same_parts, joined, with_reduced, come_in, all_come_in, factor_of, is_free, is_negative, is_positive, combined, combined_with, combinations, eliminated, Range, range_in, nearest, value_of, within_reach, in_range, chosen, solved, columns, elimination}
use Rattle.sd_rows.proofs.Integers.{same_number_is}
use Rattle.sd_rows.proofs.Cuts.{Holds-unreduced}
use Rattle.sd_linear.proofs.Deriving.{IsProper-reduced}
use Rattle.sd_linear.proofs.Combining.{IsProper-added, combined_from}
use Rattle.sd_rows.proofs.Greatest.{multipliers-positive}
use Rattle.sd_linear.proofs.Choosing.{Puts, AllProper, HoldIfBound, InRange, range-holds, nearest-in}
use Rattle.sd_linear.proofs.Falling.{ColumnsIn, AllColumnsIn, ColumnsIn-over, ColumnsIn-added, factor_of-combined, without, sum-elsewhere, in-columns}

-- a row that may come in
pub record IsGood (ks : List ℕ) (r : Row) : Type 0 where
  pub proper : IsProper r.parts
  pub columns : ColumnsIn ks r.parts

abbrev pub AllGood : List ℕ → List Row → Type 0
AllGood ks [] = Unit {0}
AllGood ks (r ∷ rs) = IsGood ks r × AllGood ks rs

-- a row of a list
pub record IsListed (ks : List ℕ) (r : Row) : Type 0 where
  pub good : IsGood ks r
  pub full : is_empty r.parts ≡ false

abbrev pub AllListed : List ℕ → List Row → Type 0
AllListed ks [] = Unit {0}
AllListed ks (r ∷ rs) = IsListed ks r × AllListed ks rs

-- ---- a row comes in

pub same_parts-true : (a b : Parts) → same_parts a b ≡ true → a ≡ b
same_parts-true [] [] e = refl
same_parts-true [] (q ∷ qs) e = absurd (cc)
same_parts-true (p ∷ ps) [] e = absurd (cc)
same_parts-true (p ∷ ps) (q ∷ qs) e = grind (arith, Decides-int_eq, same_parts-true ps qs)

AllListed-joined : (ks : List ℕ) (r : Row) (rows : List Row) → IsListed ks r → AllListed ks rows → AllListed ks (joined r rows)
AllListed-joined ks r [] h a = (h, tt)
AllListed-joined ks r (s ∷ ss) h a = grind (arith, AllListed-joined ks r ss h a.1)

AllHold-joined : (x : ℕ → ℤ) (r : Row) (rows : List Row) → AllHold x (joined r rows) → AllHold x rows × Holds x r
AllHold-joined x r [] h = (tt, h.0)
AllHold-joined x r (s ∷ ss) h =
    grind (arith, ints, AllHold-joined x r ss, λ (e : same_parts r.parts s.parts ≡ true). ap (sum_at x) (same_parts-true r.parts s.parts e))

-- the list has become good, and is at least as strong as before with the row
pub record Strengthens (ks : List ℕ) (r : List Row) (old new : List Row) : Type 0 where
  pub listed : AllListed ks new
  pub stronger : (x : ℕ → ℤ) → AllHold x new → AllHold x old × AllHold x r

Holds-empty : (x : ℕ → ℤ) (ps : Parts) (b : ℤ) → is_empty ps ≡ true → int_lt b (pos 0) ≡ false → sum_at x ps ≤ℤ b
Holds-empty x [] b f g = omega (arith, ints)
Holds-empty x (p ∷ ps) b f g = absurd (cc)

with_reduced-strengthens : (ks : List ℕ) (s : Row) (rows new : List Row) → IsGood ks s → AllListed ks rows → with_reduced s rows ≡ continues new → AllListed ks new × ((x : ℕ → ℤ) → AllHold x new → AllHold x rows × Holds x s)
with_reduced-strengthens ks s rows new h a e = (
  grind (arith, a, λ (f : is_empty s.parts ≡ false). AllListed-joined ks s rows (record { good = h; full = f }) a),
  λ x k. grind (arith, k, Holds-empty x s.parts s.bound, AllHold-joined x s rows),
)

IsGood-reduced : (ks : List ℕ) (r : Row) → IsGood ks r → IsGood ks (reduced r)
IsGood-reduced ks r h = record { proper = IsProper-reduced r h.proper; columns = ColumnsIn-over ks (greatest_divisor (sizes r.parts)) r.parts h.columns }

come_in-strengthens : (ks : List ℕ) (k : ℕ) (r : Row) (rows new : List Row) → IsGood ks r → AllListed ks rows → come_in k r rows ≡ continues new → AllListed ks new × ((x : ℕ → ℤ) → AllHold x new → AllHold x rows × Holds x r)
come_in-strengthens ks k r rows new h a e = go (is_within r) e
  where
    go : (b : Bool) → (if b then with_reduced (reduced r) rows else ends (wide k)) ≡ continues new → AllListed ks new × ((x : ℕ → ℤ) → AllHold x new → AllHold x rows × Holds x r)
    go true f = let t = with_reduced-strengthens ks (reduced r) rows new (IsGood-reduced ks r h) a f in (t.0, λ x g. let u = t.1 x g in (u.0, Holds-unreduced x r u.1))
    go false f = absurd (cc)

pub all-strengthen : (ks : List ℕ) (k : ℕ) (rs rows new : List Row) → AllGood ks rs → AllListed ks rows → all_come_in k rs rows ≡ continues new → Strengthens ks rs rows new
all-strengthen ks k [] rows new h a e = let f : rows ≡ new = cc in record { listed = subst (AllListed ks) f a; stronger = λ x g. (subst (AllHold x) (sym f) g, tt) }
all-strengthen ks k (r ∷ rs) rows new h a e = go (come_in k r rows) refl e (λ mid l f. all-strengthen ks k rs mid new h.1 l f)
  where
    go : (n : Next) → come_in k r rows ≡ n → after n (all_come_in k rs) ≡ continues new → ((mid : List Row) → AllListed ks mid → all_come_in k rs mid ≡ continues new → Strengthens ks rs mid new) → Strengthens ks (r ∷ rs) rows new
    go (continues mid) f g i =
        let t = come_in-strengthens ks k r rows mid h.0 a f in
        let s : Strengthens ks rs mid new = i mid t.0 g in
        record { listed = s.listed; stronger = λ x w. let u = s.stronger x w in let v = t.1 x u.0 in (v.0, (v.1, u.1)) }
    go (ends b) f g i = absurd (cc)

-- ---- no step ends with a point

with_reduced-no_point : (s : Row) (rows : List Row) (vs : List ℤ) → with_reduced s rows ≡ ends (point vs) → ⊥
with_reduced-no_point s rows vs e = grind arith

pub come_in-no_point : (k : ℕ) (r : Row) (rows : List Row) (vs : List ℤ) → come_in k r rows ≡ ends (point vs) → ⊥
come_in-no_point k r rows vs e = grind (arith, with_reduced-no_point (reduced r) rows vs)

pub all_come_in-no_point : (k : ℕ) (rs rows : List Row) (vs : List ℤ) → all_come_in k rs rows ≡ ends (point vs) → ⊥
all_come_in-no_point k [] rows vs e = cc
all_come_in-no_point k (r ∷ rs) rows vs e = grind (arith, come_in-no_point k r rows vs, λ (m : List Row). all_come_in-no_point k rs m vs)

-- ---- the rows after a column is eliminated

IsGood-combined : (k : ℕ) (ks : List ℕ) (r s : Row) → is_negative k r ≡ true → is_positive k s ≡ true → IsGood (k ∷ ks) r → IsGood (k ∷ ks) s → IsGood ks (combined k r s)
IsGood-combined k ks r s e f a b =
    let p : ℕ = unsigned_abs (factor_of k r.parts) in
    let q : ℕ = unsigned_abs (factor_of k s.parts) in
    let d : ℕ = greatest_divisor (p ∷ q ∷ []) in
    let n : factor_of k r.parts <ℤ pos 0 = omega (arith, ints) in
    let o : pos 0 <ℤ factor_of k s.parts = omega (arith, ints) in
    let m = multipliers-positive p q (omega (arith, ints)) (omega (arith, ints)) in
    let c : IsProper (combined k r s).parts = IsProper-added (q / d) (p / d) r s (omega (arith, m.0)) (omega (arith, m.1)) a.proper b.proper in
    record {
      proper = c;
      columns = without k ks (combined k r s).parts c.no_zero
          (factor_of-combined k (q / d) (p / d) d r s refl refl refl (omega (arith, m.0)) (omega (arith, m.1)) n o a.proper b.proper)
          (ColumnsIn-added (k ∷ ks) (q / d) (p / d) r s a.columns b.columns);
    }

AllGood-append : (ks : List ℕ) (rs ss : List Row) → AllGood ks rs → AllGood ks ss → AllGood ks (rs ++ ss)
AllGood-append ks [] ss a b = b
AllGood-append ks (r ∷ rs) ss a b = (a.0, AllGood-append ks rs ss a.1 b)

AllGood-with : (k : ℕ) (ks : List ℕ) (r : Row) (rows : List Row) → is_negative k r ≡ true → IsGood (k ∷ ks) r → AllListed (k ∷ ks) rows → AllGood ks (combined_with k r rows)
AllGood-with k ks r [] e h a = tt
AllGood-with k ks r (s ∷ ss) e h a =
    grind (arith, AllGood-with k ks r ss e h a.1, λ (f : is_positive k s ≡ true). IsGood-combined k ks r s e f h a.0.good)

AllGood-combinations : (k : ℕ) (ks : List ℕ) (all rows : List Row) → AllListed (k ∷ ks) all → AllListed (k ∷ ks) rows → AllGood ks (combined_from k all rows)
AllGood-combinations k ks all [] h a = tt
AllGood-combinations k ks all (r ∷ rs) h a =
    grind (
      arith,
      AllGood-combinations k ks all rs h a.1,
      λ (f : is_negative k r ≡ true) (i : AllGood ks (combined_from k all rs)).
          AllGood-append ks (combined_with k r all) (combined_from k all rs) (AllGood-with k ks r all f a.0.good h) i,
    )

IsListed-free : (k : ℕ) (ks : List ℕ) (r : Row) → is_free k r ≡ true → IsListed (k ∷ ks) r → IsListed ks r
IsListed-free k ks r e a = record {
  good = record { proper = a.good.proper; columns = without k ks r.parts a.good.proper.no_zero (same_number_is (factor_of k r.parts) (pos 0) e) a.good.columns };
  full = a.full;
}

AllListed-free : (k : ℕ) (ks : List ℕ) (rows : List Row) → AllListed (k ∷ ks) rows → AllListed ks (filter (is_free k) rows)
AllListed-free k ks [] a = tt
AllListed-free k ks (r ∷ rs) a = grind (arith, AllListed-free k ks rs a.1, λ (e : is_free k r ≡ true). IsListed-free k ks r e a.0)

eliminated-strengthens : (k : ℕ) (ks : List ℕ) (rows later : List Row) → AllListed (k ∷ ks) rows → eliminated k rows ≡ continues later → Strengthens ks (combinations k rows) (filter (is_free k) rows) later
eliminated-strengthens k ks rows later a e =
    all-strengthen ks k (combinations k rows) (filter (is_free k) rows) later (AllGood-combinations k ks rows rows a a) (AllListed-free k ks rows a) e

-- ---- the point

free-or-bound : (k : ℕ) (v : ℤ) (x x' : ℕ → ℤ) (ks : List ℕ) (rows : List Row) → Puts k v x x' → AllListed ks rows → AllHold x (filter (is_free k) rows) → HoldIfBound k x' rows → AllHold x' rows
free-or-bound k v x x' ks [] p a h b = tt
free-or-bound k v x x' ks (r ∷ rs) p a h b =
    grind (
      arith,
      b.0,
      λ (g : AllHold x (filter (is_free k) rs)). free-or-bound k v x x' ks rs p a.1 g b.1,
      λ (e : is_free k r ≡ true). sum-elsewhere k v x x' r.parts p a.0.good.proper.no_zero (same_number_is (factor_of k r.parts) (pos 0) e),
    )

AllProper-listed : (ks : List ℕ) (rows : List Row) → AllListed ks rows → AllProper rows
AllProper-listed ks [] a = tt
AllProper-listed ks (r ∷ rs) a = (a.0.good.proper, AllProper-listed ks rs a.1)

puts : (k : ℕ) (ks : List ℕ) (v : ℤ) (vs : List ℤ) → Puts k v (value_of ks vs) (value_of (k ∷ ks) (v ∷ vs))
puts k ks v vs = record { here = grind arith; elsewhere = λ j f. grind arith }

-- nothing is left once there are no columns
none-left : (rows : List Row) → AllListed [] rows → rows ≡ []
none-left [] a = refl
none-left (r ∷ rs) a = absurd (none r.parts a.0.full a.0.good.columns)
  where
    none : (ps : Parts) → is_empty ps ≡ false → ColumnsIn [] ps → ⊥
    none [] e c = cc
    none (p ∷ ps) e c = c.0

pub solved-meets : (ks : List ℕ) (rows : List Row) (vs : List ℤ) → AllListed ks rows → solved ks rows ≡ point vs → AllHold (value_of ks vs) rows
solved-meets [] rows vs a e = subst (AllHold (value_of [] vs)) (sym (none-left rows a)) tt
solved-meets (k ∷ ks) rows vs a e = first (eliminated k rows) refl e (λ later ws l f. solved-meets ks later ws l f)
  where
    Later : Type 0
    Later = (later : List Row) (ws : List ℤ) → AllListed ks later → solved ks later ≡ point ws → AllHold (value_of ks ws) later

    last : (later : List Row) (ws : List ℤ) → Strengthens ks (combinations k rows) (filter (is_free k) rows) later → solved ks later ≡ point ws → AllHold (value_of ks ws) later
        → (o : Option Range) → range_in k (value_of ks ws) rows (None, None) ≡ o → in_range k ws o ≡ point vs → AllHold (value_of (k ∷ ks) vs) rows
    last later ws s f h None g e = absurd (cc)
    last later ws s f h (Some range) g e = value (nearest range) refl e
      where
        value : (o : Option ℤ) → nearest range ≡ o → within_reach k ws o ≡ point vs → AllHold (value_of (k ∷ ks) vs) rows
        value None i e = absurd (cc)
        value (Some v) i e = reach (nat_le (unsigned_abs v) (2 ^ 56)) e
          where
            reach : (b : Bool) → (if b then point (v ∷ ws) else wide k) ≡ point vs → AllHold (value_of (k ∷ ks) vs) rows
            reach true e =
                let j : v ∷ ws ≡ vs = cc in
                let p : Puts k v (value_of ks ws) (value_of (k ∷ ks) (v ∷ ws)) = puts k ks v ws in
                let q : InRange range v = nearest-in range.0 range.1 v i in
                let b = range-holds k v (value_of ks ws) (value_of (k ∷ ks) (v ∷ ws)) rows None None range p (AllProper-listed (k ∷ ks) rows a) g q in
                subst (λ (us : List ℤ). AllHold (value_of (k ∷ ks) us) rows) j
                (free-or-bound k v (value_of ks ws) (value_of (k ∷ ks) (v ∷ ws)) (k ∷ ks) rows p a (s.stronger (value_of ks ws) h).0 b.0)
            reach false e = absurd (cc)

    second : (later : List Row) → Strengthens ks (combinations k rows) (filter (is_free k) rows) later → (c : Answer) → solved ks later ≡ c → chosen k ks rows c ≡ point vs → Later → AllHold (value_of (k ∷ ks) vs) rows
    second later s (point ws) f e i = last later ws s f (i later ws s.listed f) (range_in k (value_of ks ws) rows (None, None)) refl e
    second later s refuted f e i = absurd (cc)
    second later s (gap j) f e i = absurd (cc)
    second later s (wide j) f e i = absurd (cc)
    second later s many f e i = absurd (cc)

    first : (n : Next) → eliminated k rows ≡ n → answer_after n (λ later. chosen k ks rows (solved ks later)) ≡ point vs → Later → AllHold (value_of (k ∷ ks) vs) rows
    first (continues later) f e i = second later (eliminated-strengthens k ks rows later a f) (solved ks later) refl e i
    first (ends b) f e i = absurd (all_come_in-no_point k (combinations k rows) (filter (is_free k) rows) vs (f ∙ ap ends e))

AllGood-inputs : (ks : List ℕ) (rows : List Row) → AllProper rows → AllColumnsIn ks rows → AllGood ks rows
AllGood-inputs ks [] p c = tt
AllGood-inputs ks (r ∷ rs) p c = (record { proper = p.0; columns = c.0 }, AllGood-inputs ks rs p.1 c.1)

-- the point that elimination gives meets all rows
pub elimination-meets : (rows : List Row) (vs : List ℤ) → AllProper rows → elimination rows ≡ point vs → AllHold (value_of (columns rows) vs) rows
elimination-meets rows vs p e = go (all_come_in 0 rows []) refl e
  where
    go : (n : Next) → all_come_in 0 rows [] ≡ n → answer_after n (solved (columns rows)) ≡ point vs → AllHold (value_of (columns rows) vs) rows
    go (continues list) f e =
        let s : Strengthens (columns rows) rows [] list = all-strengthen (columns rows) 0 rows [] list (AllGood-inputs (columns rows) rows p (in-columns rows)) tt f in
        (s.stronger (value_of (columns rows) vs) (solved-meets (columns rows) list vs s.listed e)).1
    go (ends b) f e = absurd (all_come_in-no_point 0 rows [] vs (f ∙ ap ends e))
