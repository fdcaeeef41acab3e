-- how a row comes into a list, by cases
use Rattle.std.proofs.Common.{◌≡◌, ◌≢◌, ℕ, suc, ◌<◌, ◌≤◌, List, [], ◌∷◌, ◌++◌, length, refl, ap, true, false, arith, pos, ◌<ℤ◌}
use Rattle.std.proofs.lemmas.Int.{ints}
use Rattle.std.proofs.lemmas.Bool.Decides.{nat_tests}
use Rattle.sd_rows.specs.declared.row.Row.{Row}
use Rattle.sd_linear.specs.declared.list.DerivedRow.{DerivedRow}
use Rattle.sd_rows.specs.Rows.{Parts, is_within, is_empty}
use Rattle.sd_rows.specs.RowOps.{reduced}
use Rattle.sd_linear.specs.Elimination.{refuted, many, continues, ends, after, joined, come_in, all_come_in}
use Rattle.sd_linear.specs.DerivedRows.{rows_of}

not_empty : (ps : Parts) → ps ≢ [] → is_empty ps ≡ false
not_empty [] n = absurd (n refl)
not_empty (p ∷ ps) n = refl

pub come_in-refuted : (k : ℕ) (r s : Row) (rows : List Row) → is_within r ≡ true → s ≡ reduced r → s.parts ≡ [] → s.bound <ℤ pos 0 → come_in k r rows ≡ ends refuted
come_in-refuted k r s rows w e p b =
    let f : is_empty s.parts ≡ true = ap is_empty p in grind (arith, ints)

length-rows_of : (hs : List DerivedRow) → length (rows_of hs) ≡ length hs
length-rows_of [] = refl
length-rows_of (h ∷ hs) = ap suc (length-rows_of hs)

pub come_in-continues : (k : ℕ) (r s : Row) (rows : List Row) (new : List DerivedRow) → is_within r ≡ true → s ≡ reduced r → s.parts ≢ [] → rows_of new ≡ joined s rows → length new ≤ 20000 → come_in k r rows ≡ continues (rows_of new)
come_in-continues k r s rows new w e p j l = grind (arith, nat_tests, not_empty s.parts p, length-rows_of new)

pub come_in-many : (k : ℕ) (r s : Row) (rows : List Row) (new : List DerivedRow) → is_within r ≡ true → s ≡ reduced r → s.parts ≢ [] → rows_of new ≡ joined s rows → 20000 < length new → come_in k r rows ≡ ends many
come_in-many k r s rows new w e p j l = grind (arith, nat_tests, not_empty s.parts p, length-rows_of new)

-- ---- many rows

pub all_come_in-append : (k : ℕ) (rs ss rows : List Row) → all_come_in k (rs ++ ss) rows ≡ after (all_come_in k rs rows) (all_come_in k ss)
all_come_in-append k [] ss rows = refl
all_come_in-append k (r ∷ rs) ss rows = grind (arith, all_come_in-append k rs ss)
