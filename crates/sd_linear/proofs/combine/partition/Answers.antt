use Rattle.std.proofs.Common.{rules, ◌≡◌, ◌≢◌, true, false, not, ap, sym, subst, [], ◌∷◌, ◌++◌, ◌+◌, pos, List, filter}
use Rattle.sd_rows.specs.declared.row.Row.{Row}
use Rattle.sd_linear.specs.Elimination.{is_free}
use Rattle.sd_linear.specs.DerivedRows.{rows_of, AreDerivedRows, IsDerivedRow, has_column}
use Rattle.sd_linear.proofs.Combining.{IsDerivedRow-item, place-is, from_place, filter-here, filter-past, free, not_free, proper-at}
use Rattle.sd_linear.proofs.Lists.{AreDerivedRows-append}
use Rattle.sd_linear.proofs.combine.partition.Goals as goal
use Rattle.sd_linear.proofs.combine.partition.Goals.{then-factor_of-eq0+in_ok-push, else-factor_of-eq0+in_ok-push-2}

pub factor_of-requires : goal.factor_of-requires
factor_of-requires c = (proper-at c.args.rows.now c.loop-r.r-index c.r-item.result c.loop-r-test.true c.r-item.is c.requires).0

pub loop-r-preserved : goal.loop-r-preserved
loop-r-preserved c =
    let k = c.args.column in
    let all : List Row = rows_of c.args.rows.now in
    let left : List Row = from_place c.loop-r.r-index c.args.rows.now in
    let rest : List Row = from_place (c.loop-r.r-index + 1) c.args.rows.now in
    let here : left ≡ c.r-item.result.row ∷ rest = place-is c.args.rows.now c.loop-r.r-index c.r-item.result c.loop-r-test.true c.r-item.is in
    let item : (made : List Row) → AreDerivedRows made c.args.rows.now → IsDerivedRow made c.r-item.result = λ made a. IsDerivedRow-item made c.args.rows.now c.loop-r.r-index c.r-item.result c.loop-r-test.true c.r-item.is a in
    elim c.if-factor_of-eq0.branch [
      | then-factor_of-eq0+in_ok-push w ↦
          let z : c.factor_of.result ≡ pos 0 = search rules in
          let y : is_free k c.r-item.result.row ≡ true = free k c.r-item.result.row c.factor_of.result c.factor_of.ensures z in
          let f : c.if-factor_of-eq0.free ≡ c.loop-r.free ++ c.r-item.result ∷ [] = search rules in
          record {
            with = rw w.with-is (filter-past (has_column k) c.loop-r.with c.r-item.result left rest (filter (has_column k) all) here (ap not y) c.loop-r.invariant.with);
            free = filter-here (is_free k) c.loop-r.free c.if-factor_of-eq0.free c.r-item.result left rest (filter (is_free k) all) here y f c.loop-r.invariant.free;
            derived = λ made a.
                let h = c.loop-r.invariant.derived made a in
                (rw w.with-is h.0, subst (AreDerivedRows made) (sym f) (AreDerivedRows-append made c.loop-r.free (c.r-item.result ∷ []) h.1 (item made a, tt)));
          }
      | else-factor_of-eq0+in_ok-push-2 w ↦
          let z : c.factor_of.result ≢ pos 0 = search rules in
          let y : is_free k c.r-item.result.row ≡ false = not_free k c.r-item.result.row c.factor_of.result c.factor_of.ensures z in
          let f : c.if-factor_of-eq0.with ≡ c.loop-r.with ++ c.r-item.result ∷ [] = search rules in
          record {
            with = filter-here (has_column k) c.loop-r.with c.if-factor_of-eq0.with c.r-item.result left rest (filter (has_column k) all) here (ap not y) f c.loop-r.invariant.with;
            free = rw w.free-is (filter-past (is_free k) c.loop-r.free c.r-item.result left rest (filter (is_free k) all) here y c.loop-r.invariant.free);
            derived = λ made a.
                let h = c.loop-r.invariant.derived made a in
                (subst (AreDerivedRows made) (sym f) (AreDerivedRows-append made c.loop-r.with (c.r-item.result ∷ []) h.0 (item made a, tt)), rw w.free-is h.1);
          }
    ]
