use Rattle.std.proofs.Common.{rules, ◌≡◌, ◌≢◌, sym, true, false, List, [], ◌++◌, subst, length, ◌+◌, pos, ◌<ℤ◌, ◌≤◌, ◌<◌}
use Rattle.sd_rows.specs.Rows.{is_within, IsAbsurd}
use Rattle.sd_rows.specs.Divisors.{greatest_divisor}
use Rattle.sd_rows.specs.RowOps.{reduced, sizes}
use Rattle.sd_linear.specs.DerivedRows.{rows_of, AreDerivedRows, with_cut}
use Rattle.sd_linear.specs.Answers.{IsRefutation}
use Rattle.sd_linear.specs.RowSteps.{rows_made, Refutes}
use Rattle.sd_linear.specs.Elimination.{joined}
use Rattle.sd_linear.proofs.Deriving.{Derives, derives, IsDerivedRow-derived, Refutes-derived, AreDerivedRows-extended}
use Rattle.sd_linear.proofs.Coming.{come_in-refuted, come_in-continues, come_in-many}
use Rattle.sd_linear.specs.declared.step.RowStep.{RowStep}
use Rattle.sd_linear.proofs.combine.comes_in.Goals as goal

pub needed-requires : goal.needed-requires
needed-requires c =
    let w : is_within c.args.row ≡ true = search rules in
    let e : c.in_ok-row.row ≡ reduced c.args.row = search rules in
    let p : c.in_ok-row.row.parts ≡ [] = search rules in
    let b : c.in_ok-row.row.bound <ℤ pos 0 = search rules in
    let s : c.in_ok-row.is_cut ≡ false → c.args.row ≡ reduced c.args.row = c.in_ok-row.ensures.same in
    let o : c.in_ok-row.is_cut ≡ true → 1 < greatest_divisor (sizes c.args.row.parts) = c.in_ok-row.ensures.cut in
    let f : c.derive.new.steps ≡ c.args.steps.now ++ with_cut c.args.how (length c.args.steps.now) c.in_ok-row.is_cut = search rules in
    let d : Derives c.args.elimination.now.inputs.now c.derive.new.steps c.args.row =
    derives c.args.elimination.now.inputs.now c.args.steps.now c.derive.new.steps c.args.how c.args.row c.in_ok-row.is_cut c.requires.made c.requires.step c.requires.useful c.requires.derived.are_steps c.requires.derived.within c.requires.derived.useful w s o f in
    let g : c.as_slice.result.now ≡ c.derive.new.steps = c.as_slice.ensures in
    record {
      refutes = subst (Refutes c.args.elimination.now.inputs.now) (sym g) (Refutes-derived c.args.elimination.now.inputs.now c.derive.new.steps c.args.row d (subst IsAbsurd e (p, b)));
      within = rw g d.within;
      useful = rw g d.useful;
    }

pub returns-then-row-lt0-clause-stops : goal.returns-then-row-lt0-clause-stops
returns-then-row-lt0-clause-stops c =
    let w : is_within c.args.row ≡ true = search rules in
    let e : c.in_ok-row.row ≡ reduced c.args.row = search rules in
    let p : c.in_ok-row.row.parts ≡ [] = search rules in
    let b : c.in_ok-row.row.bound <ℤ pos 0 = search rules in
    let k : IsRefutation c.args.elimination.now.inputs.now c.in_ok-kept.kept = search rules in
    (come_in-refuted c.args.elimination.now.column c.args.row c.in_ok-row.row (rows_of c.args.list.now) w e p b, k)

pub returns-then-len-gt-MAX_ROWS-clause-stops : goal.returns-then-len-gt-MAX_ROWS-clause-stops
returns-then-len-gt-MAX_ROWS-clause-stops c =
    let w : is_within c.args.row ≡ true = search rules in
    let e : c.in_ok-row.row ≡ reduced c.args.row = search rules in
    let p : c.in_ok-row.row.parts ≢ [] = search rules in
    let j : rows_of c.join.new.list ≡ joined c.in_ok-row.row (rows_of c.args.list.now) = search rules in
    let l : 20000 < length c.join.new.list = search rules in
    (come_in-many c.args.elimination.now.column c.args.row c.in_ok-row.row (rows_of c.args.list.now) c.join.new.list w e p j l, tt)

pub returns-clause-continues : goal.returns-clause-continues
returns-clause-continues c =
    let w : is_within c.args.row ≡ true = search rules in
    let e : c.in_ok-row.row ≡ reduced c.args.row = search rules in
    let p : c.in_ok-row.row.parts ≢ [] = search rules in
    let j : rows_of c.join.new.list ≡ joined c.in_ok-row.row (rows_of c.args.list.now) = search rules in
    let l : length c.join.new.list ≤ 20000 = search rules in
    come_in-continues c.args.elimination.now.column c.args.row c.in_ok-row.row (rows_of c.args.list.now) c.join.new.list w e p j l

pub returns-clause-derived : goal.returns-clause-derived
returns-clause-derived c =
    let w : is_within c.args.row ≡ true = search rules in
    let e : c.in_ok-row.row ≡ reduced c.args.row = search rules in
    let s : c.in_ok-row.is_cut ≡ false → c.args.row ≡ reduced c.args.row = c.in_ok-row.ensures.same in
    let o : c.in_ok-row.is_cut ≡ true → 1 < greatest_divisor (sizes c.args.row.parts) = c.in_ok-row.ensures.cut in
    let more : List RowStep = with_cut c.args.how (length c.args.steps.now) c.in_ok-row.is_cut in
    let f : c.derive-2.new.steps ≡ c.args.steps.now ++ more = search rules in
    let d : Derives c.args.elimination.now.inputs.now c.derive-2.new.steps c.args.row =
    derives c.args.elimination.now.inputs.now c.args.steps.now c.derive-2.new.steps c.args.how c.args.row c.in_ok-row.is_cut c.requires.made c.requires.step c.requires.useful c.requires.derived.are_steps c.requires.derived.within c.requires.derived.useful w s o f in
    let n : c.in_ok-step.step + 1 ≡ length c.derive-2.new.steps = search rules in
    let a : AreDerivedRows (rows_made c.args.elimination.now.inputs.now c.derive-2.new.steps) c.args.list.now =
    subst (λ s. AreDerivedRows (rows_made c.args.elimination.now.inputs.now s) c.args.list.now) (sym f) (AreDerivedRows-extended c.args.elimination.now.inputs.now c.args.steps.now more c.args.list.now c.requires.derived.rows) in
    record {
      are_steps = d.are_steps;
      within = d.within;
      useful = d.useful;
      rows = c.in_ok-join.ensures.derived (rows_made c.args.elimination.now.inputs.now c.derive-2.new.steps)
          (IsDerivedRow-derived c.args.elimination.now.inputs.now c.derive-2.new.steps c.args.row (record { row = c.in_ok-row.row; step = c.in_ok-step.step }) d c.requires.proper w e n) a;
    }
