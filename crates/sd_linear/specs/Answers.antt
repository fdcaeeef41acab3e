-- what an answer says of the rows
use Rattle.std.specs.Prelude.{◌≡◌, List, []}
use Rattle.sd_rows.specs.declared.row.Row.{Row}
use Rattle.sd_rows.specs.Rows.{AllHold}
use Rattle.sd_linear.specs.declared.step.RowStep.{RowStep}
use Rattle.sd_linear.specs.declared.elimination.Eliminated.{Eliminated}
use Rattle.sd_linear.specs.declared.elimination.Eliminated.TheVariants.{Refuted, Point, Gap, Wide, Many}
use Rattle.sd_linear.specs.declared.elimination.Stop.{Stop}
use Rattle.sd_linear.specs.declared.elimination.Stop.TheVariants.{Memory, Ends}
use Rattle.sd_linear.specs.RowSteps.{rows_made, Refutes, AllUsed, AreUseful}
use Rattle.sd_linear.specs.Values.{AllWithin}
use Rattle.sd_linear.specs.Elimination.{Answer, refuted, point, gap, wide, many, Next, ends, value_of, columns}

abbrev pub answer_of : Eliminated → Answer
answer_of (Refuted steps) = refuted
answer_of (Point values) = point values
answer_of (Gap k) = gap k
answer_of (Wide k) = wide k
answer_of Many = many

-- the last row that the steps derive is absurd, each row that they make is within the bounds, each other row is used,
-- and each cut divides
pub record IsRefutation (inputs : List Row) (steps : List RowStep) : Type 0 where
  pub refutes : Refutes inputs steps
  pub within : AllWithin (rows_made inputs steps)
  pub used : AllUsed steps
  pub useful : AreUseful inputs [] steps

-- a refutation derives an absurd row, and a point meets all rows
abbrev pub Justified : List Row → Eliminated → Type 0
Justified inputs (Refuted steps) = IsRefutation inputs steps
Justified inputs (Point values) = AllHold (value_of (columns inputs) values) inputs
Justified inputs (Gap k) = Unit {0}
Justified inputs (Wide k) = Unit {0}
Justified inputs Many = Unit {0}

-- out of memory, or the answer is that with which the step ends
abbrev pub Stops : List Row → Stop → Next → Type 0
Stops inputs Memory next = Unit {0}
Stops inputs (Ends answer) next = (next ≡ ends (answer_of answer)) × Justified inputs answer

abbrev pub IsNoPoint : Eliminated → Type 0
IsNoPoint (Refuted steps) = Unit {0}
IsNoPoint (Point values) = ⊥
IsNoPoint (Gap k) = Unit {0}
IsNoPoint (Wide k) = Unit {0}
IsNoPoint Many = Unit {0}

-- out of memory, or the answer is another than a point
abbrev pub Fails : List Row → Stop → Answer → Type 0
Fails inputs Memory a = Unit {0}
Fails inputs (Ends answer) a = (a ≡ answer_of answer) × Justified inputs answer × IsNoPoint answer
