-- What the fields of `PairBodies` say of one another.
use Rattle.std.specs.Prelude.{◌≡◌, Some, slice_get}
use Rattle.sd_match.specs.declared.pair.Pair.{Pair}
use Rattle.sd_product.specs.Query.{old_context, new_context}
use Rattle.sd_product.specs.Work.{work_of, pairs_in, infallibles_in}
use Rattle.sd_product.specs.Sides.{AreSides}
use Rattle.sd_product.specs.Bodies.{PairOf}
use Rattle.sd_product.specs.declared.bodies.PairBodies.TheInside.{Inside}

abbrev pub pair_of : Inside → PairOf
pair_of b = record { work = b.work.now; pair = b.pair }

-- The sides are those of the pair's procedures.
pub record AreBodies (b : Inside) : Type 0 where
  pub own : Pair
  pub own_is : slice_get (pairs_in b.work.now) b.pair ≡ Some own
  pub sides : AreSides (old_context (work_of b.work.now) (infallibles_in b.work.now))
      (new_context (work_of b.work.now) (infallibles_in b.work.now)) b.bank
      (slice_get b.work.now.old.procs own.old) (slice_get b.work.now.new.procs own.new) b.sides
