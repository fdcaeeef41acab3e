use Rattle.sd_linear.proofs.FirstPlaces.{found-set}
use Rattle.sd_linear.proofs.list.RowList.set.Goals as goal

pub invariant_of-self : goal.invariant_of-self
invariant_of-self c = found-set c.self.inside.places c.self.inside.rows.items c.args.place c.args.derived (rw c.self.view_is c.requires.same) c.self.invariant
