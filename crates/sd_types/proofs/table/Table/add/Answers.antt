use Rattle.sd_types.proofs.TableLemmas.{appended, missing, adds}
use Rattle.sd_types.proofs.table.Table.add.Goals as goal

pub returns : goal.returns
returns g c =
    adds _ _ _ _
    (missing c.self.inside.map _ c.self.view_is _ _ c.contains_key.ensures c.if-contains_key.false)
    (appended c.self.inside.map _ c.self.view_is _ _ c.contains_key.ensures c.if-contains_key.false _ c.in_ok-clone_of.ensures _ _ c.in_ok-insert.ensures.entries)
