use Rattle.sd_types.proofs.TableLemmas.{appended-finds, taken, kept}
use Rattle.sd_types.proofs.table.Table.put.Goals as goal

pub returns-then-contains_key : goal.returns-then-contains_key
returns-then-contains_key g c =
    kept _ _ _ (taken c.self.inside.map _ c.self.view_is _ _ c.contains_key.ensures c.if-contains_key.true)

pub returns : goal.returns
returns g c =
    appended-finds c.self.inside.map _ c.self.view_is _ _ c.contains_key.ensures c.if-contains_key.false _ c.in_ok-clone_of.ensures _ _ c.in_ok-insert.ensures.entries
