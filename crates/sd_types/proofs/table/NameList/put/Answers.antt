use Rattle.std.proofs.Common.{List, [], ◌∷◌, ◌++◌, subst}
use Rattle.sd_base.specs.Value.{Text}
use Rattle.sd_types.specs.Names.{HaveSame}
use Rattle.sd_types.proofs.TableLemmas.{put-same}
use Rattle.sd_types.proofs.table.NameList.put.Goals as goal

pub returns : goal.returns
returns c =
    subst (λ (names : List Text). HaveSame c.insert.new.self.keys (names ++ c.args.name.now ∷ [])) c.self.view_is
    (put-same c.self.inside.set.keys c.insert.new.self.keys c.in_ok-clone_of.field-0 c.args.name.now c.in_ok-clone_of.ensures c.in_ok-insert.ensures.updates.0)
