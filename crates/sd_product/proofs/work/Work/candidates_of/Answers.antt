use Rattle.std.proofs.Common.{◌∙◌, ap, sym, rules}
use Rattle.std.specs.Prelude.{Some}
use Rattle.sd_product.proofs.WorkLemmas.{list_within, list_at}
use Rattle.sd_product.proofs.work.Work.candidates_of.Goals as goal

pub index-requires : goal.index-requires
index-requires c = let within = list_within c.self.inside c.self.invariant c.args.self.now c.self.view_is c.args.pair c.requires in search (rules, within)

pub returns : goal.returns
returns c = list_at c.self.inside c.self.invariant c.args.self.now c.self.view_is c.args.pair c.requires c.index.result.now c.index.ensures ∙ ap Some (sym c.as_slice.ensures)
