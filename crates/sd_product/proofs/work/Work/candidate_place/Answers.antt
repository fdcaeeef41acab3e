use Rattle.std.proofs.Common.{rules}
use Rattle.sd_product.proofs.WorkLemmas.{place_within, place_at}
use Rattle.sd_product.proofs.work.Work.candidate_place.Goals as goal

pub index-requires : goal.index-requires
index-requires c = let within = place_within c.self.inside c.self.invariant c.args.self.now c.self.view_is c.args.candidate c.requires in search (rules, within)

pub returns : goal.returns
returns c = place_at c.self.inside c.self.invariant c.args.self.now c.self.view_is c.args.candidate c.index.result.now c.requires c.index.ensures
