use Rattle.std.proofs.Common.{◌∙◌, ap}
use Rattle.std.specs.Prelude.{not, Some, None}
use Rattle.sd_base.proofs.SortLemmas.{same_sort-test}
use Rattle.sd_match.proofs.RefusalLemmas.{is_other_sort-named}
use Rattle.sd_match.proofs.refusal.is_retyped.Goals as goal

pub returns-in-None : goal.returns-in-None
returns-in-None c = is_other_sort-named c.args.old.now.sort c.args.news.now c.args.old.now.name None c.in-None.ensures

pub returns-in-Some : goal.returns-in-Some
returns-in-Some c =
    ap not (same_sort-test c.args.old.now.sort c.in-Some.new.now.sort c.is_same_sort.result c.is_same_sort.ensures)
    ∙ is_other_sort-named c.args.old.now.sort c.args.news.now c.args.old.now.name (Some c.in-Some.new.now) c.in-Some.ensures
