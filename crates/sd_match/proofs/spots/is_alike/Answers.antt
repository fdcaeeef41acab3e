use Rattle.std.proofs.Common.{sym, ◌∙◌, ap}
use Rattle.std.specs.Prelude.{◌&&◌}
use Rattle.sd_base.proofs.Texts.{same_text-test}
use Rattle.sd_base.proofs.SortLemmas.{same_sort-test}
use Rattle.sd_core.specs.Formed.{same_sort}
use Rattle.sd_match.proofs.spots.is_alike.Goals as goal

pub returns : goal.returns
returns c =
    let old = c.args.old.now in
    let new = c.args.new.now in
    same_sort-test old.sort new.sort c.is_same_sort.result c.is_same_sort.ensures
    ∙ sym (ap (λ b. b && same_sort old.sort new.sort) (sym (same_text-test old.name new.name c.is.result c.is.ensures) ∙ c.if-not-is.false))
