use Rattle.std.proofs.Common.{◌∙◌, Bool, sym, ap}
use Rattle.std.specs.Prelude.{◌&&◌}
use Rattle.sd_base.proofs.SortLemmas.{same_sort-test}
use Rattle.sd_base.proofs.Texts.{same_text-test}
use Rattle.sd_core.specs.Formed.{same_sort}
use Rattle.sd_product.proofs.apart.is_named.Goals as goal

pub returns-then-not-is : goal.returns-then-not-is
returns-then-not-is c =
    let sorts = same_sort c.args.constant.now.sort c.args.sort.now in
    sym (ap (λ (b : Bool). b && sorts) (sym (same_text-test c.args.constant.now.name c.args.name.now c.is.result c.is.ensures) ∙ c.if-not-is.true))

pub returns : goal.returns
returns c =
    let sorts = same_sort c.args.constant.now.sort c.args.sort.now in
    same_sort-test c.args.constant.now.sort c.args.sort.now c.is_same_sort.result c.is_same_sort.ensures
    ∙ sym (ap (λ (b : Bool). b && sorts) (sym (same_text-test c.args.constant.now.name c.args.name.now c.is.result c.is.ensures) ∙ c.if-not-is.false))
