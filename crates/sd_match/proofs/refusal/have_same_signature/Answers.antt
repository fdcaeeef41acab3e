use Rattle.std.proofs.Common.{◌≡◌, ◌∙◌, sym, ap, true, false}
use Rattle.std.specs.Prelude.{◌&&◌}
use Rattle.sd_base.proofs.SortLemmas.{same_sort-test}
use Rattle.sd_core.specs.Formed.{same_sort}
use Rattle.sd_match.specs.Refusals.{all_same_sorts}
use Rattle.sd_match.proofs.refusal.have_same_signature.Goals as goal

pub returns-then-not-have_all_same_sorts : goal.returns-then-not-have_all_same_sorts
returns-then-not-have_all_same_sorts c =
    let t : all_same_sorts c.args.old.now.args c.args.new.now.args ≡ false = cc in
    ap (λ b. b && same_sort c.args.old.now.result c.args.new.now.result) (sym t)

pub returns : goal.returns
returns c =
    let t : all_same_sorts c.args.old.now.args c.args.new.now.args ≡ true = cc in
    same_sort-test c.args.old.now.result c.args.new.now.result c.is_same_sort.result c.is_same_sort.ensures
    ∙ ap (λ b. b && same_sort c.args.old.now.result c.args.new.now.result) (sym t)
