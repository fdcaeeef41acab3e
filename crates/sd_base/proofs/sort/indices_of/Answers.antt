use Rattle.std.proofs.Common.{◌≡◌, sym, ap, ◌∙◌, subst, IfOk}
use Rattle.sd_base.specs.declared.sort.Sort.{Sort}
use Rattle.sd_base.specs.Sorts.{index_sort}
use Rattle.sd_base.proofs.SortLemmas.{map_is}
use Rattle.sd_base.proofs.sort.indices_of.Goals as goal

pub returns-in-Map : goal.returns-in-Map
returns-in-Map c =
    subst (λ (t : Sort). IfOk c.clone_of.result (λ s. s ≡ t)) (c.get.ensures ∙ ap index_sort (sym (c.in-Map.is ∙ map_is c.in-Map.index c.in-Map.field-1))) c.clone_of.ensures
