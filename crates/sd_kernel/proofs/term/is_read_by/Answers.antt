use Rattle.std.proofs.Common.{sym, ap, ◌∙◌}
use Rattle.sd_base.proofs.SortLemmas.{map_is}
use Rattle.sd_term.specs.Sorts.{same_sort}
use Rattle.sd_kernel.specs.Steps.{is_read_by}
use Rattle.sd_kernel.proofs.term.is_read_by.Goals as goal

pub returns-in-Map : goal.returns-in-Map
returns-in-Map c =
    c.is_one_sort.ensures ∙ ap (λ s. same_sort s c.args.index.now) c.get.ensures ∙ sym (ap (λ s. is_read_by s c.args.index.now) (c.in-Map.is ∙ map_is c.in-Map.own c.in-Map.field-1))
