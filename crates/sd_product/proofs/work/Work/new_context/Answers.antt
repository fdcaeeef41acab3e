use Rattle.std.proofs.Common.{◌∙◌, ap}
use Rattle.sd_runs.specs.Infallible.{entry_at}
use Rattle.sd_product.specs.Query.{new_context}
use Rattle.sd_product.specs.Work.{PairedPrograms, work_of, infallibles_in}
use Rattle.sd_product.proofs.work.Work.new_context.Goals as goal

pub returns-clause-context : goal.returns-clause-context
returns-clause-context c =
    let own = ap entry_at c.as_slice.ensures.value ∙ c.self.invariant.new_infallible in
    (λ j. record { program = c.self.inside.new; infallible = own j }) ∙ ap (λ (h : PairedPrograms). new_context (work_of h) (infallibles_in h)) c.self.view_is

pub returns-clause-kept : goal.returns-clause-kept
returns-clause-kept c = c.as_slice-2.ensures.value ∙ c.self.invariant.new_kept
