-- The listed candidates are the live ones, and their entries are proofs.
use Rattle.std.proofs.Common.{◌≡◌, List, sym, subst}
use Rattle.std.specs.Prelude.{Some, ◌⊎◌}
use Rattle.std.proofs.lemmas.Result.{err_from_is_err_and}
use Rattle.sd_product.specs.Inductive.{IsInductive}
use Rattle.sd_cert.specs.declared.certificate.CertPair.{CertPair}
use Rattle.sd_cert.specs.declared.fault.CertError.TheVariants.{NoMemory}
use Rattle.sd_cert.specs.Accepts.{FitsPairs, proofs_from}
use Rattle.sd_cert.specs.BadSteps.{step_fault}
use Rattle.sd_cert.specs.Headers.{headers_of}
use Rattle.sd_cert.proofs.TableLemmas.{passes-inductive, own-fault}
use Rattle.sd_cert.proofs.replaying.accept.Goals as goal

pub returns-clause-inductive : goal.returns-clause-inductive
returns-clause-inductive c =
    let h = c.args.work.now in
    let table = c.in_ok-table.table in
    subst (λ (ps : List CertPair). IsInductive h table (proofs_from 0 (headers_of h) ps)) c.as_slice-pairs.ensures
    (passes-inductive h c.as_slice-pairs.result.now table c.in_ok-table.ensures.size c.in_ok-table.ensures.live (subst (λ (ps : List CertPair). FitsPairs (headers_of h) ps) (sym c.as_slice-pairs.ensures) c.requires) c.in_ok-judge_pairs.ensures)

pub returns-in_err-judge_pairs-clause-fault : goal.returns-in_err-judge_pairs-clause-fault
returns-in_err-judge_pairs-clause-fault c =
    let h = c.args.work.now in
    let p = err_from_is_err_and c.from_residual-in_err-judge_pairs.result c.from_residual-in_err-judge_pairs.ensures.1 in
    rw (p.1, p.2) (subst (λ (ps : List CertPair). (c.in_err-judge_pairs.field-0.0 ≡ NoMemory) ⊎ (step_fault h ps ≡ Some c.in_err-judge_pairs.field-0.0)) c.as_slice-pairs.ensures
    (own-fault h c.as_slice-pairs.result.now c.in_ok-table.table c.in_ok-table.ensures.size c.in_ok-table.ensures.live _ c.in_err-judge_pairs.ensures))
